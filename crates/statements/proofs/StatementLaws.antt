-- The statements of the words of a text are those of its class.
-- Assumes nothing.
use Prim.Native.Nat.{ℕ, ◌+◌, ◌/◌, ◌%◌}
use native.Mathlib.Omega.{arith}
use native.Mathlib.Nat.{mod-mod}
use mathlib.Core.Path.{◌≡◌, refl, sym, ◌∙◌, ap}
use mathlib.Core.Bool.{Bool, true, false, ◌&&◌}
use mathlib.Core.List.{List, [], ◌∷◌, ◌++◌, map, map-append, append-nil, append_assoc}
use lib.ListN.{length, length-append}
use Rattle.model.specs.Tree as M
use Rattle.model.specs.Words.{every}
use Rattle.model.proofs.Words.{and_left, and_right}
use Rattle.grammar.specs.Grammar.{Token, fixed, name, Name, Guard, Kin, children, kin, Part, nothing, send, go_to, if_then, if_else, Action, State, Text, all_word, do_word, move_word, if_word, then_word, else_word, endif_word, end_word, kin_words, guard_words, when_words, part_words, action_words, state_words, text_words}
use Rattle.grammar.specs.Words.{position}
use Rattle.grammar.specs.Kinds.{kind_of, bytes_of}
use Rattle.naming.specs.NameLists.{Lists, command_names, class_names, number_in, listed_in, none_twice}
use Rattle.naming.specs.Naming.{in_order, all_states, own_names, action_names, pattern_of, guard_of, part_of, when_of, action_of, state_of, class_in}
use Rattle.naming.specs.Known.{among, kin_known, guard_known, part_known, when_known, action_known, state_known, text_known}
use Rattle.encoding.specs.Records.{Eight, four, eight, zeros, pair}
use Rattle.encoding.specs.Encoding.{pattern_number, guard_records, part_guards, part_records, own_record, gathered, placed, when_guards, action_guards, state_guards, state_statements, statement_records}
use Rattle.encoding.specs.Numbers.{Every}
use Rattle.encoding.specs.Within.{Within}
use Rattle.encoding.proofs.Small.{Small8}
use Rattle.encoding.proofs.Inside.{states_inside}
use Rattle.encoding.proofs.SheetBytes.{states_small}
use Rattle.own.specs.Ahead.{first_bytes}
use Rattle.whens.specs.Ahead.{guards_after, low8}
use Rattle.whens.proofs.Passing.{other_kind, in_guard, in_when, Passes, kin_pass, guard_pass, when_pass, part_size, part_sized, list_words, state_listed, text_listed, list_pass, list_gives, placed_map}
use Rattle.whens.proofs.WhenLaws.{Finds, low_bytes}
use Rattle.statements.specs.Statements.{PartAhead, part_ahead, else_size, on_after, kin_ahead, statement_ahead, statements_from}
use Rattle.statements.proofs.PartLaws.{part_length, then_ahead, else_ahead, else_sized}

-- a number in a list of specs/ is found where its name is listed
abbrev pub FindsIn : (Name → ℕ) → List (List ℕ) → Type 0
FindsIn f records = (n : Name) → listed_in records n ≡ true → f n ≡ number_in records n

-- the bytes of the record of an if, where its parts have that many records
branch_low : (n a b x y : ℕ) → a ≡ x → b ≡ y
    → low8 (eight (four 2 0 n (n / 256)) (four a (a / 256) b (b / 256))) ≡ low8 (eight (four 2 0 (n % 256) (n / 256)) (pair x y))
branch_low n a b x y p q = rw (p, q, mod-mod n 256, mod-mod x 256, mod-mod y 256)

lists : (r : Eight) (A B C R : List Eight) → map low8 (r ∷ (A ++ B ++ C)) ++ R ≡ low8 r ∷ (map low8 A ++ (map low8 B ++ (map low8 C ++ R)))
lists r A B C R = simp (map-append, append_assoc)

-- an if's records, those of its parts, those behind it
branch_records : (g : M.Guard) (a b m : M.Part) (n i j k : ℕ) (R : List Eight)
    → i ≡ n + length (guard_records g) → j ≡ i + length (part_guards a) → k ≡ j + length (part_guards b)
    → map low8 (part_records (M.◌then◌ (M.branch g a b) m) n) ++ R
    ≡ low8 (own_record (M.branch g a b) n) ∷ (map low8 (part_records a i) ++ (map low8 (part_records b j) ++ (map low8 (part_records m k) ++ R)))
unfolding part_records part_guards
branch_records g a b m n i j k R p q r =
    let u = length-append (guard_records g) (part_guards a ++ part_guards b) in
    let v = length-append (part_guards a) (part_guards b) in
    let P : n + length (guard_records g) ≡ i = omega arith in
    let Q : n + length (guard_records g) + length (part_guards a) ≡ j = omega arith in
    let S : n + length (guard_records g ++ (part_guards a ++ part_guards b)) ≡ k = omega arith in
    lists (own_record (M.branch g a b) n) (part_records a (n + length (guard_records g))) (part_records b (n + length (guard_records g) + length (part_guards a)))
    (part_records m (n + length (guard_records g ++ (part_guards a ++ part_guards b)))) R
    ∙ (λ t. low8 (own_record (M.branch g a b) n) ∷ (map low8 (part_records a (P t)) ++ (map low8 (part_records b (Q t)) ++ (map low8 (part_records m (S t)) ++ R))))

-- a statement that is no if
leaf_records : (m : M.Part) (n : ℕ) (r : Eight) (R : List Eight) → low8 r ∷ (map low8 (part_records m (n + 0)) ++ R) ≡ low8 r ∷ (map low8 (part_records m n) ++ R)
leaf_records m n r R = ap (λ (k : ℕ). low8 r ∷ (map low8 (part_records m k) ++ R)) (omega arith)

module _ (l : Lists) (own : List Name) (number command class : Name → ℕ)
    (finds : Finds number own) (commands : FindsIn command (command_names l)) (classes : FindsIn class (class_names l)) where
  abbrev from : Bool → ℕ → List Token → List Eight
  from = statements_from number command class

  abbrev low_part : M.Part → ℕ → List Eight
  low_part m n = map low8 (part_records m n)

  -- words that are no statement, behind an action:
  on_pass : (P : ℕ → Bool) → P 2 ≡ false → P 3 ≡ false → P 8 ≡ false → P 9 ≡ false → P 11 ≡ false → Passes P (from true)
  unfolding statements_from on_after
  on_pass P a b c d e n w ws t =
      rw (other_kind P 2 (kind_of w) a t, other_kind P 3 (kind_of w) b t, other_kind P 8 (kind_of w) c t, other_kind P 9 (kind_of w) d t, other_kind P 11 (kind_of w) e t)

  -- words of when clauses, where no action: stands before them
  off_pass : Passes in_when (from false)
  unfolding statements_from on_after
  off_pass n w ws t = rw (other_kind in_when 2 (kind_of w) refl t, other_kind in_when 3 (kind_of w) refl t)

  guard_on : Passes in_guard (from true)
  guard_on = on_pass in_guard refl refl refl refl refl

  kin_right : (k : Kin) (rest : List Token) → kin_known l k ≡ true → kin_ahead class (kin_words k rest) ≡ pattern_number (pattern_of l k)
  unfolding kin_known kin_words kin_ahead pattern_of kind_of bytes_of
  kin_right children rest e = refl
  kin_right (kin n) rest e = classes n e

  send_gives : (c : Name) (k : Kin) → listed_in (command_names l) c ≡ true → kin_known l k ≡ true → (m : M.Part) (R : List Eight) (n : ℕ) (rest : List Token)
      → from true n rest ≡ low_part m n ++ R
      → from true n (fixed do_word ∷ name c ∷ fixed all_word ∷ kin_words k rest) ≡ low_part (M.◌then◌ (M.send (number_in (command_names l) c) (pattern_of l k)) m) n ++ R
  unfolding statements_from statement_ahead on_after guards_after kind_of bytes_of first_bytes part_records part_guards
  send_gives c k e f m R n rest h =
      let K = kin_pass l (from true) guard_on k n rest in
      let r : Eight = eight (four 0 (number_in (command_names l) c) (pattern_number (pattern_of l k)) 0) zeros in
      rw (commands c e, kin_right k rest f) (ap (λ (xs : List Eight). low8 r ∷ xs) (K ∙ h) ∙ sym (leaf_records m n r R))

  go_gives : (s : Name) → among own s ≡ true → (m : M.Part) (R : List Eight) (n : ℕ) (rest : List Token)
      → from true n rest ≡ low_part m n ++ R
      → from true n (fixed move_word ∷ name s ∷ rest) ≡ low_part (M.◌then◌ (M.go_to (position own s)) m) n ++ R
  unfolding statements_from statement_ahead on_after guards_after kind_of bytes_of first_bytes part_records part_guards
  go_gives s e m R n rest h =
      let r : Eight = eight (four 1 (position own s) 0 0) zeros in
      rw (finds s e) (ap (λ (xs : List Eight). low8 r ∷ xs) h ∙ sym (leaf_records m n r R))

  endif_on : (n : ℕ) (ws : List Token) → from true n (fixed endif_word ∷ ws) ≡ from true n ws
  unfolding statements_from on_after guards_after kind_of
  endif_on n ws = refl

  else_on : (n : ℕ) (ws : List Token) → from true n (fixed else_word ∷ ws) ≡ from true n ws
  unfolding statements_from on_after guards_after kind_of
  else_on n ws = refl

  branch_gives : (g : Guard) (a b m : M.Part) (R : List Eight) (n i j k : ℕ) (body : List Token)
      → i ≡ n + length (guard_records (guard_of g l)) → j ≡ i + length (part_guards a) → k ≡ j + length (part_guards b)
      → (part_ahead 0 0 (guard_words g (fixed then_word ∷ body))).size ≡ length (part_records a (n + length (guard_records (guard_of g l))))
      → else_size (part_ahead 0 0 (guard_words g (fixed then_word ∷ body))).behind
      ≡ length (part_records b (n + length (guard_records (guard_of g l)) + length (part_guards a)))
      → from true i body ≡ low_part a i ++ (low_part b j ++ (low_part m k ++ R))
      → from true n (fixed if_word ∷ guard_words g (fixed then_word ∷ body)) ≡ low_part (M.◌then◌ (M.branch (guard_of g l) a b) m) n ++ R
  unfolding statements_from statement_ahead on_after guards_after kind_of own_record
  branch_gives g a b m R n i j k body p q r x y h =
      let G : M.Guard = guard_of g l in
      let ws : List Token = guard_words g (fixed then_word ∷ body) in
      let A : ℕ = (part_ahead 0 0 ws).size in
      let B : ℕ = else_size (part_ahead 0 0 ws).behind in
      let H = branch_low n A B (length (part_records a (n + length (guard_records G)))) (length (part_records b (n + length (guard_records G) + length (part_guards a)))) x y in
      ap (λ (z : Eight). z ∷ from true n ws) H
      ∙ (ap (λ (zs : List Eight). low8 (own_record (M.branch G a b) n) ∷ zs)
      (guard_pass l (from true) guard_on g n (fixed then_word ∷ body) ∙ (ap (λ (z : ℕ). from true z body) (sym p) ∙ h))
      ∙ sym (branch_records G a b m n i j k R p q r))

  pub part_gives : (p : Part) → part_known l own p ≡ true → (m : M.Part) (R : List Eight) (n j : ℕ) (rest : List Token) → j ≡ n + part_size l p
      → from true j rest ≡ low_part m j ++ R → from true n (part_words p rest) ≡ low_part (part_of l own p m) n ++ R
  unfolding part_known part_size part_words part_of part_records part_guards else_size kind_of
  part_gives nothing k m R n j rest e h =
      let z : j ≡ n = omega arith in
      rw z at h
  part_gives (send p c x) k m R n j rest e h =
      part_gives p (and_left _ (listed_in (command_names l) c && kin_known l x) k) (M.◌then◌ (M.send (number_in (command_names l) c) (pattern_of l x)) m) R n j
      (fixed do_word ∷ name c ∷ fixed all_word ∷ kin_words x rest) e
      (send_gives c x (and_left _ (kin_known l x) (and_right (part_known l own p) _ k)) (and_right (listed_in (command_names l) c) (kin_known l x) (and_right (part_known l own p) _ k)) m R j rest h)
  part_gives (go_to p s) k m R n j rest e h =
      part_gives p (and_left _ (among own s) k) (M.◌then◌ (M.go_to (position own s)) m) R n j (fixed move_word ∷ name s ∷ rest) e
      (go_gives s (and_right (part_known l own p) _ k) m R j rest h)
  part_gives (if_then p g q) k m R n j rest e h =
      let i : ℕ = n + part_size l p in
      let a : M.Part = part_of l own q M.end in
      let G : M.Guard = guard_of g l in
      let f = part_sized l own q M.end in
      let kq : part_known l own q ≡ true = and_right (guard_known g l) _ (and_right (part_known l own p) _ k) in
      let A = then_ahead l g q rest in
      part_gives p (and_left _ (guard_known g l && part_known l own q) k) (M.◌then◌ (M.branch G a M.end) m) R n i
      (fixed if_word ∷ guard_words g (fixed then_word ∷ part_words q (fixed endif_word ∷ rest))) refl
      (branch_gives g a M.end m R i (i + length (guard_records G)) j j (part_words q (fixed endif_word ∷ rest)) refl (omega arith) (omega arith)
      (ap (λ (z : PartAhead). z.size) A ∙ part_length l own q (i + length (guard_records G))) (ap (λ (z : PartAhead). else_size z.behind) A)
      (part_gives q kq M.end (low_part m j ++ R) (i + length (guard_records G)) j (fixed endif_word ∷ rest) (omega arith) (endif_on j rest ∙ h)))
  part_gives (if_else p g q r) k m R n j rest e h =
      let i : ℕ = n + part_size l p in
      let a : M.Part = part_of l own q M.end in
      let b : M.Part = part_of l own r M.end in
      let G : M.Guard = guard_of g l in
      let f = part_sized l own q M.end in
      let u = part_sized l own r M.end in
      let x : ℕ = i + length (guard_records G) + part_size l q in
      let last : List Token = part_words r (fixed endif_word ∷ rest) in
      let A = else_ahead l g q r rest in
      let kqr : (part_known l own q && part_known l own r) ≡ true = and_right (guard_known g l) _ (and_right (part_known l own p) _ k) in
      part_gives p (and_left _ (guard_known g l && (part_known l own q && part_known l own r)) k) (M.◌then◌ (M.branch G a b) m) R n i
      (fixed if_word ∷ guard_words g (fixed then_word ∷ part_words q (fixed else_word ∷ last))) refl
      (branch_gives g a b m R i (i + length (guard_records G)) x j (part_words q (fixed else_word ∷ last)) refl (omega arith) (omega arith)
      (ap (λ (z : PartAhead). z.size) A ∙ part_length l own q (i + length (guard_records G)))
      (ap (λ (z : PartAhead). else_size z.behind) A ∙ (else_sized l r rest ∙ part_length l own r (i + length (guard_records G) + length (part_guards a))))
      (part_gives q (and_left _ (part_known l own r) kqr) M.end (low_part b x ++ (low_part m j ++ R)) (i + length (guard_records G)) x (fixed else_word ∷ last) refl
      (else_on x last ∙ part_gives r (and_right (part_known l own q) _ kqr) M.end (low_part m j ++ R) x j (fixed endif_word ∷ rest) (omega arith) (endif_on j rest ∙ h))))

  -- the statements of an action clause
  pub action_gives : (x : Action) → action_known l own x ≡ true → (n : ℕ) (rest : List Token)
      → from true n (action_words x rest) ≡ low_part (action_of l own x).body n ++ from true (n + length (action_guards (action_of l own x))) rest
  unfolding action_known action_words action_of statements_from on_after guards_after kind_of part_guards part_records
  action_gives x k n rest =
      let e = part_sized l own x.body M.end in
      part_gives x.body (and_right (listed_in (command_names l) x.command) _ k) M.end (from true (n + length (part_guards (part_of l own x.body M.end))) rest) n
      (n + length (part_guards (part_of l own x.body M.end))) rest (omega arith) refl

  -- an action: or a state: is ahead, or the end
  abbrev Ready : List Token → Type 0
  Ready rest = (n : ℕ) → from false n rest ≡ from true n rest

  actions_ready : (x : Action) (rest : List Token) → Ready rest → Ready (action_words x rest)
  unfolding action_words statements_from on_after kind_of
  actions_ready x rest r n = refl

  state_ready : (s : State) (rest : List Token) → Ready rest → Ready (state_words s rest)
  unfolding state_words statements_from on_after kind_of
  state_ready s rest r n = refl

  abbrev low_statements : M.State → ℕ → List Eight
  low_statements s n = map low8 (state_statements s n)

  pub state_gives : (s : State) → state_known l own s ≡ true → (n : ℕ) (rest : List Token) → Ready rest
      → from true n (state_words s rest) ≡ low_statements (state_of l own s) n ++ from true (n + length (state_guards (state_of l own s))) rest
  unfolding state_known state_of when_of statements_from on_after guards_after kind_of
  state_gives s k n rest a =
      let ws = in_order s.whens [] in
      let as' = in_order s.actions [] in
      let Ws = map (when_of l own (action_names s)) ws in
      let As = map (action_of l own) as' in
      let m : ℕ = n + length (gathered when_guards Ws) in
      let tail : List Token = list_words action_words as' rest in
      let K : every (action_known l own) as' ≡ true = and_left _ (none_twice (action_names s)) (and_right (every (when_known l own (action_names s)) ws) _ k) in
      let G = list_gives (from true) action_words (action_of l own) action_guards (λ x j. low_part x.body j) (action_known l own) Ready actions_ready
      (λ x z i r b. action_gives x z i r) as' K m rest a in
      let e = length-append (gathered when_guards Ws) (gathered action_guards As) in
      ap (from true n) (state_listed s rest)
      ∙ (list_pass (from false) when_words (when_of l own (action_names s)) when_guards (when_pass l (from false) off_pass) ws n tail
      ∙ (G.0 m
      ∙ (G.1
      ∙ (ap (λ (z : List Eight). z ++ from true (m + length (gathered action_guards As)) rest) (placed_map action_guards (λ x j. part_records x.body j) low8 As m)
      ∙ ap (λ (j : ℕ). low_statements (state_of l own s) n ++ from true j rest) (omega arith)))))

-- the statements of the words of a text, cut to bytes
pub text_gives : (l : Lists) (t : Text) (number command class : Name → ℕ) → Finds number (own_names t) → FindsIn command (command_names l) → FindsIn class (class_names l)
    → text_known l t ≡ true → statements_from number command class false 0 (text_words t) ≡ map low8 (statement_records (class_in l t))
unfolding text_known class_in statements_from on_after kind_of guards_after
text_gives l t number command class finds commands classes k =
    let ss = all_states t in
    let own : List Name = own_names t in
    let from = statements_from number command class in
    let K : every (state_known l own) ss ≡ true = and_left _ (none_twice own) k in
    let G = list_gives (from true) state_words (state_of l own) state_guards (low_statements l own number command class finds commands classes) (state_known l own)
    (Ready l own number command class finds commands classes) (state_ready l own number command class finds commands classes)
    (state_gives l own number command class finds commands classes) ss K 0 (fixed end_word ∷ []) (λ n. refl) in
    ap (from false 0) (text_listed t)
    ∙ (G.0 0
    ∙ (G.1 ∙ (append-nil (placed state_guards (λ s n. map low8 (state_statements s n)) (map (state_of l own) ss) 0) ∙ placed_map state_guards state_statements low8 (map (state_of l own) ss) 0)))

-- bytes stay as they are
low_same : (rs : List Eight) → Every Small8 rs → map low8 rs ≡ rs
low_same [] e = refl
low_same (r ∷ rs) e =
    let q : low8 r ≡ r = λ i. record { front = low_bytes r.front e.0.0 i; back = low_bytes r.back e.0.1 i } in
    ap (λ (x : Eight). x ∷ map low8 rs) q ∙ ap (λ (xs : List Eight). r ∷ xs) (low_same rs e.1)

statements_small : (c : M.Class) → Within c → Every Small8 (statement_records c)
statements_small c w =
    (states_small (length c.children) (length c.states) w.classes w.states c.states 0 0 0 (let g = w.guards in omega arith) w.whens w.actions w.statements
    (states_inside c w)).statements

-- the statements of the words of a text
pub text_statements : (l : Lists) (t : Text) (number command class : Name → ℕ) → Finds number (own_names t) → FindsIn command (command_names l) → FindsIn class (class_names l)
    → text_known l t ≡ true → Within (class_in l t) → statements_from number command class false 0 (text_words t) ≡ statement_records (class_in l t)
text_statements l t number command class finds commands classes k w =
    text_gives l t number command class finds commands classes k ∙ low_same (statement_records (class_in l t)) (statements_small (class_in l t) w)
