-- The when clauses of the words of a text are those of its class.
-- Assumes nothing.
use Prim.Native.Nat.{ℕ, ◌+◌, ◌%◌}
use native.Mathlib.Omega.{arith}
use native.Mathlib.Nat.{mod-eq_of_lt, mod-mod}
use mathlib.Core.Path.{◌≡◌, refl, ◌∙◌, ap}
use mathlib.Core.Bool.{Bool, true, false, ◌&&◌}
use mathlib.Core.List.{List, [], ◌∷◌, ◌++◌, map, append-nil}
use lib.ListN.{length, length-append}
use Rattle.model.specs.Tree as M
use Rattle.model.specs.Words.{every}
use Rattle.model.proofs.Words.{and_left, and_right, or_first}
use Rattle.grammar.specs.Grammar.{Token, fixed, Name, Guard, Referrer, move_to, run, stay, stay_in, When, Action, State, Text, end_word, guard_words, referrer_words, when_words, action_words, state_words, text_words}
use Rattle.grammar.specs.Words.{position}
use Rattle.grammar.specs.Kinds.{kind_of, bytes_of}
use Rattle.naming.specs.NameLists.{Lists, command_names, listed_in, none_twice}
use Rattle.naming.specs.Naming.{in_order, all_states, own_names, action_names, referrer_of, when_of, action_of, state_of, class_in}
use Rattle.naming.specs.Known.{among, guard_known, referrer_known, when_known, action_known, state_known, text_known}
use Rattle.encoding.specs.Records.{Four}
use Rattle.encoding.specs.Encoding.{part_guards, gathered, placed, when_guards, action_guards, state_guards, referrer_code, referrer_target, when_record, state_whens, when_records}
use Rattle.encoding.specs.Numbers.{Every}
use Rattle.encoding.specs.Within.{Within}
use Rattle.encoding.proofs.Small.{Small4}
use Rattle.encoding.proofs.Inside.{states_inside}
use Rattle.encoding.proofs.SheetBytes.{states_small}
use Rattle.own.specs.Ahead.{first_bytes, names_ahead}
use Rattle.whens.specs.Ahead.{guards_after, low4}
use Rattle.whens.specs.Whens.{referrer_ahead, referrer_number, target_number, when_ahead, whens_from}
use Rattle.whens.proofs.Passing.{other_kind, in_guard, in_clause, in_when, in_part, Passes, guard_pass, clause_pass, when_pass, part_sized, part_pass, list_words, state_listed, text_listed, list_pass, list_gives, placed_map}

-- a number in a function of specs/ is found where its name is known
abbrev pub Finds : (Name → ℕ) → List Name → Type 0
Finds f ns = (n : Name) → among ns n ≡ true → f n ≡ position ns n

-- the referrer, without the state behind a stay_in_state
abbrev bare : Referrer → Referrer
bare (move_to n) = move_to n
bare (run n) = run n
bare stay = stay
bare (stay_in n) = stay

referrer_passes : Passes in_guard (λ n ws. referrer_ahead ws)
unfolding referrer_ahead
referrer_passes n w ws e = rw (other_kind in_guard 8 (kind_of w) refl e, other_kind in_guard 9 (kind_of w) refl e, other_kind in_guard 10 (kind_of w) refl e, other_kind in_guard 26 (kind_of w) refl e)

referrer_there : (r : Referrer) (rest : List Token) → referrer_ahead (referrer_words r rest) ≡ bare r
unfolding referrer_ahead referrer_words kind_of first_bytes bytes_of
referrer_there (move_to n) rest = refl
referrer_there (run n) rest = refl
referrer_there stay rest = refl
referrer_there (stay_in n) rest = refl

pub referrer_found : (l : Lists) (g : Guard) (r : Referrer) (rest : List Token) → referrer_ahead (guard_words g (referrer_words r rest)) ≡ bare r
referrer_found l g r rest = guard_pass l (λ n ws. referrer_ahead ws) referrer_passes g 0 (referrer_words r rest) ∙ referrer_there r rest

-- the actions ahead
actions_pass_when : Passes in_when (λ n ws. names_ahead 3 2 ws)
unfolding names_ahead
actions_pass_when n w ws e = rw (other_kind in_when 2 (kind_of w) refl e, other_kind in_when 3 (kind_of w) refl e)

actions_pass_part : Passes in_part (λ n ws. names_ahead 3 2 ws)
unfolding names_ahead
actions_pass_part n w ws e = rw (other_kind in_part 2 (kind_of w) refl e, other_kind in_part 3 (kind_of w) refl e)

actions_there : (l : Lists) (xs : List Action) (rest : List Token) → names_ahead 3 2 rest ≡ [] → names_ahead 3 2 (list_words action_words xs rest) ≡ map (λ a. a.command) xs
unfolding list_words action_words names_ahead kind_of first_bytes bytes_of
actions_there l [] rest e = e
actions_there l (a ∷ xs) rest e =
    ap (λ (ns : List Name). a.command ∷ ns) (part_pass l (λ n ws. names_ahead 3 2 ws) actions_pass_part a.body 0 (list_words action_words xs rest) ∙ actions_there l xs rest e)

module _ (l : Lists) (own : List Name) (number : Name → ℕ) (among_number : List Name → Name → ℕ) (finds : Finds number own) (finds_in : (ns : List Name) → Finds (among_number ns) ns) where
  abbrev from : ℕ → List Token → List Four
  from = whens_from number among_number

  -- kinds that are no when
  passes : (P : ℕ → Bool) → P 7 ≡ false → Passes P from
  unfolding whens_from
  passes P p n w ws e = rw (other_kind P 7 (kind_of w) p e)

  target_right : (actions : List Name) (r : Referrer) → referrer_known l own actions r ≡ true
      → target_number number (among_number actions) (bare r) ≡ referrer_target (referrer_of l own actions r)
  unfolding referrer_known referrer_of
  target_right actions (move_to n) k = finds n k
  target_right actions (run n) k = finds_in actions n (and_right (listed_in (command_names l) n) (among actions n) k)
  target_right actions stay k = refl
  target_right actions (stay_in n) k = refl

  number_right : (actions : List Name) (r : Referrer) → referrer_number (bare r) % 256 ≡ referrer_code (referrer_of l own actions r) % 256
  unfolding referrer_of
  number_right actions (move_to n) = refl
  number_right actions (run n) = refl
  number_right actions stay = refl
  number_right actions (stay_in n) = refl

  abbrev Actions : List Name → List Token → Type 0
  Actions actions rest = names_ahead 3 2 rest ≡ actions

  pub when_gives : (actions : List Name) (w : When) → when_known l own actions w ≡ true → (n : ℕ) (rest : List Token) → Actions actions rest
      → from n (when_words w rest) ≡ low4 (when_record (when_of l own actions w) n) ∷ from (n + length (when_guards (when_of l own actions w))) rest
  unfolding when_known when_of when_words whens_from when_ahead guards_after kind_of
  when_gives actions w k n rest a =
      let ws : List Token = guard_words w.guard (referrer_words w.referrer rest) in
      let A : names_ahead 3 2 ws ≡ actions = clause_pass l (λ n ws. names_ahead 3 2 ws) (λ n x xs e. actions_pass_when n x xs (or_first _ _ e)) w 0 rest ∙ a in
      let R : referrer_ahead ws ≡ bare w.referrer = referrer_found l w.guard w.referrer rest in
      let K : referrer_known l own actions w.referrer ≡ true = and_right (guard_known w.guard l) (referrer_known l own actions w.referrer) k in
      let H : when_ahead number among_number n ws ≡ low4 (when_record (when_of l own actions w) n) =
      rw (A, R, target_right actions w.referrer K, number_right actions w.referrer, mod-mod n 256) in
      ap (λ (r : Four). r ∷ from n ws) H
      ∙ ap (λ (rs : List Four). low4 (when_record (when_of l own actions w) n) ∷ rs) (clause_pass l from (passes in_clause refl) w n rest)

  -- an action clause is passed over
  action_passed : (x : Action) (n : ℕ) (rest : List Token) → from n (action_words x rest) ≡ from (n + length (action_guards (action_of l own x))) rest
  unfolding action_words action_of whens_from guards_after kind_of part_guards
  action_passed x n rest =
      let e = part_sized l own x.body M.end in
      part_pass l from (passes in_part refl) x.body n rest ∙ ap (λ (m : ℕ). from m rest) (omega arith)

  abbrev low_whens : M.State → ℕ → List Four
  low_whens s n = map low4 (state_whens s n)

  pub state_gives : (s : State) → state_known l own s ≡ true → (n : ℕ) (rest : List Token) → Actions [] rest
      → from n (state_words s rest) ≡ low_whens (state_of l own s) n ++ from (n + length (state_guards (state_of l own s))) rest
  unfolding state_known state_of action_names whens_from guards_after kind_of
  state_gives s k n rest a =
      let ws = in_order s.whens [] in
      let as' = in_order s.actions [] in
      let actions : List Name = action_names s in
      let m : ℕ = n + length (gathered when_guards (map (when_of l own actions) ws)) in
      let tail : List Token = list_words action_words as' rest in
      let A : Actions actions tail = actions_there l as' rest a in
      let K : every (when_known l own actions) ws ≡ true = and_left _ (every (action_known l own) as' && none_twice actions) k in
      let G = list_gives from when_words (when_of l own actions) when_guards (λ w j. low4 (when_record w j) ∷ []) (when_known l own actions) (Actions actions)
      (λ w r e. when_pass l (λ n ws. names_ahead 3 2 ws) actions_pass_when w 0 r ∙ e) (when_gives actions) ws K n tail A in
      let e = length-append (gathered when_guards (map (when_of l own actions) ws)) (gathered action_guards (map (action_of l own) as')) in
      let P = list_pass from action_words (action_of l own) action_guards (λ x i r. action_passed x i r) as' m rest in
      ap (from n) (state_listed s rest)
      ∙ (G.1
      ∙ (ap (λ (z : List Four). z ++ from m tail) (placed_map when_guards (λ w j. when_record w j ∷ []) low4 (map (when_of l own actions) ws) n)
      ∙ ap (λ (z : List Four). low_whens (state_of l own s) n ++ z) (P ∙ ap (λ (j : ℕ). from j rest) (omega arith))))

-- behind a state come others, or the end
next_state : (s : State) (rest : List Token) → names_ahead 3 2 (state_words s rest) ≡ []
unfolding state_words names_ahead kind_of
next_state s rest = refl

-- the when clauses of the words of a text, cut to bytes
pub text_gives : (l : Lists) (t : Text) (number : Name → ℕ) (among_number : List Name → Name → ℕ) → Finds number (own_names t) → ((ns : List Name) → Finds (among_number ns) ns)
    → text_known l t ≡ true → whens_from number among_number 0 (text_words t) ≡ map low4 (when_records (class_in l t))
unfolding text_known class_in names_ahead whens_from kind_of guards_after
text_gives l t number among_number finds finds_in k =
    let ss = all_states t in
    let own : List Name = own_names t in
    let from = whens_from number among_number in
    let K : every (state_known l own) ss ≡ true = and_left _ (none_twice own) k in
    let G = list_gives from state_words (state_of l own) state_guards (low_whens l own number among_number finds finds_in) (state_known l own) (λ rest. names_ahead 3 2 rest ≡ [])
    (λ s r e. next_state s r) (state_gives l own number among_number finds finds_in) ss K 0 (fixed end_word ∷ []) refl in
    ap (from 0) (text_listed t)
    ∙ (G.1 ∙ (append-nil (placed state_guards (λ s n. map low4 (state_whens s n)) (map (state_of l own) ss) 0) ∙ placed_map state_guards state_whens low4 (map (state_of l own) ss) 0))

-- bytes stay as they are
pub low_bytes : (r : Four) → Small4 r → low4 r ≡ r
low_bytes r s = λ i. record { b0 = mod-eq_of_lt s.s0 i; b1 = mod-eq_of_lt s.s1 i; b2 = mod-eq_of_lt s.s2 i; b3 = mod-eq_of_lt s.s3 i }

low_same : (rs : List Four) → Every Small4 rs → map low4 rs ≡ rs
low_same [] e = refl
low_same (r ∷ rs) e = ap (λ (x : Four). x ∷ map low4 rs) (low_bytes r e.0) ∙ ap (λ (xs : List Four). r ∷ xs) (low_same rs e.1)

whens_small : (c : M.Class) → Within c → Every Small4 (when_records c)
whens_small c w =
    (states_small (length c.children) (length c.states) w.classes w.states c.states 0 0 0 (let g = w.guards in omega arith) w.whens w.actions w.statements
    (states_inside c w)).whens

-- the when clauses of the words of a text
pub text_whens : (l : Lists) (t : Text) (number : Name → ℕ) (among_number : List Name → Name → ℕ) → Finds number (own_names t) → ((ns : List Name) → Finds (among_number ns) ns)
    → text_known l t ≡ true → Within (class_in l t) → whens_from number among_number 0 (text_words t) ≡ when_records (class_in l t)
text_whens l t number among_number finds finds_in k w =
    text_gives l t number among_number finds finds_in k ∙ low_same (when_records (class_in l t)) (whens_small (class_in l t) w)
