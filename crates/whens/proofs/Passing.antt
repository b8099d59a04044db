-- Suffix functions that count guard records and pass over guards, parts, when clauses, action clauses; rows as lists.
-- Assumes nothing.
use Prim.Native.Nat.{ℕ, ◌+◌}
use native.Mathlib.Omega.{arith}
use mathlib.Core.Path.{◌≡◌, refl, sym, ◌∙◌, ap}
use mathlib.Core.Bool.{Bool, true, false, ◌&&◌, ◌||◌}
use mathlib.Core.List.{List, [], ◌∷◌, ◌++◌, map, map-append, append_assoc}
use lib.Dec.{eqb, leb}
use lib.ListN.{length, length-append}
use borrow.Author.Tests.{eqb-true}
use Rattle.model.specs.Tree as M
use Rattle.model.specs.Words.{every}
use Rattle.model.proofs.Words.{clash, and_left, and_right, or_first}
use Rattle.grammar.specs.Grammar.{Token, fixed, name, Name, Row, none, ◌then◌, Kin, children, kin, Names, one, more, Set, single, braces, Quantifier, any, all, Side, inside, outside, Guard, just, or, Conj, only, and, Operand, not, brackets, atom, Referrer, move_to, run, stay, stay_in, When, Part, nothing, send, go_to, if_then, if_else, State, Text, class_word, state_word, top_word, any_word, all_word, when_word, move_word, do_word, stay_word, if_word, then_word, else_word, endif_word, and_word, or_word, not_word, in_word, out_word, open_word, close_word, left_word, right_word, comma_word, end_word, children_word, row_words, kin_words, names_words, set_words, quantifier_word, side_word, guard_words, conj_words, operand_words, referrer_words, when_words, part_words, action_words, state_words, text_words}
use Rattle.grammar.specs.Kinds.{kind_of}
use Rattle.naming.specs.NameLists.{Lists}
use Rattle.naming.specs.Naming.{in_order, all_states, guard_of, conj_of, operand_of, part_of}
use Rattle.encoding.specs.Records.{Eight}
use Rattle.encoding.specs.Encoding.{guard_records, part_guards, gathered, placed}
use Rattle.whens.specs.Ahead.{guards_after}

-- a kind that passes a test is not one that does not
pub other_kind : (P : ℕ → Bool) (c k : ℕ) → P c ≡ false → P k ≡ true → eqb k c ≡ false
other_kind P c k f t = go (eqb k c) refl
  where
    go : (b : Bool) → eqb k c ≡ b → b ≡ false
    go true e = absurd (clash (cc (ap P (eqb-true k c e))))
    go false e = refl

-- the kinds of words that stand in a guard, in a when clause behind its first word, in a when clause, in a part
abbrev pub in_guard : ℕ → Bool
in_guard k = eqb k 0 || ((leb 5 k && leb k 6) || (leb 15 k && leb k 25))

abbrev pub in_clause : ℕ → Bool
in_clause k = in_guard k || (leb 8 k && leb k 10)

abbrev pub in_when : ℕ → Bool
in_when k = in_clause k || eqb k 7

abbrev pub in_part : ℕ → Bool
in_part k = in_guard k || ((leb 8 k && leb k 9) || (leb 11 k && leb k 14))

-- f passes over a word, and counts it
abbrev pub Passes : {B : Type 0} → (ℕ → Bool) → (ℕ → List Token → B) → Type 0
Passes P f = (n : ℕ) (w : Token) (ws : List Token) → P (kind_of w) ≡ true → f n (w ∷ ws) ≡ f (guards_after n (kind_of w)) ws

module _ {B : Type 0} (l : Lists) (f : ℕ → List Token → B) where
  abbrev size : Guard → ℕ
  size x = length (guard_records (guard_of x l))

  module _ (pass : Passes in_guard f) where
    pub kin_pass : (k : Kin) (n : ℕ) (rest : List Token) → f n (kin_words k rest) ≡ f n rest
    unfolding kin_words guards_after kind_of
    kin_pass children n rest = pass n (fixed children_word) rest refl
    kin_pass (kin a) n rest = pass n (name a) rest refl

    names_pass : (x : Names) (n : ℕ) (rest : List Token) → f n (names_words x rest) ≡ f n rest
    unfolding names_words guards_after kind_of
    names_pass (one a) n rest = pass n (name a) rest refl
    names_pass (more ns a) n rest =
        names_pass ns n (fixed comma_word ∷ name a ∷ rest) ∙ (pass n (fixed comma_word) (name a ∷ rest) refl ∙ pass n (name a) rest refl)

    set_pass : (x : Set) (n : ℕ) (rest : List Token) → f n (set_words x rest) ≡ f n rest
    unfolding set_words guards_after kind_of
    set_pass (single a) n rest = pass n (name a) rest refl
    set_pass (braces ns) n rest =
        pass n (fixed left_word) (names_words ns (fixed right_word ∷ rest)) refl
        ∙ (names_pass ns n (fixed right_word ∷ rest) ∙ pass n (fixed right_word) rest refl)

    quantifier_pass : (q : Quantifier) (n : ℕ) (rest : List Token) → f n (fixed (quantifier_word q) ∷ rest) ≡ f n rest
    unfolding quantifier_word guards_after kind_of
    quantifier_pass any n rest = pass n (fixed any_word) rest refl
    quantifier_pass all n rest = pass n (fixed all_word) rest refl

    side_pass : (s : Side) (n : ℕ) (rest : List Token) → f n (fixed (side_word s) ∷ rest) ≡ f (n + 1) rest
    unfolding side_word guards_after kind_of
    side_pass inside n rest = pass n (fixed in_word) rest refl
    side_pass outside n rest = pass n (fixed out_word) rest refl

    mutual
      unfolding guard_words guard_of guard_records guards_after kind_of

      pub guard_pass : (x : Guard) (n : ℕ) (rest : List Token) → f n (guard_words x rest) ≡ f (n + length (guard_records (guard_of x l))) rest
      guard_pass (just c) n rest = conj_pass c n rest
      guard_pass (or g c) n rest =
          let e = length-append (guard_records (guard_of g l)) (guard_records (conj_of c l)) in
          guard_pass g n (fixed or_word ∷ conj_words c rest)
          ∙ (pass (n + length (guard_records (guard_of g l))) (fixed or_word) (conj_words c rest) refl
          ∙ (conj_pass c (n + length (guard_records (guard_of g l)) + 1) rest
          ∙ ap (λ (m : ℕ). f m rest) (omega arith)))

      pub conj_pass : (x : Conj) (n : ℕ) (rest : List Token) → f n (conj_words x rest) ≡ f (n + length (guard_records (conj_of x l))) rest
      conj_pass (only u) n rest = operand_pass u n rest
      conj_pass (and c u) n rest =
          let e = length-append (guard_records (conj_of c l)) (guard_records (operand_of u l)) in
          conj_pass c n (fixed and_word ∷ operand_words u rest)
          ∙ (pass (n + length (guard_records (conj_of c l))) (fixed and_word) (operand_words u rest) refl
          ∙ (operand_pass u (n + length (guard_records (conj_of c l)) + 1) rest
          ∙ ap (λ (m : ℕ). f m rest) (omega arith)))

      pub operand_pass : (x : Operand) (n : ℕ) (rest : List Token) → f n (operand_words x rest) ≡ f (n + length (guard_records (operand_of x l))) rest
      operand_pass (not u) n rest =
          pass n (fixed not_word) (operand_words u rest) refl ∙ (operand_pass u (n + 1) rest ∙ ap (λ (m : ℕ). f m rest) (omega arith))
      operand_pass (brackets g) n rest =
          pass n (fixed open_word) (guard_words g (fixed close_word ∷ rest)) refl
          ∙ (guard_pass g n (fixed close_word ∷ rest) ∙ pass (n + length (guard_records (guard_of g l))) (fixed close_word) rest refl)
      operand_pass (atom q k s t) n rest =
          quantifier_pass q n (kin_words k (fixed (side_word s) ∷ set_words t rest))
          ∙ (kin_pass k n (fixed (side_word s) ∷ set_words t rest) ∙ (side_pass s n (set_words t rest) ∙ set_pass t (n + 1) rest))

  module _ (pass : Passes in_clause f) where
    referrer_pass : (r : Referrer) (n : ℕ) (rest : List Token) → f n (referrer_words r rest) ≡ f n rest
    unfolding referrer_words guards_after kind_of
    referrer_pass (move_to a) n rest = pass n (fixed move_word) (name a ∷ rest) refl ∙ pass n (name a) rest refl
    referrer_pass (run a) n rest = pass n (fixed do_word) (name a ∷ rest) refl ∙ pass n (name a) rest refl
    referrer_pass stay n rest = pass n (fixed stay_word) rest refl
    referrer_pass (stay_in a) n rest = pass n (fixed stay_word) (name a ∷ rest) refl ∙ pass n (name a) rest refl

    pub clause_pass : (w : When) (n : ℕ) (rest : List Token)
        → f n (guard_words w.guard (referrer_words w.referrer rest)) ≡ f (n + length (guard_records (guard_of w.guard l))) rest
    clause_pass w n rest =
        guard_pass (λ m x xs e. pass m x xs (or_first _ _ e)) w.guard n (referrer_words w.referrer rest)
        ∙ referrer_pass w.referrer (n + length (guard_records (guard_of w.guard l))) rest

  module _ (pass : Passes in_when f) where
    pub when_pass : (w : When) (n : ℕ) (rest : List Token) → f n (when_words w rest) ≡ f (n + length (guard_records (guard_of w.guard l))) rest
    unfolding when_words guards_after kind_of
    when_pass w n rest = pass n (fixed when_word) (guard_words w.guard (referrer_words w.referrer rest)) refl ∙ clause_pass (λ m x xs e. pass m x xs (or_first _ _ e)) w n rest

-- the guard records of a part's ifs
unfoldable pub part_size : Lists → Part → ℕ
part_size l nothing = 0
part_size l (send p c k) = part_size l p
part_size l (go_to p s) = part_size l p
part_size l (if_then p g q) = part_size l p + (length (guard_records (guard_of g l)) + part_size l q)
part_size l (if_else p g q r) = part_size l p + (length (guard_records (guard_of g l)) + (part_size l q + part_size l r))

pub part_sized : (l : Lists) (own : List Name) (p : Part) (m : M.Part) → length (part_guards (part_of l own p m)) ≡ part_size l p + length (part_guards m)
unfolding part_size part_of part_guards
part_sized l own nothing m = omega arith
part_sized l own (send p c k) m = part_sized l own p _
part_sized l own (go_to p s) m = part_sized l own p _
part_sized l own (if_then p g q) m =
    let x = part_sized l own p (M.◌then◌ (M.branch (guard_of g l) (part_of l own q M.end) M.end) m) in
    let y = part_sized l own q M.end in
    let u = length-append (guard_records (guard_of g l) ++ (part_guards (part_of l own q M.end) ++ [])) (part_guards m) in
    let v = length-append (guard_records (guard_of g l)) (part_guards (part_of l own q M.end) ++ []) in
    let w = length-append (part_guards (part_of l own q M.end)) [] in
    omega arith
part_sized l own (if_else p g q r) m =
    let x = part_sized l own p (M.◌then◌ (M.branch (guard_of g l) (part_of l own q M.end) (part_of l own r M.end)) m) in
    let y = part_sized l own q M.end in
    let z = part_sized l own r M.end in
    let u = length-append (guard_records (guard_of g l) ++ (part_guards (part_of l own q M.end) ++ part_guards (part_of l own r M.end))) (part_guards m) in
    let v = length-append (guard_records (guard_of g l)) (part_guards (part_of l own q M.end) ++ part_guards (part_of l own r M.end)) in
    let w = length-append (part_guards (part_of l own q M.end)) (part_guards (part_of l own r M.end)) in
    omega arith

module _ {B : Type 0} (l : Lists) (f : ℕ → List Token → B) (pass : Passes in_part f) where
  inner : Passes in_guard f
  inner n w ws e = pass n w ws (or_first _ _ e)

  pub part_pass : (p : Part) (n : ℕ) (rest : List Token) → f n (part_words p rest) ≡ f (n + part_size l p) rest
  unfolding part_words part_size guards_after kind_of
  part_pass nothing n rest = ap (λ (m : ℕ). f m rest) (omega arith)
  part_pass (send p c k) n rest =
      let m : ℕ = n + part_size l p in
      part_pass p n (fixed do_word ∷ name c ∷ fixed all_word ∷ kin_words k rest)
      ∙ (pass m (fixed do_word) (name c ∷ fixed all_word ∷ kin_words k rest) refl
      ∙ (pass m (name c) (fixed all_word ∷ kin_words k rest) refl ∙ (pass m (fixed all_word) (kin_words k rest) refl ∙ kin_pass l f inner k m rest)))
  part_pass (go_to p s) n rest =
      let m : ℕ = n + part_size l p in
      part_pass p n (fixed move_word ∷ name s ∷ rest) ∙ (pass m (fixed move_word) (name s ∷ rest) refl ∙ pass m (name s) rest refl)
  part_pass (if_then p g q) n rest =
      let m : ℕ = n + part_size l p in
      let k : ℕ = m + length (guard_records (guard_of g l)) in
      let tail : List Token = fixed then_word ∷ part_words q (fixed endif_word ∷ rest) in
      part_pass p n (fixed if_word ∷ guard_words g tail)
      ∙ (pass m (fixed if_word) (guard_words g tail) refl
      ∙ (guard_pass l f inner g m tail
      ∙ (pass k (fixed then_word) (part_words q (fixed endif_word ∷ rest)) refl
      ∙ (part_pass q k (fixed endif_word ∷ rest)
      ∙ (pass (k + part_size l q) (fixed endif_word) rest refl
      ∙ ap (λ (m : ℕ). f m rest) (omega arith))))))
  part_pass (if_else p g q r) n rest =
      let m : ℕ = n + part_size l p in
      let k : ℕ = m + length (guard_records (guard_of g l)) in
      let last : List Token = part_words r (fixed endif_word ∷ rest) in
      let tail : List Token = fixed then_word ∷ part_words q (fixed else_word ∷ last) in
      part_pass p n (fixed if_word ∷ guard_words g tail)
      ∙ (pass m (fixed if_word) (guard_words g tail) refl
      ∙ (guard_pass l f inner g m tail
      ∙ (pass k (fixed then_word) (part_words q (fixed else_word ∷ last)) refl
      ∙ (part_pass q k (fixed else_word ∷ last)
      ∙ (pass (k + part_size l q) (fixed else_word) last refl
      ∙ (part_pass r (k + part_size l q) (fixed endif_word ∷ rest)
      ∙ (pass (k + part_size l q + part_size l r) (fixed endif_word) rest refl
      ∙ ap (λ (m : ℕ). f m rest) (omega arith))))))))

-- the words of a list, in front of others; a row's are those of its list
unfoldable pub list_words : {A : Type 0} → (A → List Token → List Token) → List A → List Token → List Token
list_words f [] rest = rest
list_words f (x ∷ xs) rest = f x (list_words f xs rest)

row_list : {A : Type 0} (f : A → List Token → List Token) (xs : Row A) (ys : List A) (rest : List Token) → row_words f xs (list_words f ys rest) ≡ list_words f (in_order xs ys) rest
unfolding row_words list_words in_order
row_list f none ys rest = refl
row_list f (xs then x) ys rest = row_list f xs (x ∷ ys) rest

pub state_listed : (s : State) (rest : List Token)
    → state_words s rest
    ≡ fixed state_word ∷ name s.own ∷ list_words when_words (in_order s.whens []) (list_words action_words (in_order s.actions []) rest)
unfolding state_words list_words
state_listed s rest =
    ap (λ (x : List Token). fixed state_word ∷ name s.own ∷ x)
    (row_list when_words s.whens [] (row_words action_words s.actions rest)
    ∙ ap (list_words when_words (in_order s.whens [])) (row_list action_words s.actions [] rest))

pub text_listed : (t : Text) → text_words t ≡ fixed class_word ∷ fixed top_word ∷ name t.class ∷ list_words state_words (all_states t) (fixed end_word ∷ [])
unfolding text_words list_words all_states
text_listed t =
    ap (λ (x : List Token). fixed class_word ∷ fixed top_word ∷ name t.class ∷ x) (row_list state_words t.earlier (t.last ∷ []) (fixed end_word ∷ []))

-- a list whose entries are passed over, and counted
pub list_pass : {A B C : Type 0} (f : ℕ → List Token → B) (words : A → List Token → List Token) (h : A → C) (guards : C → List Eight)
    → ((x : A) (n : ℕ) (rest : List Token) → f n (words x rest) ≡ f (n + length (guards (h x))) rest)
    → (xs : List A) (n : ℕ) (rest : List Token) → f n (list_words words xs rest) ≡ f (n + length (gathered guards (map h xs))) rest
unfolding list_words gathered
list_pass f words h guards each [] n rest = ap (λ (m : ℕ). f m rest) (omega arith)
list_pass f words h guards each (x ∷ xs) n rest =
    let e = length-append (guards (h x)) (gathered guards (map h xs)) in
    each x n (list_words words xs rest) ∙ (list_pass f words h guards each xs (n + length (guards (h x))) rest ∙ ap (λ (m : ℕ). f m rest) (omega arith))

-- a list whose entries each give records, where they are known; what they look at ahead stands behind the list, and before each entry too
pub list_gives : {A B C : Type 0} (f : ℕ → List Token → List B) (words : A → List Token → List Token) (h : A → C) (guards : C → List Eight) (records : C → ℕ → List B)
    (known : A → Bool) (Ahead : List Token → Type 0)
    → ((x : A) (rest : List Token) → Ahead rest → Ahead (words x rest))
    → ((x : A) → known x ≡ true → (n : ℕ) (rest : List Token) → Ahead rest → f n (words x rest) ≡ records (h x) n ++ f (n + length (guards (h x))) rest)
    → (xs : List A) → every known xs ≡ true → (n : ℕ) (rest : List Token) → Ahead rest
    → Ahead (list_words words xs rest) × (f n (list_words words xs rest) ≡ placed guards records (map h xs) n ++ f (n + length (gathered guards (map h xs))) rest)
unfolding list_words gathered placed every
list_gives f words h guards records known Ahead keeps each [] k n rest a = (a, ap (λ (m : ℕ). f m rest) (omega arith))
list_gives {B = B} f words h guards records known Ahead keeps each (x ∷ xs) k n rest a =
    let m : ℕ = n + length (guards (h x)) in
    let e = length-append (guards (h x)) (gathered guards (map h xs)) in
    let (b, q) = list_gives f words h guards records known Ahead keeps each xs (and_right (known x) _ k) m rest a in (
      keeps x (list_words words xs rest) b,
      each x (and_left _ (every known xs) k) n (list_words words xs rest) b
          ∙ (ap (λ (z : List B). records (h x) n ++ z) (q ∙ ap (λ (j : ℕ). placed guards records (map h xs) m ++ f j rest) (omega arith))
          ∙ sym (append_assoc (records (h x) n) (placed guards records (map h xs) m) (f (n + length (gathered guards (map h (x ∷ xs)))) rest))),
    )

-- records that are each changed
pub placed_map : {A B D : Type 0} (guards : A → List Eight) (records : A → ℕ → List B) (g : B → D) (xs : List A) (n : ℕ)
    → placed guards (λ x m. map g (records x m)) xs n ≡ map g (placed guards records xs n)
unfolding placed
placed_map guards records g [] n = refl
placed_map {D = D} guards records g (x ∷ xs) n =
    ap (λ (z : List D). map g (records x n) ++ z) (placed_map guards records g xs (n + length (guards x))) ∙ sym (map-append g (records x n) (placed guards records xs (n + length (guards x))))
