-- Functions of the words that are left which pass over the words of guards, parts and when clauses.
-- Assumes nothing.
use Prim.Native.Nat.{ℕ}
use mathlib.Core.Path.{◌≡◌, refl, ◌∙◌, ap}
use mathlib.Core.Bool.{Bool, true, false, ◌&&◌, ◌||◌}
use mathlib.Core.List.{List, ◌∷◌}
use lib.Dec.{eqb, leb}
use borrow.Author.Tests.{eqb-true}
use Rattle.model.proofs.Words.{clash}
use Rattle.grammar.specs.Grammar.{Token, fixed, name, Row, none, ◌then◌, Kin, children, kin, Names, one, more, Set, single, braces, Quantifier, any, all, Side, inside, outside, Guard, just, or, Conj, only, and, Operand, not, brackets, atom, Referrer, move_to, run, stay, stay_in, When, Part, nothing, send, go_to, if_then, if_else, any_word, all_word, when_word, move_word, do_word, stay_word, if_word, then_word, else_word, endif_word, and_word, or_word, not_word, in_word, out_word, open_word, close_word, left_word, right_word, comma_word, children_word, row_words, kin_words, names_words, set_words, quantifier_word, side_word, guard_words, conj_words, operand_words, referrer_words, when_words, part_words}
use Rattle.grammar.specs.Kinds.{kind_of}

-- a kind that passes a test is not one that does not
pub other_kind : (P : ℕ → Bool) (c k : ℕ) → P c ≡ false → P k ≡ true → eqb k c ≡ false
other_kind P c k f t = go (eqb k c) refl
  where
    go : (b : Bool) → eqb k c ≡ b → b ≡ false
    go true e = absurd (clash (cc (ap P (eqb-true k c e))))
    go false e = refl

-- the kinds of words that stand inside of clauses: names, and all but class: state: action: and the end
abbrev pub inner : ℕ → Bool
inner k = eqb k 0 || (leb 4 k && leb k 25)

abbrev pub Passes : {B : Type 0} → (List Token → B) → Type 0
Passes f = (w : Token) (ws : List Token) → inner (kind_of w) ≡ true → f (w ∷ ws) ≡ f ws

module _ {B : Type 0} (f : List Token → B) (pass : Passes f) where
  kin_pass : (k : Kin) (rest : List Token) → f (kin_words k rest) ≡ f rest
  unfolding kin_words kind_of
  kin_pass children rest = pass (fixed children_word) rest refl
  kin_pass (kin a) rest = pass (name a) rest refl

  names_pass : (x : Names) (rest : List Token) → f (names_words x rest) ≡ f rest
  unfolding names_words kind_of
  names_pass (one a) rest = pass (name a) rest refl
  names_pass (more ns a) rest = names_pass ns (fixed comma_word ∷ name a ∷ rest) ∙ pass (fixed comma_word) (name a ∷ rest) refl ∙ pass (name a) rest refl

  set_pass : (x : Set) (rest : List Token) → f (set_words x rest) ≡ f rest
  unfolding set_words kind_of
  set_pass (single a) rest = pass (name a) rest refl
  set_pass (braces ns) rest =
      pass (fixed left_word) (names_words ns (fixed right_word ∷ rest)) refl ∙ names_pass ns (fixed right_word ∷ rest) ∙ pass (fixed right_word) rest refl

  quantifier_pass : (q : Quantifier) (rest : List Token) → f (fixed (quantifier_word q) ∷ rest) ≡ f rest
  unfolding quantifier_word kind_of
  quantifier_pass any rest = pass (fixed any_word) rest refl
  quantifier_pass all rest = pass (fixed all_word) rest refl

  side_pass : (s : Side) (rest : List Token) → f (fixed (side_word s) ∷ rest) ≡ f rest
  unfolding side_word kind_of
  side_pass inside rest = pass (fixed in_word) rest refl
  side_pass outside rest = pass (fixed out_word) rest refl

  mutual
    unfolding guard_words kind_of

    pub guard_pass : (x : Guard) (rest : List Token) → f (guard_words x rest) ≡ f rest
    guard_pass (just c) rest = conj_pass c rest
    guard_pass (or g c) rest = guard_pass g (fixed or_word ∷ conj_words c rest) ∙ pass (fixed or_word) (conj_words c rest) refl ∙ conj_pass c rest

    conj_pass : (x : Conj) (rest : List Token) → f (conj_words x rest) ≡ f rest
    conj_pass (only u) rest = operand_pass u rest
    conj_pass (and c u) rest =
        conj_pass c (fixed and_word ∷ operand_words u rest) ∙ pass (fixed and_word) (operand_words u rest) refl ∙ operand_pass u rest

    operand_pass : (x : Operand) (rest : List Token) → f (operand_words x rest) ≡ f rest
    operand_pass (not u) rest = pass (fixed not_word) (operand_words u rest) refl ∙ operand_pass u rest
    operand_pass (brackets g) rest =
        pass (fixed open_word) (guard_words g (fixed close_word ∷ rest)) refl ∙ guard_pass g (fixed close_word ∷ rest) ∙ pass (fixed close_word) rest refl
    operand_pass (atom q k s t) rest =
        quantifier_pass q (kin_words k (fixed (side_word s) ∷ set_words t rest))
        ∙ kin_pass k (fixed (side_word s) ∷ set_words t rest)
        ∙ side_pass s (set_words t rest)
        ∙ set_pass t rest

  referrer_pass : (r : Referrer) (rest : List Token) → f (referrer_words r rest) ≡ f rest
  unfolding referrer_words kind_of
  referrer_pass (move_to a) rest = pass (fixed move_word) (name a ∷ rest) refl ∙ pass (name a) rest refl
  referrer_pass (run a) rest = pass (fixed do_word) (name a ∷ rest) refl ∙ pass (name a) rest refl
  referrer_pass stay rest = pass (fixed stay_word) rest refl
  referrer_pass (stay_in a) rest = pass (fixed stay_word) (name a ∷ rest) refl ∙ pass (name a) rest refl

  pub when_pass : (w : When) (rest : List Token) → f (when_words w rest) ≡ f rest
  unfolding when_words kind_of
  when_pass w rest =
      pass (fixed when_word) (guard_words w.guard (referrer_words w.referrer rest)) refl
      ∙ guard_pass w.guard (referrer_words w.referrer rest)
      ∙ referrer_pass w.referrer rest

  pub part_pass : (p : Part) (rest : List Token) → f (part_words p rest) ≡ f rest
  unfolding part_words kind_of
  part_pass nothing rest = refl
  part_pass (send p c k) rest =
      part_pass p (fixed do_word ∷ name c ∷ fixed all_word ∷ kin_words k rest)
      ∙ pass (fixed do_word) (name c ∷ fixed all_word ∷ kin_words k rest) refl
      ∙ pass (name c) (fixed all_word ∷ kin_words k rest) refl
      ∙ pass (fixed all_word) (kin_words k rest) refl
      ∙ kin_pass k rest
  part_pass (go_to p s) rest =
      part_pass p (fixed move_word ∷ name s ∷ rest) ∙ pass (fixed move_word) (name s ∷ rest) refl ∙ pass (name s) rest refl
  part_pass (if_then p g q) rest =
      let last : List Token = part_words q (fixed endif_word ∷ rest) in
      part_pass p (fixed if_word ∷ guard_words g (fixed then_word ∷ last))
      ∙ pass (fixed if_word) (guard_words g (fixed then_word ∷ last)) refl
      ∙ guard_pass g (fixed then_word ∷ last)
      ∙ pass (fixed then_word) last refl
      ∙ part_pass q (fixed endif_word ∷ rest)
      ∙ pass (fixed endif_word) rest refl
  part_pass (if_else p g q r) rest =
      let last : List Token = part_words r (fixed endif_word ∷ rest) in
      let first : List Token = part_words q (fixed else_word ∷ last) in
      part_pass p (fixed if_word ∷ guard_words g (fixed then_word ∷ first))
      ∙ pass (fixed if_word) (guard_words g (fixed then_word ∷ first)) refl
      ∙ guard_pass g (fixed then_word ∷ first)
      ∙ pass (fixed then_word) first refl
      ∙ part_pass q (fixed else_word ∷ last)
      ∙ pass (fixed else_word) last refl
      ∙ part_pass r (fixed endif_word ∷ rest)
      ∙ pass (fixed endif_word) rest refl

-- a row whose entries are passed over
pub row_pass : {A B : Type 0} (f : List Token → B) (words : A → List Token → List Token) → ((x : A) (rest : List Token) → f (words x rest) ≡ f rest)
    → (xs : Row A) (rest : List Token) → f (row_words words xs rest) ≡ f rest
unfolding row_words
row_pass f words each none rest = refl
row_pass f words each (xs then x) rest = row_pass f words each xs (words x rest) ∙ each x rest
