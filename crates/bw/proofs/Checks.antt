-- What holds of every refusal, and of what is given where no check refuses, holds of a reply; so that 15 is not given.
-- Assumes nothing.
use Prim.Native.Nat.{ℕ, zero, suc, ◌<◌, ◌≤◌}
use native.Mathlib.Omega.{arith}
use mathlib.Core.Path.{◌≡◌, refl, sym, subst}
use mathlib.Core.Bool.{Bool, true}
use mathlib.Core.List.{List}
use lib.Dec.{ltb}
use borrow.Author.Tests.{ltb-true}
use Rattle.model.specs.Tree.{Class}
use Rattle.model.specs.Node.{own_states}
use Rattle.model.specs.Replies.{Reply, refuse, give, check, told_as}
use Rattle.model.proofs.Words.{choose_case, clash}
use Rattle.sheet.specs.Rules.{refusal, Accepted}
use Rattle.sheet.specs.Reading.{class_of}
use Rattle.sheet.specs.Asked.{on_sheet}
use Rattle.sheet.proofs.VerdictLaws.{refusal_most}
use Rattle.sheet.proofs.AskedLaws.{refused_first, asked}
use Rattle.children.specs.ChildList.{list_right}
use Rattle.bargewicker.specs.Questions.{Answer, placed}

-- of the refusal of a check, in a reply that is told in another type
pub told_case : (P : Reply Answer → Type 0) {A : Type 0} (f : A → Answer) (ok : Bool) (n : ℕ) (rest : Unit {0} → Reply A) → P (refuse n) → (ok ≡ true → P (told_as f (rest tt)))
    → P (told_as f (check ok n rest))
told_case P f ok n rest refusing pass = choose_case (λ r. P (told_as f r)) ok rest (λ _. refuse n) pass (λ _. refusing)

-- of every refusal up to `most`
module _ (P : Reply Answer → Type 0) (most : ℕ) (no : (n : ℕ) → 1 ≤ n → n ≤ most → P (refuse n)) where
  pub checked_by : (ok : Bool) (n : ℕ) (rest : Unit {0} → Reply Answer) → 1 ≤ n → n ≤ most → (ok ≡ true → P (rest tt)) → P (check ok n rest)
  checked_by ok n rest l m pass = choose_case P ok rest (λ _. refuse n) pass (λ _. no n l m)

  -- the same of a reply that is told in another type
  pub told_by : {A : Type 0} (f : A → Answer) (ok : Bool) (n : ℕ) (rest : Unit {0} → Reply A) → 1 ≤ n → n ≤ most → (ok ≡ true → P (told_as f (rest tt))) → P (told_as f (check ok n rest))
  told_by f ok n rest l m pass = told_case P f ok n rest (no n l m) pass

  pub by_sheet : (b : List ℕ) (rest : Class → Reply Answer) → 9 ≤ most → (Accepted b → P (rest (class_of b))) → P (on_sheet b rest)
  by_sheet b rest s pass = go (refusal b) refl (refusal_most b)
    where
      go : (n : ℕ) → refusal b ≡ n → n ≤ 9 → P (on_sheet b rest)
      go zero e l = subst P (sym (asked b rest e)) (pass e)
      go (suc n) e l = subst P (sym (refused_first b rest (suc n) (sym e) (omega arith))) (no (suc n) (omega arith) (omega arith))

  pub placed_by : (b l : List ℕ) (q : ℕ) (rest : Class → Reply Answer) → 11 ≤ most
      → (Accepted b → list_right (class_of b) l ≡ true → q < own_states (class_of b) → P (rest (class_of b))) → P (placed b l q rest)
  unfolding placed
  placed_by b l q rest s pass =
      by_sheet b _ (omega arith) λ a.
      checked_by (list_right (class_of b) l) 10 _ (omega arith) (omega arith) λ r.
      checked_by (ltb q (own_states (class_of b))) 11 _ (omega arith) (omega arith) λ e. pass a r (ltb-true q (own_states (class_of b)) e)

-- 15 is not given: by another refusal, and by an answer
abbrev pub Roomy : Reply Answer → Type 0
Roomy r = r ≡ refuse 15 → ⊥

pub other_refusal : (n : ℕ) → (n ≡ 15 → ⊥) → Roomy (refuse n)
other_refusal n f e = f (cc)

pub answered : {x : Answer} {ns : List ℕ} → Roomy (give x ns)
answered e = clash (cc)
