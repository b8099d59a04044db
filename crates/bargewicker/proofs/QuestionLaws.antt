-- Laws about specs/Questions.antt: what each question's reply is, for each way that the face goes.
-- Assumes nothing.
use Prim.Native.Nat.{ℕ, ◌<◌, ◌≤◌}
use native.Mathlib.Omega.{arith}
use mathlib.Core.Path.{◌≡◌, refl, sym, ◌∙◌, ap}
use mathlib.Core.Bool.{Bool, true, false}
use mathlib.Core.List.{List}
use lib.Dec.{ltb}
use borrow.Author.Tests.{le-leb, lt-leb}
use Rattle.model.specs.Words.{choose}
use Rattle.model.specs.Tree.{Class}
use Rattle.model.specs.Node.{own_states}
use Rattle.model.specs.Commands.{command_then_phase}
use Rattle.model.specs.Replies.{Reply, refuse}
use Rattle.sheet.specs.Rules.{Accepted}
use Rattle.sheet.specs.Reading.{class_of}
use Rattle.sheet.proofs.AskedLaws.{asked}
use Rattle.children.specs.ChildList.{children_of, list_right}
use Rattle.commands.specs.Handling.{reply_commanded}
use Rattle.bargewicker.specs.Questions.{placed, reply_command}
use Rattle.bargewicker.specs.Placing.{placed_refusal}

-- the child list and the asked state: 10, 11, or neither
module _ {A : Type 0} (b : List ℕ) (a : Accepted b) (l : List ℕ) (q : ℕ) (rest : Class → Reply A) where
  pub not_placed : (n : ℕ) → n ≡ placed_refusal (class_of b) l q → 1 ≤ n → placed b l q rest ≡ refuse n
  unfolding placed placed_refusal
  not_placed n e m = asked b _ a ∙ go (list_right (class_of b) l) (ltb q (own_states (class_of b))) e
    where
      go : (t u : Bool) → n ≡ choose t (λ _. choose u (λ _. 0) (λ _. 11)) (λ _. 10) → choose t (λ _. choose u (λ _. rest (class_of b)) (λ _. refuse 11)) (λ _. refuse 10) ≡ refuse n
      go true true e = absurd (omega arith)
      go true false e = ap refuse (sym e)
      go false u e = ap refuse (sym e)

  pub is_placed : 0 ≡ placed_refusal (class_of b) l q → placed b l q rest ≡ rest (class_of b)
  unfolding placed placed_refusal
  is_placed e = asked b _ a ∙ go (list_right (class_of b) l) (ltb q (own_states (class_of b))) e
    where
      go : (t u : Bool) → ◌≡◌ {A = ℕ} 0 (choose t (λ _. choose u (λ _. 0) (λ _. 11)) (λ _. 10)) → choose t (λ _. choose u (λ _. rest (class_of b)) (λ _. refuse 11)) (λ _. refuse 10) ≡ rest (class_of b)
      go true true e = refl
      go true false e = absurd (omega arith)
      go false u e = absurd (omega arith)

-- the command: 12, or what it and the phase behind it reply
module _ (c : Class) (l : List ℕ) (q m : ℕ) (out : List ℕ) where
  pub command_over : 63 < m → reply_command c l q m out ≡ refuse 12
  unfolding reply_command
  command_over h = rw (lt-leb m 63 h)

  pub command_taken : m ≤ 63 → reply_command c l q m out ≡ reply_commanded (command_then_phase c (children_of l) q m) out
  unfolding reply_command
  command_taken h = rw (le-leb m 63 h)
