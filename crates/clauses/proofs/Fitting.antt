-- The numbers of a class within the limits fit the bytes that they have.
-- Assumes nothing.
use Prim.Native.Nat.{ℕ, ◌<◌, ◌≤◌, ◌/◌, ◌%◌}
use native.Mathlib.Omega.{arith}
use mathlib.Core.Path.{◌≡◌}
use mathlib.Core.List.{List, [], ◌∷◌}
use lib.ListN.{length}
use Rattle.model.specs.Tree.{Action, State, Class}
use Rattle.encoding.specs.Limits.{actions_of}
use Rattle.encoding.specs.Numbers.{Every, ActionNumbers, StateNumbers}
use Rattle.encoding.specs.Within.{Within}
use Rattle.encoding.proofs.All.{every_turned, every_both, every_parts}
use Rattle.encoding.proofs.RecordCounts.{part_size, summed, length_gathered, when_number, action_number, statement_number}

-- a number of two bytes
pub high_byte : (n : ℕ) → n < 65536 → n / 256 % 256 ≡ n / 256
high_byte n h = omega arith

-- each entry is at most the sum
sum_above : {A : Type 0} (f : A → ℕ) (xs : List A) (k : ℕ) → summed f xs ≤ k → Every (λ x. f x ≤ k) xs
unfolding summed
sum_above f [] k h = tt
sum_above f (x ∷ xs) k h = ((omega arith), sum_above f xs k (omega arith))

-- a state whose clauses can be counted, an action clause whose command and statements have their bytes
abbrev pub Countable : State → Type 0
Countable s = (length s.whens ≤ 256) × (length s.actions ≤ 256)

abbrev pub Writable : Action → Type 0
Writable a = (a.command ≤ 63) × (part_size a.body ≤ 1024)

module _ (c : Class) (w : Within c) where
  pub all_countable : Every Countable c.states
  all_countable =
      let e₁ = when_number c in
      let e₂ = action_number c in
      let e₃ = length_gathered (λ s. s.whens) c.states in
      let e₄ = length_gathered (λ s. s.actions) c.states in
      every_both (λ s. length s.whens ≤ 256) (λ s. length s.actions ≤ 256) c.states
      (sum_above (λ s. length s.whens) c.states 256 (omega (arith, w.whens)))
      (sum_above (λ s. length s.actions) c.states 256 (omega (arith, w.actions)))

  pub all_writable : Every (λ s. Every Writable s.actions) c.states
  all_writable =
      let e = statement_number c in
      let K : ℕ = length c.children in
      let S : ℕ = length c.states in
      every_turned (λ s. Every (λ a. part_size a.body ≤ 1024) s.actions × StateNumbers K S s) (λ s. Every Writable s.actions)
      (λ s p. every_both (λ a. a.command ≤ 63) (λ a. part_size a.body ≤ 1024) s.actions
      (every_turned (ActionNumbers K S) (λ a. a.command ≤ 63) (λ a q. q.0) s.actions p.1.actions) p.0)
      c.states
      (every_both (λ s. Every (λ a. part_size a.body ≤ 1024) s.actions) (StateNumbers K S) c.states
      (every_parts (λ a. part_size a.body ≤ 1024) (λ s. s.actions) c.states
      (sum_above (λ a. part_size a.body) (actions_of c) 1024 (omega (arith, w.statements))))
      w.numbers.states)
