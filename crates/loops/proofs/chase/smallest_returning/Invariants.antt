-- `smallest_returning`: no state before q comes back.
-- Assumes nothing.
use Prim.Native.Nat.{ℕ, ◌<◌, ◌≤◌}
use mathlib.Core.Path.{◌≡◌}
use mathlib.Core.Bool.{false}
use Rattle.model.specs.Moves.{returns_soon}
use Rattle.loops.specs.Chase.{table_next}
use Rattle.loops.proofs.chase.smallest_returning.Given as goal

abbrev pub invariant-loop-q : goal.invariant-loop-q
invariant-loop-q l = (l.q ≤ l.n) × ((j : ℕ) → j < l.q → returns_soon (table_next l.table.to) l.n j ≡ false)
