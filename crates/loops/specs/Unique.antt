-- The promises of the public functions of this floor leave one answer, and one content of a lent buffer, for any input.
-- Assumes nothing.
use Rattle.std.specs.Prelude.{ℕ, ◌≡◌, List, length}
use Rattle.model.specs.Tree.{Child}
use Rattle.model.specs.Replies.{Reply, Answered}
use Rattle.model.specs.Answers.{loop_numbers, LoopAnswer}
use Rattle.model.specs.Unique.{LeavesOne}
use Rattle.configurations.specs.LoopAnswer.{Loops}
use Rattle.configurations.specs.Cells.{first_twenty}
use Rattle.configurations.specs.declared.Cells.{Cells}
use Rattle.loops.specs.Cells.{present_cells, Spreads}
use Rattle.loops.specs.Chase.{Tabulates}
use Rattle.loops.specs.LoopQuestion.{loops_values}
use Rattle.loops.specs.declared.chase.Table.{Table}

-- a table of 32 bytes is of this length by its type; the state of `smallest_returning` and `returning_in` is an
-- equation
pub record Unique : Type 0 where
  pub reading : (classes : List ℕ) (present : ℕ) → LeavesOne (λ (r : Cells). r ≡ first_twenty (present_cells classes present))
  pub spreading : (ks : List Child) → LeavesOne (λ (sets : List ℕ). Spreads sets ks)
  pub tabulating : (b list : List ℕ) (r s : Table) → length r.to ≡ 32 → length s.to ≡ 32 → Tabulates b list r → Tabulates b list s → r ≡ s
  pub asking : (reply : Reply Loops) (out : List ℕ) (r s : LoopAnswer) (x y : List ℕ)
      → Answered loops_values reply out (loop_numbers r) x → Answered loops_values reply out (loop_numbers s) y → (r ≡ s) × (x ≡ y)
