-- How far the input is taken, within the two buffers that hold it.
-- Assumes nothing.
use Rattle.std.specs.Prelude.{ℕ, ◌≤◌, List}
use Rattle.io.specs.Counts.{IsPrefixLen}
use Rattle.questions.specs.declared.Input.{Input}

-- the next byte is one of the chunk's, or none is left; the chunk's bytes and those of the line so far, which wait for its end, are counted
pub record Inside (s : Input) (chunk line : List ℕ) : Type 0 where
  pub ahead : s.at ≤ s.end
  pub taken : IsPrefixLen s.end chunk
  pub waiting : IsPrefixLen s.waiting line
