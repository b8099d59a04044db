-- What the reader of a pattern answers, and what that is in the tree.
-- Assumes nothing.
use Rattle.std.specs.Prelude.{ℕ, eqb}
use Rattle.model.specs.Words.{choose}
use Rattle.model.specs.Tree.{Pattern as TreePattern, everyone, of_class}
use Rattle.records.specs.declared.kinds.Pattern.{Pattern}
use Rattle.records.specs.declared.kinds.Pattern.TheVariants.{Everyone, OfClass}

abbrev pub pattern_as : Pattern → TreePattern
pattern_as Everyone = everyone
pattern_as (OfClass i) = of_class i.0

-- the answer for a byte: 255 for all children, else a child class
abbrev pub pattern_read : ℕ → Pattern
pattern_read p = choose (eqb p 255) (λ _. Everyone) (λ _. OfClass (record { 0 = p }))
