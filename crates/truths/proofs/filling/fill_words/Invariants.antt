-- `fill_words`: from the last record down, each word is made of those behind it.
-- Assumes nothing.
use Prim.Native.Nat.{◌≤◌}
use Rattle.truths.specs.Words.{Filled}
use Rattle.truths.proofs.filling.fill_words.Given as goal

abbrev pub invariant-loop-i : goal.invariant-loop-i
invariant-loop-i l = (l.i ≤ l.n) × Filled l.i l.n l.kinds l.sizes l.masks l.lows l.base l.initial.words l.words
