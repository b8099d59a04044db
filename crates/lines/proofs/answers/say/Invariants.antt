-- The invariant: the word and the first numbers are appended.
-- Assumes nothing.
use mathlib.Core.Path.{◌≡◌}
use lib.ListN.{length, take}
use Rattle.texts.specs.Texts.{Appended}
use Rattle.lines.specs.Lines.{said}
use Rattle.lines.proofs.answers.say.Given as goal

abbrev pub invariant-loop-n : goal.invariant-loop-n
invariant-loop-n l = (length l.out ≡ length l.fn.out) × Appended l.fn.out l.out l.at (said l.word (take l.n-index l.numbers)) l.end
