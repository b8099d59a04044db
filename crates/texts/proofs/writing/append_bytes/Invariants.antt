-- The invariant: the bytes up to this one are appended. A turn appends one more.
-- Assumes nothing.
use lib.ListN.{take}
use Rattle.texts.specs.Texts.{Appended}
use Rattle.texts.proofs.writing.append_bytes.Given as goal

abbrev pub invariant-loop-x : goal.invariant-loop-x
invariant-loop-x l = Appended l.initial.out l.out l.at (take l.x-index l.bytes) l.end
