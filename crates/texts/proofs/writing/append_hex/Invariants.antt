-- The invariant: the digits of the bytes up to this one are appended. A turn appends those of one more.
-- Assumes nothing.
use lib.ListN.{take}
use Rattle.texts.specs.Texts.{Appended, hex_text}
use Rattle.texts.proofs.writing.append_hex.Given as goal

abbrev pub invariant-loop-x : goal.invariant-loop-x
invariant-loop-x l = Appended l.initial.out l.out l.at (hex_text (take l.x-index l.bytes)) l.end
