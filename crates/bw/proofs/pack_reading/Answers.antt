-- `pack_reading`: a refusal is its own word, 16 has its place behind it, and what was read has its word.
-- Assumes nothing.
use mathlib.Core.Path.{◌∙◌, ap}
use Rattle.std.specs.Prelude.{Err}
use Rattle.bw.proofs.PackedLaws.{word_unread, word_wrong, word_read}
use Rattle.bw.proofs.pack_reading.Goals as goal

pub returns-in-Err-Refused : goal.returns-in-Err-Refused
returns-in-Err-Refused c = word_unread _ c.in-Err-Refused.x _ c.from.ensures (c.in-Err-Refused.is ∙ ap Err (rw c.in-Err-Refused.is at c.in-Err-Refused.field-0-is))

pub returns-in-Err-WrongWord : goal.returns-in-Err-WrongWord
returns-in-Err-WrongWord c = word_wrong _ _ (c.in-Err-WrongWord.is ∙ ap Err (rw c.in-Err-WrongWord.is at c.in-Err-WrongWord.field-0-is))

pub returns-in-Ok : goal.returns-in-Ok
returns-in-Ok c = word_read _ _ _ c.in-Ok.is
