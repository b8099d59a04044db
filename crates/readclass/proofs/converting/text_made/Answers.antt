use mathlib.Core.Path.{refl, ◌∙◌, ap}
use Rattle.std.specs.Prelude.{Err}
use Rattle.readclass.proofs.Making.{text_read}
use Rattle.readclass.proofs.converting.text_made.Goals as goal

pub returns-in-Ok : goal.returns-in-Ok
returns-in-Ok c = text_read _ _ _ _ _ _ c.read_class-answer.ensures _ c.in-Ok.is _ refl

pub returns-in-Err-WrongWord : goal.returns-in-Err-WrongWord
returns-in-Err-WrongWord c = text_read _ _ _ _ _ _ c.read_class-answer.ensures _ (c.in-Err-WrongWord.is ∙ ap Err (rw c.in-Err-WrongWord.is at c.in-Err-WrongWord.field-0-is)) _ refl

pub returns-in-Err-Refused : goal.returns-in-Err-Refused
returns-in-Err-Refused c = text_read _ _ _ _ _ _ c.read_class-answer.ensures _ (c.in-Err-Refused.is ∙ ap Err (rw c.in-Err-Refused.is at c.in-Err-Refused.field-0-is)) _ refl
