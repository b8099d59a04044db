use Rattle.classfile.proofs.FieldLaws.{next_file, next_line, next_found}
use Rattle.classfile.proofs.fields.next_field.Goals as goal

pub returns-then-file-start : goal.returns-then-file-start
returns-then-file-start c = next_file _ _ _ c.skip_blanks-start.ensures c.if-file-start.true

pub returns-then-file-start-eq10 : goal.returns-then-file-start-eq10
returns-then-file-start-eq10 c = next_line _ _ _ c.skip_blanks-start.ensures c.if-file-start.false c.if-file-start-eq10.true

pub returns : goal.returns
returns c = next_found _ _ _ _ c.skip_blanks-start.ensures c.if-file-start.false c.if-file-start-eq10.false c.word_end.ensures
