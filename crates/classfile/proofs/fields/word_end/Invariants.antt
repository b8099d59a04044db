use Rattle.classfile.proofs.FieldLaws.{Running}
use Rattle.classfile.proofs.fields.word_end.Given as goal

abbrev pub invariant-loop-i : goal.invariant-loop-i
invariant-loop-i l = Running l.file l.at l.i
