use Rattle.classfile.proofs.FieldLaws.{Skipping}
use Rattle.classfile.proofs.fields.skip_blanks.Given as goal

abbrev pub invariant-loop-i : goal.invariant-loop-i
invariant-loop-i l = Skipping l.file l.at l.i
