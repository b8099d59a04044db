use Prim.Native.Nat.{◌-◌}
use lib.ListN.{length}
use Rattle.classfile.proofs.LoopLaws.{Way}
use Rattle.classfile.proofs.heads.read_head.Given as goal

abbrev pub invariant-loop-names : goal.invariant-loop-names
invariant-loop-names l = Way l.file l.initial.names l.initial.commands l.initial.classes l.names l.commands l.classes l.line l.used l.at

abbrev pub decreases-loop-names : goal.decreases-loop-names
decreases-loop-names l = length l.file - l.at
