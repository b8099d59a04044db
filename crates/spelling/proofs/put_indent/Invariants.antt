-- `put_indent` meets its contract. The loop's invariant: whoever writes the levels that are left has written all.
-- Assumes nothing.
use Prim.Native.Nat.{◌-◌}
use Rattle.pen.proofs.Puts.{Going}
use Rattle.writings.specs.Layout.{indent}
use Rattle.spelling.proofs.put_indent.Given as goal

abbrev pub invariant-loop : goal.invariant-loop
invariant-loop l = Going (indent l.level) l.initial.out l.at (indent (l.level - l.counter)) l.out l.end
