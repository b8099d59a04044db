-- `put_actions` meets its contract. The loop's invariant: whoever writes the clauses that are left has written all.
-- Assumes nothing.
use Prim.Native.Nat.{◌+◌, ◌-◌}
use Rattle.model.specs.Words.{listed}
use Rattle.sheet.specs.Contents.{bodies}
use Rattle.encoding.specs.Encoding.{gathered}
use Rattle.lists.specs.Lent.{lists_of}
use Rattle.pen.proofs.Puts.{Going}
use Rattle.sheet.specs.Reading.{action_in}
use Rattle.writings.specs.Layout.{action_text}
use Rattle.classtext.proofs.put_actions.Given as goal

abbrev pub invariant-loop-i : goal.invariant-loop-i
invariant-loop-i l =
    Going (gathered (action_text l.own (lists_of l.lists)) (listed (l.first + 0) (l.n - 0) (action_in (bodies l.sheet.bytes.now)))) l.initial.out l.at
    (gathered (action_text l.own (lists_of l.lists)) (listed (l.first + l.i) (l.n - l.i) (action_in (bodies l.sheet.bytes.now)))) l.out l.end
