-- `put_whens` meets its contract. The loop's invariant: whoever writes the clauses that are left has written all.
-- Assumes nothing.
use Prim.Native.Nat.{◌+◌, ◌-◌}
use Rattle.model.specs.Words.{listed}
use Rattle.sheet.specs.Contents.{bodies}
use Rattle.encoding.specs.Encoding.{gathered}
use Rattle.lists.specs.Lent.{lists_of}
use Rattle.pen.proofs.Puts.{Going}
use Rattle.sheet.specs.Reading.{when_in}
use Rattle.writings.specs.Layout.{when_text}
use Rattle.classtext.specs.ClassText.{own_actions, whens_text}
use Rattle.classtext.proofs.put_whens.Given as goal

abbrev pub invariant-loop-i : goal.invariant-loop-i
invariant-loop-i l =
    Going (whens_text l.sheet.bytes.now l.q.0 l.own (lists_of l.lists)) l.initial.out l.at
    (gathered (when_text l.own (lists_of l.lists) l.q.0 (own_actions l.sheet.bytes.now l.q.0)) (listed (l.first + l.i) (l.n - l.i) (when_in (bodies l.sheet.bytes.now)))) l.out l.end
