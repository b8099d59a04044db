-- `put_states` meets its contract. The loop's invariant: whoever writes the states that are left has written all.
-- Assumes nothing.
use Prim.Native.Nat.{◌-◌}
use Rattle.model.specs.Words.{listed}
use Rattle.sheet.specs.Contents.{bodies}
use Rattle.sheet.specs.Reading.{class_of, state_in}
use Rattle.lists.specs.Lent.{lists_of}
use Rattle.pen.proofs.Puts.{Going}
use Rattle.writings.specs.Layout.{states_text}
use Rattle.classtext.proofs.put_states.Given as goal

abbrev pub invariant-loop-q : goal.invariant-loop-q
invariant-loop-q l =
    Going (states_text l.own (lists_of l.lists) 0 (class_of l.sheet.bytes.now).states) l.initial.out l.at
    (states_text l.own (lists_of l.lists) l.q (listed l.q (l.n - l.q) (state_in (bodies l.sheet.bytes.now)))) l.out l.end
