-- `atoms::side_ahead` meets its contract.
-- Assumes nothing.
use Rattle.atoms.proofs.AtomSteps.{side_in, side_out, side_none}
use Rattle.atoms.proofs.side_ahead.Goals as goal

pub returns-then-side-eq-IN : goal.returns-then-side-eq-IN
returns-then-side-eq-IN c = side_in _ _ _ _ _ _ c.next_word-word.ensures _ _ _ c.if-side-eq-IN.true c.set_ahead.ensures

pub returns-then-side-eq-NOT_IN : goal.returns-then-side-eq-NOT_IN
returns-then-side-eq-NOT_IN c = side_out _ _ _ _ _ _ c.next_word-word.ensures _ _ _ c.if-side-eq-NOT_IN.true c.set_ahead-then-side-eq-NOT_IN.ensures

pub returns : goal.returns
returns c = side_none _ _ _ _ _ _ c.next_word-word.ensures _ _ c.if-side-eq-IN.false c.if-side-eq-NOT_IN.false
