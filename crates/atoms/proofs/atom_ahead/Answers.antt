-- `atoms::atom_ahead` meets its contract.
-- Assumes nothing.
use Rattle.atoms.proofs.AtomSteps.{atom_end, atom_kin}
use Rattle.atoms.proofs.atom_ahead.Goals as goal

pub returns-then-of-eq-END : goal.returns-then-of-eq-END
returns-then-of-eq-END c = atom_end _ _ _ _ _ _ c.next_word-kin.ensures _ _ c.if-of-eq-END.true

pub returns : goal.returns
returns c =
    atom_kin _ _ _ _ _ _ c.next_word-kin.ensures _ _ _ _ c.if-of-eq-END.false c.pattern_in-pattern.ensures
    c.side_ahead.ensures
