-- `atoms::with_name` meets its contract.
-- Assumes nothing.
use borrow.Author.Rules.{rules}
use Rattle.atoms.proofs.AtomSteps.{name_past, name_marked}
use Rattle.atoms.proofs.with_name.Goals as goal

pub returns-then-i-ge32 : goal.returns-then-i-ge32
returns-then-i-ge32 c = name_past _ _ _ _ c.number-i.ensures c.if-i-ge32.true

pub returns : goal.returns
returns c = name_marked _ _ _ _ c.number-i.ensures (search rules) c.if-i-ge32.false
