-- `own_right` meets its contract: a name of another length is wrong, and else the tests are those of the definition.
-- Assumes nothing.
use Rattle.missing.proofs.SetLaws.{name_long, own_told}
use Rattle.missing.proofs.own_right.Goals as goal

pub returns-then-own-ne32 : goal.returns-then-own-ne32
returns-then-own-ne32 c = name_long _ _ _ c.if-own-ne32.true

pub returns : goal.returns
returns c = own_told _ _ _ c.if-own-ne32.false _ _ c.record_right-name.ensures c.list_right-table.ensures
