-- `prefixed::inserts::insert` meets its contract.
-- Assumes nothing.
use borrow.Author.Rules.{rules}
use Rattle.prefixed.proofs.InsertLaws.{recorded}
use Rattle.prefixed.proofs.inserts.insert.Goals as goal

pub returns : goal.returns
returns c = recorded _ _ _ _ _ _ (search rules) (search rules) c.open_gap.ensures c.write_record.ensures
