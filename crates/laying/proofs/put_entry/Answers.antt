use Rattle.laying.proofs.LayingLaws.{entry_all}
use Rattle.laying.proofs.put_entry.Goals as goal

pub returns : goal.returns
returns c = entry_all _ _ _ _ _ _ _ _ c.put_two-next.ensures c.put_two.ensures
