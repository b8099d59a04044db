use Rattle.laying.proofs.LayingLaws.{number_all}
use Rattle.laying.proofs.put_number.Goals as goal

pub returns : goal.returns
returns c = number_all _ _ _ _ _ c.put_entry.ensures
