use Rattle.laying.proofs.LayingLaws.{name_all}
use Rattle.laying.proofs.put_name.Goals as goal

pub returns : goal.returns
returns c = name_all _ _ _ _ _ _ _ c.put_bytes-end.ensures c.put_zeros.ensures
