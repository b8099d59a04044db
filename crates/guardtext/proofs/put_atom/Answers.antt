-- `put_atom` meets its contract: six runs of bytes, one behind the other.
-- Assumes nothing.
use Rattle.model.specs.Words.{listed}
use Rattle.grammar.specs.Words.{spelled}
use Rattle.pen.proofs.Puts.{puts_as}
use Rattle.guardtext.proofs.GuardTextLaws.{atom_all}
use Rattle.guardtext.proofs.put_atom.Goals as goal

pub returns : goal.returns
unfolding spelled listed
returns c = atom_all _ _ _ _ _ c.put_bytes-a.ensures (puts_as c.quantifier.ensures c.put_bytes-b.ensures) c.put_kin-c.ensures (puts_as c.side.ensures c.put_bytes-d.ensures) c.put_set-e.ensures c.put_bytes.ensures
