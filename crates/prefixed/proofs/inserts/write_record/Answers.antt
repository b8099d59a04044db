-- `prefixed::inserts::write_record` meets its contract.
-- Assumes nothing.
use mathlib.Core.Path.{◌∙◌}
use Rattle.pen.proofs.Puts.{puts_on, puts_as}
use Rattle.prefixed.proofs.InsertLaws.{set_bytes}
use Rattle.prefixed.proofs.inserts.write_record.Goals as goal

pub returns : goal.returns
returns c = (puts_on c.put_four-next.ensures (puts_as (c.to_le_bytes.ensures ∙ set_bytes _ c.ranges.set.fits) c.put_bytes.ensures)).buffer
