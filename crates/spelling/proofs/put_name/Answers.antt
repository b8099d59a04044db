-- `put_name` meets its contract: nothing is written past the end of the list.
-- Assumes nothing.
use native.Mathlib.Omega.{arith}
use Rattle.pen.proofs.Puts.{puts_none, puts_as}
use Rattle.naming.specs.NameLists.{characters}
use mathlib.Core.Path.{ap, ◌∙◌}
use Rattle.spelling.proofs.SpellingLaws.{name_there, name_past}
use Rattle.spelling.proofs.put_name.Goals as goal

pub returns-then-record_count-i : goal.returns-then-record_count-i
returns-then-record_count-i c = puts_as (name_past _ _ _ _ c.record_count.ensures c.if-record_count-i.true) (puts_none _ _ (omega arith) (omega arith))

pub returns : goal.returns
returns c = puts_as (ap characters c.name_record.ensures.0 ∙ name_there _ _ _ _ c.record_count.ensures c.if-record_count-i.false) c.put_characters.ensures
