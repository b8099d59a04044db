-- `put_row` meets its contract: the first name, and the others behind their commas.
-- Assumes nothing.
use native.Mathlib.Omega.{arith}
use Rattle.pen.proofs.Puts.{puts_none, puts_on, puts_as}
use Rattle.spelling.proofs.SpellingLaws.{row_some, row_none}
use Rattle.spelling.proofs.put_row.Goals as goal

pub returns-in-Some : goal.returns-in-Some
returns-in-Some c = puts_as (row_some _ _ _ c.in-Some.ensures) (puts_on c.put_name-end.ensures c.put_commas.ensures)

pub returns-in-None : goal.returns-in-None
returns-in-None c = puts_as (row_none _ _ c.in-None.ensures) (puts_none _ _ (omega arith) (omega arith))
