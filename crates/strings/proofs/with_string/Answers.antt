-- The string is wrong, or is read and goes on.
-- Assumes nothing.
use Rattle.strings.proofs.StringLaws.{string_wrong, string_read}
use Rattle.strings.proofs.with_string.Goals as goal

pub returns-in_default : goal.returns-in_default
returns-in_default g c = λ line each. string_wrong _ _ _ _ _ _ _ line c.first_field.ensures c.blank-string.ensures c.in_default.ensures.decoded c.bad_line.ensures

pub returns : goal.returns
returns g c = λ line each. string_read _ _ _ _ _ _ _ line c.first_field.ensures c.blank-string.ensures _ c.in-Some.ensures.within.0 c.in-Some.ensures.decoded _ c.other_fields.ensures (each _ _ _ _ _ _ c.then.ensures)
