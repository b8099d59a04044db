use Rattle.classfile.proofs.PartLaws.{not_listed, number_past, number_twice, number_more}
use mathlib.Core.Path.{sym, ◌∙◌}
use native.Mathlib.Omega.{arith}
use Rattle.classfile.proofs.parts.add_state.Goals as goal

pub returns-in_default : goal.returns-in_default
returns-in_default c = not_listed _ _ _ _ c.number_in.ensures c.in_default.is

pub returns-then-n-gt31 : goal.returns-then-n-gt31
returns-then-n-gt31 c = number_past _ _ _ _ c.number_in.ensures _ c.in-Some.is c.if-n-gt31.true

pub returns-then-has_name : goal.returns-then-has_name
returns-then-has_name c = number_twice _ _ _ _ c.number_in.ensures _ c.in-Some.is (omega arith) (sym c.has_name.ensures ∙ c.if-has_name.true)

pub returns-else-has_name : goal.returns-else-has_name
returns-else-has_name c = number_more _ _ _ _ c.number_in.ensures _ c.in-Some.is (omega arith) (sym c.has_name.ensures ∙ c.if-has_name.false)
