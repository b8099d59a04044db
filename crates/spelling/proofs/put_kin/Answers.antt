-- `put_kin` meets its contract, for all children and for those of a class.
-- Assumes nothing.
use Rattle.pen.proofs.Puts.{puts_as}
use Rattle.model.specs.Words.{listed}
use Rattle.grammar.specs.Words.{spelled}
use Rattle.spelling.proofs.SpellingLaws.{kin_all, kin_one}
use Rattle.spelling.proofs.put_kin.Goals as goal

pub returns-in-Everyone : goal.returns-in-Everyone
unfolding spelled listed
returns-in-Everyone c = puts_as (kin_all _ _ c.in-Everyone.is) c.put_bytes.ensures

pub returns-in-OfClass : goal.returns-in-OfClass
returns-in-OfClass c = puts_as (kin_one _ _ _ c.in-OfClass.is) c.put_name.ensures
