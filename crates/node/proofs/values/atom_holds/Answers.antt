-- `atom_holds` by mask: a law for each kind.
-- Assumes nothing.
use native.Mathlib.Omega.{arith}
use mathlib.Core.Path.{ap}
use Rattle.records.specs.Records.{kind_as}
use Rattle.node.proofs.ValueLaws.{any_met, any_left, none_left, none_met}
use Rattle.node.proofs.values.atom_holds.Goals as goal

pub returns-in-AnyIn : goal.returns-in-AnyIn
returns-in-AnyIn c = let o = c.occupied_names-occupied in any_met _ _ _ _ _ (omega arith) o.ensures (ap kind_as c.in-AnyIn.is)

pub returns-in-AnyNotIn : goal.returns-in-AnyNotIn
returns-in-AnyNotIn c = let o = c.occupied_names-occupied in any_left _ _ _ _ _ (omega arith) o.ensures (ap kind_as c.in-AnyNotIn.is)

pub returns-in-AllIn : goal.returns-in-AllIn
returns-in-AllIn c = let o = c.occupied_names-occupied in none_left _ _ _ _ _ (omega arith) o.ensures (ap kind_as c.in-AllIn.is)

pub returns-in-AllNotIn : goal.returns-in-AllNotIn
returns-in-AllNotIn c = let o = c.occupied_names-occupied in none_met _ _ _ _ _ (omega arith) o.ensures (ap kind_as c.in-AllNotIn.is)
