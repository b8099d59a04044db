-- `is_meant`: every child is one of all; of one class, those of that class.
-- Assumes nothing.
use Rattle.running.proofs.SendLaws.{all_meant, one_meant}
use Rattle.running.proofs.is_meant.Goals as goal

pub returns-in-Everyone : goal.returns-in-Everyone
returns-in-Everyone c = rw c.in-Everyone.is (all_meant _)

pub returns-in-OfClass : goal.returns-in-OfClass
returns-in-OfClass c = rw c.in-OfClass.is (one_meant _ _)
