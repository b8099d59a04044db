-- `put_guard` meets its contract: where a guard begins at the place, its text is written.
-- Assumes nothing.
use Rattle.guardtext.proofs.GuardTextLaws.{guard_written, guard_broken}
use Rattle.guardtext.proofs.put_guard.Goals as goal

pub returns-in-Some : goal.returns-in-Some
returns-in-Some c = guard_written _ _ _ _ _ _ _ _ c.put_from.ensures _ _ c.in-Some.is

pub returns-in-None : goal.returns-in-None
returns-in-None c = guard_broken _ _ _ _ _ _ _ _ c.put_from.ensures c.in-None.is _
