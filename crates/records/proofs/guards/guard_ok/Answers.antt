-- `guard_ok`: a guard reads exactly if it has an end.
-- Assumes nothing.
use mathlib.Core.Path.{◌∙◌, ap}
use Rattle.std.specs.Option.{is_some}
use Rattle.records.proofs.GuardLaws.{ends_read}
use Rattle.records.proofs.guards.guard_ok.Goals as goal

pub returns : goal.returns
returns c = c.is_some.ensures ∙ ap is_some c.guard_end.ensures ∙ ends_read _ _
