-- `run_do`: what the clause did decides between a move and the end of the phase.
-- Assumes nothing.
use mathlib.Core.Path.{sym, ◌∙◌}
use Rattle.sheet.proofs.Rules.{accepted_right}
use Rattle.phases.proofs.TurnLaws.{do_moves, do_stops, command_told}
use Rattle.phases.proofs.run_do.Goals as goal

pub returns-in-Some : goal.returns-in-Some
returns-in-Some c = let r = c.run_action-ran.ensures in do_moves _ _ _ _ _ _ r.writes r.moved _ c.in-Some.is

pub returns-in-None : goal.returns-in-None
returns-in-None c =
    do_stops _ _ _ _ _ _ c.run_action-ran.ensures.writes c.run_action-ran.ensures.moved _ c.in-None.is
    (c.command_of.ensures ∙ sym (command_told c.args.sheet.bytes.now (accepted_right _ c.args.sheet.stands.accepted) c.args.q.0 c.args.a c.requires.0))
