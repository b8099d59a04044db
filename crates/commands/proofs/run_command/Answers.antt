-- Only the clause for the command is run.
-- Assumes nothing.
use native.Mathlib.Omega.{arith}
use mathlib.Core.Path.{sym, ◌∙◌, ap}
use Rattle.model.specs.declared.OwnState.{OwnState}
use Rattle.sheet.proofs.Rules.{accepted_right}
use Rattle.commands.proofs.HandleLaws.{ignored_told, chosen_told, moved_told, ignored_runs, handled_runs}
use Rattle.commands.proofs.run_command.Goals as goal

pub returns-in_default : goal.returns-in_default
returns-in_default c = ignored_runs _ _ c.args.q _ _ (ignored_told c.args.sheet.bytes.now (accepted_right _ c.args.sheet.stands.accepted) _ _ _ (sym c.clause_for.ensures ∙ c.in_default.is))

pub run_action-ran-requires : goal.run_action-ran-requires
run_action-ran-requires c = ((chosen_told c.args.sheet.bytes.now (accepted_right _ c.args.sheet.stands.accepted) _ _ _ (sym c.clause_for.ensures ∙ c.in-Some.is)).there, omega arith)

pub returns : goal.returns
returns c =
    handled_runs _ _ _ _ _ (chosen_told c.args.sheet.bytes.now (accepted_right _ c.args.sheet.stands.accepted) _ _ _ (sym c.clause_for.ensures ∙ c.in-Some.is)) _ _ _ c.run_action-ran.ensures _
    (moved_told c.args.q c.run_action-ran.result.moved ∙ ap (λ (s : OwnState). s.0) (sym c.unwrap_or.ensures))
