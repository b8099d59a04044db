-- `probe` meets its contract: what `first_true` answers is what the tree's probe finds.
-- Assumes nothing.
use native.Mathlib.Omega.{arith}
use mathlib.Core.Path.{sym, ◌∙◌}
use Rattle.node.proofs.ProbeLaws.{hit_some, probes_none, probes_found}
use Rattle.node.proofs.probing.probe.Goals as goal

pub returns-in_err-hit : goal.returns-in_err-hit
returns-in_err-hit c = rw c.from_residual.ensures (probes_none _ _ c.args.sheet.stands _ _ _ c.clauses_of-clauses.ensures (sym c.first_true.ensures ∙ c.in_err-hit.was))

pub overflow_add-first : goal.overflow_add-first
overflow_add-first c = omega (arith, (hit_some _ _ _ _ _ (sym c.first_true.ensures ∙ c.in_ok-hit.was)).inside)

pub referrer_at-requires : goal.referrer_at-requires
referrer_at-requires c = omega (arith, (hit_some _ _ _ _ _ (sym c.first_true.ensures ∙ c.in_ok-hit.was)).inside)

pub returns : goal.returns
returns c = probes_found _ _ c.args.sheet.stands _ _ _ c.clauses_of-clauses.ensures _ (sym c.first_true.ensures ∙ c.in_ok-hit.was) _ c.body.ensures c.referrer_at.result c.referrer_at.ensures
