-- The statements of each action clause are asked whether they read.
-- Assumes nothing.
use mathlib.Core.Path.{refl}
use borrow.Author.Rules.{rules}
use Rattle.model.specs.Words.{is_some}
use Rattle.bodies.specs.Clauses.{body_of}
use Rattle.records.specs.Bytes.{in_fours}
use Rattle.bodies.specs.BodyRules.{statements_right}
use Rattle.bodies.proofs.StatementLaws.{body_reads}
use Rattle.bodies.proofs.Every.{each_from_all}
use Rattle.bodies.proofs.checks.statements_ok.Goals as goal

pub returns : goal.returns
unfolding statements_right
returns c = let a = c.args in each_from_all _ (λ i. is_some (body_of (in_fours a.classes.now) (in_fours a.states.now) a.guards.now a.actions.now a.statements.now i)) _ _ refl c.all.ensures.ran (λ x b q k. search (rules, body_reads))
