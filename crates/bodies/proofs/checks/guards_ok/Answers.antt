-- Each when clause's guard is asked whether it reads.
-- Assumes nothing.
use mathlib.Core.Path.{refl}
use borrow.Author.Rules.{rules}
use Rattle.bodies.specs.Clauses.{guard_place}
use Rattle.records.specs.GuardRecords.{guard_from, is_read}
use Rattle.bodies.specs.BodyRules.{guards_right}
use Rattle.bodies.proofs.Every.{each_from_all}
use Rattle.bodies.proofs.checks.guards_ok.Goals as goal

pub returns : goal.returns
unfolding guards_right
returns c = let a = c.args in each_from_all _ (λ w. is_read (guard_from a.guards.now (guard_place a.whens.now w))) _ _ refl c.all.ensures.ran (λ x b q k. search rules)
