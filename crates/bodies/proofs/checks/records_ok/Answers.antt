-- Each guard record is asked for its layout.
-- Assumes nothing.
use mathlib.Core.Path.{refl}
use borrow.Author.Rules.{rules}
use Rattle.records.specs.Bytes.{in_fours, record_at}
use Rattle.records.specs.GuardRecords.{record_right}
use Rattle.bodies.specs.BodyRules.{records_right}
use Rattle.bodies.proofs.Every.{each_from_all}
use Rattle.bodies.proofs.checks.records_ok.Goals as goal

pub returns : goal.returns
unfolding records_right
returns c = let a = c.args in each_from_all _ (λ i. record_right (in_fours a.classes.now) (record_at a.guards.now i)) _ _ refl c.all.ensures.ran (λ x b q k. search rules)
