-- Each child class is asked for its set.
-- Assumes nothing.
use mathlib.Core.Path.{refl}
use borrow.Author.Rules.{rules}
use mathlib.Core.Bool.{not}
use lib.Dec.{eqb}
use Rattle.bodies.specs.Clauses.{name_set}
use Rattle.bodies.specs.BodyRules.{classes_right}
use Rattle.bodies.proofs.Every.{each_from_all}
use Rattle.bodies.proofs.checks.classes_ok.Goals as goal

pub returns : goal.returns
unfolding classes_right
returns c = each_from_all _ (λ i. not (eqb (name_set c.args.classes.now i) 0)) _ _ refl c.all.ensures.ran (λ x b q k. search rules)
