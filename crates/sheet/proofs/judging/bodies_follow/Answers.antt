-- The first start and the last end are asked, and each body whether the next one follows.
-- Assumes nothing.
use mathlib.Core.Path.{refl}
use borrow.Author.Rules.{rules}
use Rattle.bodies.proofs.Every.{each_from_all}
use Rattle.sheet.proofs.JudgeLaws.{follows, start_wrong, follows_wrong, follows_told}
use Rattle.sheet.proofs.judging.bodies_follow.Goals as goal

pub returns-else-start-eq24 : goal.returns-else-start-eq24
returns-else-start-eq24 c = start_wrong _ c.start-2.ensures.0 c.if-start-eq24.false

pub returns-else-all : goal.returns-else-all
returns-else-all c =
    let m = each_from_all _ (follows c.args.sheet.now) _ _ refl c.all.ensures.ran (λ x b q k. search rules) in
    follows_wrong _ c.start-2.ensures.0 c.if-start-eq24.true m c.if-all.false

pub returns-then-all : goal.returns-then-all
returns-then-all c =
    let m = each_from_all _ (follows c.args.sheet.now) _ _ refl c.all.ensures.ran (λ x b q k. search rules) in
    follows_told _ c.start-2.ensures.0 c.if-start-eq24.true m c.if-all.true c.start.ensures.0 c.size.ensures.0
