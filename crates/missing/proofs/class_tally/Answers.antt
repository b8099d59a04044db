-- `class_tally` meets its contract: all clauses and all statements of the sheet are the class's.
-- Assumes nothing.
use native.Mathlib.Omega.{arith}
use Rattle.missing.proofs.AnswerLaws.{body_short, class_told}
use Rattle.missing.proofs.class_tally.Goals as goal

pub whens_tally-whens-requires : goal.whens_tally-whens-requires
whens_tally-whens-requires c =
    let s = c.args.sheet.stands in
    (body_short _ _ s 2 (omega arith) _ c.body.ensures, body_short _ _ s 3 (omega arith) _ c.body-guards.ensures)

pub commands_named-heads-requires : goal.commands_named-heads-requires
commands_named-heads-requires c = body_short _ _ c.args.sheet.stands 4 (omega arith) _ c.body-2.ensures

pub statements_tally-parts-requires : goal.statements_tally-parts-requires
statements_tally-parts-requires c =
    let s = c.args.sheet.stands in
    (body_short _ _ s 5 (omega arith) _ c.body-3.ensures, body_short _ _ s 3 (omega arith) _ c.body-guards.ensures)

pub returns : goal.returns
returns c =
    class_told _ _ c.args.sheet.stands _ _ _ _ _ _ c.body-guards.ensures c.body.ensures c.body-2.ensures c.body-3.ensures
    c.whens_tally-whens.result c.commands_named-heads.result c.statements_tally-parts.result c.whens_tally-whens.ensures.0 c.commands_named-heads.ensures c.statements_tally-parts.ensures.0
