-- `names_right` meets its contract, part by part.
-- Assumes nothing.
use native.Mathlib.Omega.{arith}
use Rattle.missing.proofs.AnswerLaws.{body_short, names_told}
use Rattle.missing.proofs.names_right.Goals as goal

pub sets_alike-alike-requires : goal.sets_alike-alike-requires
sets_alike-alike-requires c = (let l = body_short _ _ c.args.sheet.stands 0 (omega arith) _ c.body.ensures in omega arith)

pub returns : goal.returns
returns c =
    let x = c.args in
    names_told x.sheet.bytes.now x.own.name.now x.own.states.now x.lists.names.now x.lists.commands.now x.lists.classes.now _ _ c.state_count.ensures.0 c.body.ensures
    _ _ _ c.class_tally-tally.result c.own_right-fits.ensures c.lists_right-right.ensures c.sets_alike-alike.ensures c.class_tally-tally.ensures
