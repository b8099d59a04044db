-- `search`: the tables are the sheet's, so what the blocks give is found of the sheet.
-- Assumes nothing.
-- what `search` was called with
-- the tables are those of the sheet
use native.Mathlib.Omega.{arith}
use mathlib.Core.Path.{ap}
use lib.ListN.{length}
use Rattle.accepted.proofs.ClauseLaws.{guards_short}
use Rattle.blocks.proofs.SearchLaws.{count_is, tables_of, ready}
use Rattle.blocks.proofs.search.search.Goals as goal

pub plan_guards-plan-requires : goal.plan_guards-plan-requires
plan_guards-plan-requires c = (omega (arith, guards_short _ _ c.args.sheet.stands, ap length c.body.ensures), (c.requires.few, c.requires.small))

pub try_blocks-requires : goal.try_blocks-requires
try_blocks-requires c = (ready _ _ _ _ _ _ _ (tables_of _ _ _ _ _ _ _ _ _ c.args.sheet.small c.args.sheet.stands c.requires c.body.ensures c.plan_guards-plan.ensures c.read_clauses-clauses.ensures c.body-statements.ensures c.present_masks.ensures), c.requires.few)

pub returns : goal.returns
returns c = c.try_blocks.ensures.finds _ _ _ (tables_of _ _ _ _ _ _ _ _ _ c.args.sheet.small c.args.sheet.stands c.requires c.body.ensures c.plan_guards-plan.ensures c.read_clauses-clauses.ensures c.body-statements.ensures c.present_masks.ensures) (count_is _ _ _ c.requires)
