-- `read_clauses`: the clauses of the states before q are read.
-- Assumes nothing.
-- what `read_clauses` was called with
use native.Mathlib.Omega.{arith}
use mathlib.Core.Path.{ap}
use Rattle.records.specs.Bytes.{in_fours}
use Rattle.accepted.proofs.ClauseLaws.{states_few, actions_few}
use Rattle.blocks.proofs.ClauseLaws.{whens_start, state_read, firsts_of, state_lent, read_all}
use Rattle.blocks.proofs.clauses.read_clauses.Goals as goal

pub first_clauses-firsts-requires : goal.first_clauses-firsts-requires
first_clauses-firsts-requires c = (omega (arith, ap in_fours c.body.ensures, states_few _ _ c.args.sheet.stands), omega arith)

pub first_clauses-actions-requires : goal.first_clauses-actions-requires
first_clauses-actions-requires c = (omega (arith, ap in_fours c.body-2.ensures, states_few _ _ c.args.sheet.stands), omega arith)

pub statement_starts-froms-requires : goal.statement_starts-froms-requires
statement_starts-froms-requires c = omega (arith, ap in_fours c.body-3.ensures, actions_few _ _ c.args.sheet.stands)

pub loop-q-init : goal.loop-q-init
loop-q-init c = (omega arith, whens_start _ _)

pub read_state-requires : goal.read_state-requires
read_state-requires c = state_lent _ _ c.args.sheet.stands _ _ _ _ _ _ (firsts_of _ _ _ _ c.body.ensures c.first_clauses-firsts.ensures) (firsts_of _ _ _ _ c.body-2.ensures c.first_clauses-actions.ensures) c.state_count-states.ensures.0 c.loop-q-test.true c.loop-q.invariant.1.places_long c.loop-q.invariant.1.aims_long

pub loop-q-preserved : goal.loop-q-preserved
loop-q-preserved c = (omega arith, state_read _ _ _ _ _ _ _ _ _ _ (firsts_of _ _ _ _ c.body.ensures c.first_clauses-firsts.ensures) (firsts_of _ _ _ _ c.body-2.ensures c.first_clauses-actions.ensures) c.state_count-states.ensures.0 c.loop-q-test.true c.loop-q.invariant.1 c.read_state.ensures)

pub returns : goal.returns
returns c = read_all _ _ _ _ _ _ _ _ _ _ c.body-whens.ensures c.body-3.ensures c.loop-q.invariant.1 c.loop-q.invariant.0 c.loop-q-test.false (firsts_of _ _ _ _ c.body.ensures c.first_clauses-firsts.ensures) (firsts_of _ _ _ _ c.body-2.ensures c.first_clauses-actions.ensures) c.statement_starts-froms.ensures c.state_count-states.ensures.0
