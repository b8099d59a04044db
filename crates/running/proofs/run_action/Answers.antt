-- `run_action`: its statements are cut out of the bodies and run.
-- Assumes nothing.
use Prim.Native.Nat.{ℕ, ◌+◌}
use native.Mathlib.Omega.{arith}
use mathlib.Core.Path.{ap}
use Rattle.sheet.proofs.Rules.{accepted_right}
use Rattle.running.proofs.ActionLaws.{action_read, statements_room, statements_run}
use Rattle.running.proofs.run_action.Goals as goal

pub overflow_add-clauses : goal.overflow_add-clauses
overflow_add-clauses c =
    let read = action_read c.args.sheet.bytes.now (accepted_right _ c.args.sheet.stands.accepted) c.args.q.0 c.args.a c.requires.0 _ (ap (λ (x : ℕ). x + c.args.a) c.clauses_of-clauses.ensures.first_is) in
    omega (arith, read.few)

pub statements_of-part-requires : goal.statements_of-part-requires
statements_of-part-requires c =
    let read = action_read c.args.sheet.bytes.now (accepted_right _ c.args.sheet.stands.accepted) c.args.q.0 c.args.a c.requires.0 _ (ap (λ (x : ℕ). x + c.args.a) c.clauses_of-clauses.ensures.first_is) in
    read.few

pub run_list-requires : goal.run_list-requires
run_list-requires c =
    let read = action_read c.args.sheet.bytes.now (accepted_right _ c.args.sheet.stands.accepted) c.args.q.0 c.args.a c.requires.0 _ (ap (λ (x : ℕ). x + c.args.a) c.clauses_of-clauses.ensures.first_is) in
    statements_room _ _ _ _ read _ _ _ _ c.body-3.ensures c.body.ensures c.body-2.ensures c.statements_of-part.ensures _ _ _ c.args.crew.runnable c.requires.1

pub returns : goal.returns
returns c =
    let read = action_read c.args.sheet.bytes.now (accepted_right _ c.args.sheet.stands.accepted) c.args.q.0 c.args.a c.requires.0 _ (ap (λ (x : ℕ). x + c.args.a) c.clauses_of-clauses.ensures.first_is) in
    statements_run _ _ _ _ read _ _ _ _ c.body-3.ensures c.body.ensures c.body-2.ensures c.statements_of-part.ensures _ _ _ _ _ c.run_list.ensures
