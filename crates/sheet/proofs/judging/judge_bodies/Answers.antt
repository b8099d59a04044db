-- At each check that passed, what the rules from the next on give is the refusal of the bodies; so a check that fails gives its number.
-- Assumes nothing.
use Rattle.sheet.specs.Verdict.{together}
use Rattle.sheet.proofs.JudgeLaws.{from_first, goes_on, stops}
use mathlib.Core.Path.{ap, sym}
use mathlib.Core.Bool.{not}
use Rattle.sheet.proofs.judging.judge_bodies.Goals as goal

pub returns-then-not-classes_ok : goal.returns-then-not-classes_ok
returns-then-not-classes_ok c =
    let a = c.args in
    let s = together a.classes.now a.states.now a.whens.now a.guards.now a.actions.now a.statements.now in
    stops 2 _ (from_first s) c.classes_ok.ensures (ap not c.if-not-classes_ok.true)

pub returns-then-not-counts_ok : goal.returns-then-not-counts_ok
returns-then-not-counts_ok c =
    let a = c.args in
    let s = together a.classes.now a.states.now a.whens.now a.guards.now a.actions.now a.statements.now in
    let passed-1 = goes_on 2 _ (from_first s) c.classes_ok.ensures (ap not c.if-not-classes_ok.false) in
    stops 3 _ passed-1 c.counts_ok.ensures (ap not c.if-not-counts_ok.true)

pub returns-then-not-records_ok : goal.returns-then-not-records_ok
returns-then-not-records_ok c =
    let a = c.args in
    let s = together a.classes.now a.states.now a.whens.now a.guards.now a.actions.now a.statements.now in
    let passed-1 = goes_on 2 _ (from_first s) c.classes_ok.ensures (ap not c.if-not-classes_ok.false) in
    let passed-2 = goes_on 3 _ passed-1 c.counts_ok.ensures (ap not c.if-not-counts_ok.false) in
    stops 4 _ passed-2 c.records_ok.ensures (ap not c.if-not-records_ok.true)

pub returns-then-not-guards_ok : goal.returns-then-not-guards_ok
returns-then-not-guards_ok c =
    let a = c.args in
    let s = together a.classes.now a.states.now a.whens.now a.guards.now a.actions.now a.statements.now in
    let passed-1 = goes_on 2 _ (from_first s) c.classes_ok.ensures (ap not c.if-not-classes_ok.false) in
    let passed-2 = goes_on 3 _ passed-1 c.counts_ok.ensures (ap not c.if-not-counts_ok.false) in
    let passed-3 = goes_on 4 _ passed-2 c.records_ok.ensures (ap not c.if-not-records_ok.false) in
    stops 5 _ passed-3 c.guards_ok.ensures (ap not c.if-not-guards_ok.true)

pub returns-then-not-targets_ok : goal.returns-then-not-targets_ok
returns-then-not-targets_ok c =
    let a = c.args in
    let s = together a.classes.now a.states.now a.whens.now a.guards.now a.actions.now a.statements.now in
    let passed-1 = goes_on 2 _ (from_first s) c.classes_ok.ensures (ap not c.if-not-classes_ok.false) in
    let passed-2 = goes_on 3 _ passed-1 c.counts_ok.ensures (ap not c.if-not-counts_ok.false) in
    let passed-3 = goes_on 4 _ passed-2 c.records_ok.ensures (ap not c.if-not-records_ok.false) in
    let passed-4 = goes_on 5 _ passed-3 c.guards_ok.ensures (ap not c.if-not-guards_ok.false) in
    stops 6 _ passed-4 c.targets_ok.ensures (ap not c.if-not-targets_ok.true)

pub returns-then-not-actions_ok : goal.returns-then-not-actions_ok
returns-then-not-actions_ok c =
    let a = c.args in
    let s = together a.classes.now a.states.now a.whens.now a.guards.now a.actions.now a.statements.now in
    let passed-1 = goes_on 2 _ (from_first s) c.classes_ok.ensures (ap not c.if-not-classes_ok.false) in
    let passed-2 = goes_on 3 _ passed-1 c.counts_ok.ensures (ap not c.if-not-counts_ok.false) in
    let passed-3 = goes_on 4 _ passed-2 c.records_ok.ensures (ap not c.if-not-records_ok.false) in
    let passed-4 = goes_on 5 _ passed-3 c.guards_ok.ensures (ap not c.if-not-guards_ok.false) in
    let passed-5 = goes_on 6 _ passed-4 c.targets_ok.ensures (ap not c.if-not-targets_ok.false) in
    stops 7 _ passed-5 c.actions_ok.ensures (ap not c.if-not-actions_ok.true)

pub returns-then-not-statements_ok : goal.returns-then-not-statements_ok
returns-then-not-statements_ok c =
    let a = c.args in
    let s = together a.classes.now a.states.now a.whens.now a.guards.now a.actions.now a.statements.now in
    let passed-1 = goes_on 2 _ (from_first s) c.classes_ok.ensures (ap not c.if-not-classes_ok.false) in
    let passed-2 = goes_on 3 _ passed-1 c.counts_ok.ensures (ap not c.if-not-counts_ok.false) in
    let passed-3 = goes_on 4 _ passed-2 c.records_ok.ensures (ap not c.if-not-records_ok.false) in
    let passed-4 = goes_on 5 _ passed-3 c.guards_ok.ensures (ap not c.if-not-guards_ok.false) in
    let passed-5 = goes_on 6 _ passed-4 c.targets_ok.ensures (ap not c.if-not-targets_ok.false) in
    let passed-6 = goes_on 7 _ passed-5 c.actions_ok.ensures (ap not c.if-not-actions_ok.false) in
    stops 8 _ passed-6 c.statements_ok.ensures (ap not c.if-not-statements_ok.true)

pub returns : goal.returns
returns c =
    let a = c.args in
    let s = together a.classes.now a.states.now a.whens.now a.guards.now a.actions.now a.statements.now in
    let passed-1 = goes_on 2 _ (from_first s) c.classes_ok.ensures (ap not c.if-not-classes_ok.false) in
    let passed-2 = goes_on 3 _ passed-1 c.counts_ok.ensures (ap not c.if-not-counts_ok.false) in
    let passed-3 = goes_on 4 _ passed-2 c.records_ok.ensures (ap not c.if-not-records_ok.false) in
    let passed-4 = goes_on 5 _ passed-3 c.guards_ok.ensures (ap not c.if-not-guards_ok.false) in
    let passed-5 = goes_on 6 _ passed-4 c.targets_ok.ensures (ap not c.if-not-targets_ok.false) in
    let passed-6 = goes_on 7 _ passed-5 c.actions_ok.ensures (ap not c.if-not-actions_ok.false) in
    let passed-7 = goes_on 8 _ passed-6 c.statements_ok.ensures (ap not c.if-not-statements_ok.false) in
    sym passed-7
