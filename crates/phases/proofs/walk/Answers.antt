-- `walk`: the invariant, `Walking`, says what is known before each turn.
-- Assumes nothing.
use native.Mathlib.Omega.{arith}
use mathlib.Core.Path.{refl, ◌∙◌}
use Rattle.std.specs.Prelude.{None}
use Rattle.phases.proofs.WalkLaws.{inside_same, few, walking_start, walking_known, walking_moves, walk_settles, walk_loops}
use Rattle.phases.proofs.walk.Goals as goal

pub loop-made-init : goal.loop-made-init
loop-made-init c = walking_start _ _ c.args.sheet.small c.args.sheet.stands.accepted c.args.crew.runnable.short _ _ c.state_count-most.ensures.0 _ (omega (arith, c.requires, c.state_count-most.ensures.0))

pub bounds-to-i : goal.bounds-to-i
bounds-to-i c = omega (arith, c.loop-made.invariant.low, c.loop-made.invariant.long, (few _ c.args.crew.list.now c.args.sheet.small c.args.sheet.stands.accepted c.args.crew.runnable.short 0 _ c.state_count-most.ensures.0))

pub loop-made-preserved-in-Some : goal.loop-made-preserved-in-Some
loop-made-preserved-in-Some c =
    walking_known _ _ c.args.sheet.small c.args.sheet.stands.accepted c.args.crew.runnable.short _ _ c.state_count-most.ensures.0 _ _ _ _ _ _ c.loop-made.invariant c.loop-made-test.true _ (inside_same c.loop-made.to c.loop-made.at.0 None _ (omega (arith, c.loop-made.invariant.low, c.loop-made.invariant.long, (few _ c.args.crew.list.now c.args.sheet.small c.args.sheet.stands.accepted c.args.crew.runnable.short 0 _ c.state_count-most.ensures.0))) ∙ c.in-Some.is)

pub turn_from-turned-requires : goal.turn_from-turned-requires
turn_from-turned-requires c = omega (arith, c.loop-made.invariant.small, c.loop-made.invariant.inside, (few _ c.args.crew.list.now c.args.sheet.small c.args.sheet.stands.accepted c.args.crew.runnable.short 0 _ c.state_count-most.ensures.0))

pub returns-in-Stops : goal.returns-in-Stops
returns-in-Stops c =
    walk_settles _ _ c.args.sheet.small c.args.sheet.stands.accepted c.args.crew.runnable.short _ _ c.state_count-most.ensures.0 _ _ _ _ _ _ c.loop-made.invariant c.loop-made-test.true _ _ c.turn_from-turned.ensures _ _ refl c.in-Stops.is

pub bounds-to-i-in-Moves : goal.bounds-to-i-in-Moves
bounds-to-i-in-Moves c = omega (arith, c.loop-made.invariant.low, c.loop-made.invariant.long, (few _ c.args.crew.list.now c.args.sheet.small c.args.sheet.stands.accepted c.args.crew.runnable.short 0 _ c.state_count-most.ensures.0))

pub loop-made-preserved : goal.loop-made-preserved
loop-made-preserved c =
    walking_moves _ _ c.args.sheet.small c.args.sheet.stands.accepted c.args.crew.runnable.short _ _ c.state_count-most.ensures.0 _ _ _ _ _ _ c.loop-made.invariant c.loop-made-test.true _ _ c.turn_from-turned.ensures _ c.in-Moves.is

pub returns : goal.returns
returns c =
    walk_loops _ _ c.args.sheet.small c.args.sheet.stands.accepted c.args.crew.runnable.short _ _ c.state_count-most.ensures.0 _ _ _ _ _ _ c.loop-made.invariant c.loop-made-test.false _ refl
