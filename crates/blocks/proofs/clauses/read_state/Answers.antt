-- `read_state`: the clauses before w are read.
-- Assumes nothing.
use native.Mathlib.Omega.{arith}
use Rattle.blocks.proofs.ClauseLaws.{read_start, read_more, read_end}
use Rattle.blocks.proofs.clauses.read_state.Goals as goal

pub loop-w-init : goal.loop-w-init
loop-w-init c = ((omega arith, c.requires.rising), read_start _ _ _ _ _ _)

pub bounds-places-w : goal.bounds-places-w
bounds-places-w c = omega (arith, c.loop-w.invariant.1.places_long, c.requires.of_places)

pub bounds-aims-w : goal.bounds-aims-w
bounds-aims-w c = omega (arith, c.loop-w.invariant.1.aims_long, c.requires.of_aims)

pub loop-w-preserved : goal.loop-w-preserved
loop-w-preserved c =
    let p = c.requires in
    ((omega arith, omega arith), read_more _ _ _ _ _ _ _ _ _ _ _ _ c.loop-w.invariant.1 c.loop-w.invariant.0.0 (omega (arith, p.of_places, p.inside)) (omega (arith, p.of_aims, p.inside)) c.guard_place.ensures c.referrer_at.ensures c.aim_of.ensures)

pub returns : goal.returns
returns c = read_end _ _ _ _ _ _ _ _ _ _ c.loop-w.invariant.1 c.loop-w.invariant.0.1 c.loop-w-test.false
