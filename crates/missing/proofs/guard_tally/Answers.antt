-- `guard_tally` meets its contract: the guard's records are those from where it begins to where it ends.
-- Assumes nothing.
use native.Mathlib.Omega.{arith}
use mathlib.Core.Path.{sym}
use Rattle.missing.proofs.GuardTallies.{guard_inside, guard_told, guard_none}
use Rattle.missing.proofs.guard_tally.Goals as goal

pub returns-in_default : goal.returns-in_default
returns-in_default c = (guard_none _ _ _ (sym c.in_default.ensures), omega arith)

pub overflow_sub-count : goal.overflow_sub-count
overflow_sub-count c = omega (arith, (guard_inside 0 _ _ _ (sym c.in-Some.ensures)).0)

pub records_named-requires : goal.records_named-requires
records_named-requires c =
    let h = guard_inside 0 _ _ _ (sym c.in-Some.ensures) in
    omega (arith, h.0, h.1)

pub returns : goal.returns
returns c =
    let h = sym c.in-Some.ensures in
    let i = guard_inside 0 _ _ _ h in
    (guard_told _ _ _ _ h _ c.records_named.ensures, omega (arith, i.1))
