-- `ordering::mark_of` meets its contract.
-- Assumes nothing.
use native.Mathlib.Omega.{arith}
use mathlib.Core.Path.{sym, ap}
use Rattle.ordering.specs.Ordering.{mark_of}
use Rattle.ordering.proofs.MarkLaws.{mark_edge, mark_other}
use Rattle.ordering.proofs.mark_of.Goals as goal

pub returns-in-5 : goal.returns-in-5
unfolding mark_of
returns-in-5 c = ap mark_of (sym c.in-5.is)

pub returns-in-6 : goal.returns-in-6
unfolding mark_of
returns-in-6 c = ap mark_of (sym c.in-6.is)

pub returns-in-7-to-12 : goal.returns-in-7-to-12
returns-in-7-to-12 c = mark_edge _ (omega arith) (omega arith)

pub returns-in-15 : goal.returns-in-15
unfolding mark_of
returns-in-15 c = ap mark_of (sym c.in-15.is)

pub returns-in-16 : goal.returns-in-16
unfolding mark_of
returns-in-16 c = ap mark_of (sym c.in-16.is)

pub returns-in-17 : goal.returns-in-17
unfolding mark_of
returns-in-17 c = ap mark_of (sym c.in-17.is)

pub returns-in-21 : goal.returns-in-21
unfolding mark_of
returns-in-21 c = ap mark_of (sym c.in-21.is)

pub returns-in-22 : goal.returns-in-22
unfolding mark_of
returns-in-22 c = ap mark_of (sym c.in-22.is)

pub returns-in_default : goal.returns-in_default
returns-in_default c =
    mark_other _ (λ e. omega arith) (λ e. omega arith) (λ a b. omega arith) (λ e. omega arith) (λ e. omega arith) (λ e. omega arith) (λ e. omega arith) (λ e. omega arith)

pub returns-in_default-2 : goal.returns-in_default-2
returns-in_default-2 c =
    mark_other _ (λ e. omega arith) (λ e. omega arith) (λ a b. omega arith) (λ e. omega arith) (λ e. omega arith) (λ e. omega arith) (λ e. omega arith) (λ e. omega arith)
