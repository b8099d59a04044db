-- The loop's invariant: the first referrer from the start on is the first from here on.
-- Assumes nothing.
use native.Mathlib.Omega.{arith}
use mathlib.Core.Path.{refl}
use Rattle.whens.proofs.AheadLaws.{refer_move, refer_do, refer_stay, refer_pass}
use Rattle.whens.proofs.referrer_ahead.Goals as goal

pub loop-init : goal.loop-init
loop-init c = refl

pub returns-in-8 : goal.returns-in-8
returns-in-8 c = refer_move _ _ _ _ _ _ c.loop.invariant c.next_word-w.ensures c.in-8.is _ c.name_ahead.ensures

pub returns-in-9 : goal.returns-in-9
returns-in-9 c = refer_do _ _ _ _ _ _ c.loop.invariant c.next_word-w.ensures c.in-9.is _ c.name_ahead-in-9.ensures

pub returns-in-10 : goal.returns-in-10
returns-in-10 c = refer_stay _ _ _ _ _ _ c.loop.invariant c.next_word-w.ensures c.in-10.is

pub loop-preserved : goal.loop-preserved
loop-preserved c = refer_pass _ _ _ _ _ _ c.loop.invariant c.next_word-w.ensures (λ z. omega arith) (λ z. omega arith) (λ z. grind arith) (λ z. grind arith)
