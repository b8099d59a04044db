-- `next_named` meets its contract. The loop's invariant, `Looking`: the names from `at` on are those from i on.
-- Assumes nothing.
use native.Mathlib.Omega.{arith}
use mathlib.Core.Path.{refl}
use Rattle.own.proofs.NextLaws.{search_over, search_less, search_on, name_found, no_name_found}
use Rattle.own.proofs.next_named.Goals as goal

pub loop-word-init : goal.loop-word-init
loop-word-init c = record { names = refl; onward = omega arith }

pub returns-then-word-stop : goal.returns-then-word-stop
returns-then-word-stop c = search_over _ _ _ _ _ _ _ _ c.requires c.loop-word.invariant c.next_word-word.ensures c.if-word-stop.true

pub returns-then-name-eq0 : goal.returns-then-name-eq0
returns-then-name-eq0 c = name_found _ _ _ _ _ _ _ _ c.requires c.loop-word.invariant c.next_word-word.ensures c.if-word-stop.false c.if-word-kind.true _ _ _ c.next_word-name.ensures c.if-name-eq0.true

pub returns-then-word-kind : goal.returns-then-word-kind
returns-then-word-kind c = no_name_found _ _ _ _ _ _ _ _ c.requires c.loop-word.invariant c.next_word-word.ensures c.if-word-stop.false c.if-word-kind.true _ _ _ c.next_word-name.ensures c.if-name-eq0.false

pub loop-word-smaller : goal.loop-word-smaller
loop-word-smaller c = search_less _ _ _ _ _ _ _ _ c.requires c.loop-word.invariant c.next_word-word.ensures c.if-word-stop.false

pub loop-word-preserved : goal.loop-word-preserved
loop-word-preserved c = search_on _ _ _ _ _ _ _ _ c.requires c.loop-word.invariant c.next_word-word.ensures c.if-word-stop.false c.if-word-kind.false
