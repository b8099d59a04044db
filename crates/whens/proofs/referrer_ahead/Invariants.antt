-- The loop's invariant: the first referrer from the start on is the first from here on.
-- Assumes nothing.
use Prim.Native.Nat.{◌-◌}
use mathlib.Core.Path.{◌≡◌}
use lib.ListN.{length}
use Rattle.words.specs.Scanning.{tokens_from}
use Rattle.whens.specs.Whens.{referrer_ahead}
use Rattle.whens.proofs.referrer_ahead.Given as goal

abbrev pub invariant-loop : goal.invariant-loop
invariant-loop l = referrer_ahead (tokens_from l.text l.at) ≡ referrer_ahead (tokens_from l.text l.here)

abbrev pub decreases-loop : goal.decreases-loop
decreases-loop l = length l.text - l.here
