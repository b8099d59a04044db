-- What the library's `all` over the numbers below a bound tells, in the words of the rules.
-- Assumes nothing.
use Prim.Native.Nat.{ℕ, ◌<◌}
use native.Mathlib.Omega.{arith}
use mathlib.Core.Path.{◌≡◌, sym}
use mathlib.Core.Bool.{Bool, true, false}
use mathlib.Core.List.{List}
use denote.Param.Members.{Mut}
use lib.ListN.{length, get_or}
use Rattle.std.specs.Prelude.{Option}
use Rattle.std.specs.Bool.{MatchBool}
use Rattle.std.specs.Fn.{Called}
use Rattle.std.specs.Iterator.{YieldsThen}
use Rattle.std.specs.List.{range_with_len, FoldsTo, AllWithin, HoldsAt}
use Rattle.std.specs.Option.{MatchOption}
use Rattle.std.specs.declared.ops.Range.{Range}
use Rattle.std.proofs.iter.Yields.{nat_range_steps}
use Rattle.std.proofs.lemmas.Iterator.{cases_from_all, YieldsList-from_range}
use Rattle.std.proofs.lemmas.List.FromFn.{length-range_with_len, get_or-range_with_len}
use Rattle.model.specs.Words.{each}
use Rattle.model.proofs.Words.{each_intro, each_broken}

module _ {F : Type 0} {g : Mut F (ℕ × Unit {0}) Bool} {s u : Range ℕ} (n : ℕ) (t : ℕ → Bool) where
  -- each number passes the test exactly if `all` says so, where the closure answers by the test
  pub each_from_all : (f : F) (r : Bool) → s ≡ record { start = 0; end = n }
      → (xs : List ℕ) × (o : Option ℕ) × (j : F) × YieldsThen nat_range_steps s xs o u × FoldsTo (λ p x q. Called g p (x, tt) true q) f xs j × MatchOption o (r ≡ true) (λ x. (r ≡ false) × ((h : F) × Called g j (x, tt) false h))
      → ((x : ℕ) (b : Bool) (q : F) → Called g f (x, tt) b q → (q ≡ f) × (b ≡ t x)) → r ≡ each n t
  each_from_all f r e ran told =
      go r (cases_from_all u f r (λ x. t x ≡ true) (λ x. t x ≡ false) ran (YieldsList-from_range 0 n n e (omega arith)) (λ x q k. let (p, m) = told x true q k in (p, sym m)) (λ x q k. sym (told x false q k).1))
    where
      nth : (k : ℕ) → k < n → get_or (range_with_len 0 n) k 0 ≡ k
      nth k m = omega (arith, get_or-range_with_len 0 n k 0 m)

      go : (r : Bool) → MatchBool r (AllWithin (λ x. t x ≡ true) (range_with_len 0 n) 0 (length (range_with_len 0 n))) ((k : ℕ) × (k < length (range_with_len 0 n)) × HoldsAt (λ x. t x ≡ false) (range_with_len 0 n) k) → r ≡ each n t
      go true w = sym (each_intro n t (λ k m. rw (nth k m) at (w k 0 (omega arith) (omega (arith, length-range_with_len 0 n)))))
      go false (k, l, w) = let m : k < n = omega (arith, length-range_with_len 0 n) in sym (each_broken n k t m (rw (nth k m) at (w 0)))
