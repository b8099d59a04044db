-- Laws about specs/Runs.antt: where the bodies of an accepted sheet start and end.
-- Assumes nothing.
use Prim.Native.Nat.{ℕ, zero, suc, ◌+◌, ◌-◌, ◌<◌, ◌≤◌}
use native.Mathlib.Omega.{arith}
use mathlib.Core.Path.{◌≡◌, refl, sym, ◌∙◌, ap}
use mathlib.Core.Bool.{true}
use mathlib.Core.List.{List}
use lib.ListN.{length, take, drop}
use Rattle.sheet.specs.Contents.{start, size, body, contents_right, bodies}
use Rattle.records.specs.Bytes.{in_fours}
use Rattle.sheet.specs.Verdict.{places_of, Stands}
use Rattle.accepted.specs.Runs.{place_at}
use Rattle.sheet.specs.declared.judging.Places.{Places}
use Rattle.sheet.proofs.Contents.{next_start, last_end, body_inside, counted}
use Rattle.sheet.proofs.Rules.{accepted_right}

-- past the last body is the end
pub place_past : (p : Places) (end k : ℕ) → 6 ≤ k → end ≡ place_at p end k
place_past p end zero l = absurd (omega arith)
place_past p end (suc zero) l = absurd (omega arith)
place_past p end (suc (suc zero)) l = absurd (omega arith)
place_past p end (suc (suc (suc zero))) l = absurd (omega arith)
place_past p end (suc (suc (suc (suc zero)))) l = absurd (omega arith)
place_past p end (suc (suc (suc (suc (suc zero))))) l = absurd (omega arith)
place_past p end (suc (suc (suc (suc (suc (suc k)))))) l = refl

-- the contents of an accepted sheet are right
pub stands_right : (b : List ℕ) (p : Places) → Stands b p → contents_right b ≡ true
stands_right b p s = (accepted_right b s.accepted).contents

-- the places are the starts
starts : (b : List ℕ) (k : ℕ) → k < 6 → place_at (places_of b) (length b) k ≡ start b k
starts b zero l = refl
starts b (suc zero) l = refl
starts b (suc (suc zero)) l = refl
starts b (suc (suc (suc zero))) l = refl
starts b (suc (suc (suc (suc zero)))) l = refl
starts b (suc (suc (suc (suc (suc zero))))) l = refl
starts b (suc (suc (suc (suc (suc (suc k)))))) l = absurd (omega arith)

-- and the place after a body is its end
ends : (b : List ℕ) → contents_right b ≡ true → (k : ℕ) → k < 6 → place_at (places_of b) (length b) (suc k) ≡ start b k + size b k
ends b r zero l = next_start b r 0 (omega arith)
ends b r (suc zero) l = next_start b r 1 (omega arith)
ends b r (suc (suc zero)) l = next_start b r 2 (omega arith)
ends b r (suc (suc (suc zero))) l = next_start b r 3 (omega arith)
ends b r (suc (suc (suc (suc zero)))) l = next_start b r 4 (omega arith)
ends b r (suc (suc (suc (suc (suc zero))))) l = sym (last_end b r)
ends b r (suc (suc (suc (suc (suc (suc k)))))) l = absurd (omega arith)

module _ (b : List ℕ) (p : Places) (s : Stands b p) (k : ℕ) (l : k < 6) where
  pub body_starts : place_at p (length b) k ≡ start b k
  body_starts = ap (λ (x : Places). place_at x (length b) k) s.places ∙ starts b k l

  pub body_ends : place_at p (length b) (k + 1) ≡ start b k + size b k
  body_ends =
      let e : k + 1 ≡ suc k = omega arith in
      ap (λ (m : ℕ). place_at p (length b) m) e ∙ ap (λ (x : Places). place_at x (length b) (suc k)) s.places ∙ ends b (stands_right b p s) k l

  pub body_fits : start b k + size b k ≤ length b
  body_fits = body_inside b (stands_right b p s) k l

  -- what is cut from the one place to the other is the body
  pub body_cut : (from to : ℕ) → from ≡ place_at p (length b) k → to ≡ place_at p (length b) (k + 1) → take (to - from) (drop from b) ≡ body b k
  unfolding body
  body_cut from to e f =
      let g : from ≡ start b k = e ∙ body_starts in
      let h : to ≡ start b k + size b k = f ∙ body_ends in
      let m : to - from ≡ size b k = omega arith in
      rw (m, g)

-- an accepted sheet has at most 32 own states and 8 child classes
module _ (b : List ℕ) (p : Places) (s : Stands b p) (l : List ℕ) (n : ℕ) (f : n ≡ in_fours l) where
  pub states_few : l ≡ body b 1 → (n ≡ in_fours (body b 1)) × (n ≤ 32)
  unfolding bodies
  states_few e = rw (f, e) (refl, (counted b (stands_right b p s)).states_most)

  pub classes_few : l ≡ body b 0 → (n ≡ in_fours (body b 0)) × (n ≤ 8)
  unfolding bodies
  classes_few e = rw (f, e) (refl, (counted b (stands_right b p s)).classes_most)
