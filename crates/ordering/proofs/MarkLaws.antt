-- What a word is to a guard, told by its kind.
-- Assumes nothing.
use Prim.Native.Nat.{ℕ, ◌≤◌}
use native.Mathlib.Omega.{arith}
use mathlib.Core.Path.{◌≡◌, refl}
use mathlib.Core.Bool.{Bool, true, false, ◌&&◌}
use lib.Dec.{leb}
use borrow.Author.Tests.{leb-true, ne_eqb, le-leb}
use Rattle.ordering.specs.declared.Mark.TheVariants.{Edge, Other}
use Rattle.ordering.specs.Ordering.{mark_of}

-- what a word is
pub mark_edge : (k : ℕ) → 7 ≤ k → k ≤ 12 → Edge ≡ mark_of k
unfolding mark_of
mark_edge k a b = rw (ne_eqb k 5 (λ e. omega arith), ne_eqb k 6 (λ e. omega arith), le-leb 7 k a, le-leb k 12 b) refl

outside : (k : ℕ) → (7 ≤ k → k ≤ 12 → ⊥) → (leb 7 k && leb k 12) ≡ false
outside k h = go (leb 7 k) (leb k 12) refl refl
  where
    go : (s t : Bool) → leb 7 k ≡ s → leb k 12 ≡ t → (s && t) ≡ false
    go true true p q = absurd (h (leb-true 7 k p) (leb-true k 12 q))
    go true false p q = refl
    go false t p q = refl

pub mark_other : (k : ℕ) → (k ≡ 5 → ⊥) → (k ≡ 6 → ⊥) → (7 ≤ k → k ≤ 12 → ⊥) → (k ≡ 15 → ⊥) → (k ≡ 16 → ⊥) → (k ≡ 17 → ⊥) → (k ≡ 21 → ⊥) → (k ≡ 22 → ⊥)
    → Other ≡ mark_of k
unfolding mark_of
mark_other k a b e c d f g h =
    rw (ne_eqb k 5 a, ne_eqb k 6 b, outside k e) (rw (ne_eqb k 15 c, ne_eqb k 16 d, ne_eqb k 17 f) (rw (ne_eqb k 21 g, ne_eqb k 22 h)))
