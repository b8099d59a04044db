-- Laws about a configuration's list as bytes: read back it is the configuration's children, and the sets that spread it show them.
-- Assumes nothing.
use Prim.Native.Nat.{ℕ, ◌-◌, ◌≤◌}
use native.Mathlib.Omega.{arith}
use mathlib.Core.Path.{◌≡◌, refl, ap, ◌∙◌}
use mathlib.Core.List.{List, [], ◌∷◌, ◌++◌}
use lib.ListN.{length, take, drop}
use Rattle.model.specs.Tree.{Child}
use Rattle.model.specs.Replies.{written}
use Rattle.children.specs.ChildList.{children_of, pairs}
use Rattle.children.specs.NameSets.{Crewed}
use Rattle.running.specs.Running.{Runnable}

-- pairs read back
pub pairs_read : (ks : List Child) → children_of (pairs ks) ≡ ks
unfolding children_of pairs
pairs_read [] = refl
pairs_read (k ∷ ks) = ap (λ (l : List Child). record { class = k.class; name = k.name } ∷ l) (pairs_read ks)

-- what was written is the front of the buffer
take_front : (xs ys : List ℕ) → take (length xs) (xs ++ ys) ≡ xs
take_front [] ys = refl
take_front (x ∷ xs) ys = ap (◌∷◌ x) (take_front xs ys)

module _ (ks : List Child) (before after : List ℕ) (n : ℕ) (e : after ≡ written (pairs ks) before) (f : n ≡ length (pairs ks)) where
  front : take (n - 0) after ≡ pairs ks
  front = let z : n - 0 ≡ length (pairs ks) = omega arith in rw (z, e) (take_front (pairs ks) (drop (length (pairs ks)) before))

  pub list_read : children_of (take (n - 0) after) ≡ ks
  list_read = ap children_of front ∙ pairs_read ks

  pub list_runs : (sets : List ℕ) → Crewed sets ks → n ≤ 40 → Runnable sets (take (n - 0) after)
  list_runs sets c l = record { crewed = rw list_read c; short = omega (arith, ap length front) }
