-- The lanes that count.
-- Assumes nothing.
use Rattle.std.specs.Prelude.{ℕ, ◌<◌, ◌≡◌, Bool, ◌||◌, not, List, eqb, length, get_or}
use Rattle.model.specs.Words.{has, each}
use Rattle.model.specs.Tree.{Child}
use Rattle.configurations.specs.Configurations.{marked}
use Rattle.lanes.specs.Lanes.{Lanes}
use Rattle.lanes.specs.Masks.{meets}
use Rattle.lanes.specs.declared.counting.Present.{Present}

-- the cells of class i
abbrev pub class_mask : List Child → ℕ → ℕ
class_mask xs i = marked (λ k. eqb k.class i) xs

-- each present class below n shares a bit of its mask with configuration k
unfoldable pub present_met : ℕ → List ℕ → ℕ → ℕ → Bool
present_met present masks n k = each n (λ i. not (has present i) || meets (get_or masks i 0) k)

-- the low words are those of the masks
pub record LowWords (masks lows : List ℕ) : Type 0 where
  pub low : (i : ℕ) → i < 8 → Lanes (get_or lows i 0) (meets (get_or masks i 0))

-- what is made once a question of the cells and the present classes
pub record Counts (xs : List Child) (present : ℕ) (r : Present) : Type 0 where
  pub same : r.classes ≡ present
  pub masks_long : length r.masks ≡ 8
  pub lows_long : length r.lows ≡ 8
  pub mask : (i : ℕ) → i < 8 → get_or r.masks i 0 ≡ class_mask xs i
  pub lows_right : LowWords r.masks r.lows
