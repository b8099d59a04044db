-- The promises of this floor leave one answer.
-- Assumes nothing.
use Prim.Native.Nat.{ℕ, suc, ◌+◌, ◌*◌, ◌-◌, ◌/◌, ◌%◌, ◌<◌, ◌≤◌}
use native.Mathlib.Omega.{arith}
use mathlib.Core.Path.{◌≡◌, sym, ap, ◌∙◌}
use mathlib.Core.Bool.{true}
use mathlib.Core.List.{List}
use mathlib.Core.Logic.{◌⊎◌, inl, inr}
use lib.ListN.{get_or}
use lib.Seq.{ext_get_or}
use Rattle.model.specs.Words.{has}
use Rattle.model.specs.Tree.{Child, Part}
use Rattle.model.proofs.Words.{lt_or_le, some_below_elim, true_not_false}
use Rattle.model.proofs.Masks.{same_bits}
use Rattle.lanes.specs.Lanes.{Lanes}
use Rattle.lanes.proofs.LaneLaws.{lanes_one, lanes_some}
use Rattle.arrows.specs.Sorting.{TablesFor, Sorted}
use Rattle.arrows.specs.Levels.{lane_can, some_can, LongestIs, LevelsAre}
use Rattle.arrows.specs.Unique.{Unique}
use Rattle.std.specs.Prelude.{Result, Ok, Err}
use Rattle.arrows.proofs.LevelLaws.{can_fewer}

-- a table that is sorted: a place is the word of a move or of an action clause
one_sorting : (places aims firsts actions froms statements : List ℕ) (s : ℕ) (words : List ℕ) (counted : ℕ) (gs : List ℕ) (ks : ℕ → List Child) (p : ℕ → Part)
    → TablesFor aims firsts actions froms statements s words gs ks p → (x y : List ℕ) → Sorted places aims firsts actions froms statements s s words counted x
    → Sorted places aims firsts actions froms statements s s words counted y → x ≡ y
one_sorting places aims firsts actions froms statements s words counted gs ks p F x y X Y =
    ext_get_or 0 x y (X.long ∙ sym Y.long) (λ j l. same_bits 64 (get_or x j 0) (get_or y j 0) (X.narrow j) (Y.narrow j) (λ i il. at j i (let e = X.long in omega arith) il (lt_or_le j 1024)))
  where
    at : (j i : ℕ) → j < 1280 → i < 64 → (j < 1024) ⊎ (1024 ≤ j) → has (get_or x j 0) i ≡ has (get_or y j 0) i
    at j i jl il (inl l) =
        let z : j / 32 * 32 + j % 32 ≡ j = omega arith in
        let ql : j / 32 < 32 = omega arith in
        let tl : j % 32 < 32 = omega arith in
        rw (← z) (X.moves gs ks p F (j / 32) (j % 32) i ql tl il ∙ sym (Y.moves gs ks p F (j / 32) (j % 32) i ql tl il))
    at j i jl il (inr l) =
        let z : 1024 + (j - 1024) ≡ j = omega arith in
        let al : j - 1024 < 256 = omega arith in
        rw (← z) (X.runs (j - 1024) i al il ∙ sym (Y.runs (j - 1024) i al il))

-- what the levels say
module _ (s : ℕ) (table : List ℕ) (counted : ℕ) where
  -- no lane makes more moves than the longest phase has
  none_longer : (n m : ℕ) → LongestIs s table counted n → (i q : ℕ) → i < 64 → q < s → lane_can s table counted m q i ≡ true → m ≤ n
  none_longer n m L i q il ql t = go (lt_or_le n m)
    where
      go : (n < m) ⊎ (m ≤ n) → m ≤ n
      go (inl u) = absurd (true_not_false (can_fewer s table counted (suc n) m q i u t) (L.none_more i q il ql))
      go (inr u) = u

  not_longer : (n m : ℕ) → LongestIs s table counted n → LongestIs s table counted m → m ≤ n
  not_longer n m L M = go M.one_makes
    where
      go : (m ≡ 0) ⊎ ((i : ℕ) × (q : ℕ) × (i < 64) × (q < s) × (lane_can s table counted m q i ≡ true)) → m ≤ n
      go (inl z) = omega arith
      go (inr (i, q, il, ql, t)) = none_longer n m L i q il ql t

  not_both : (w n : ℕ) → Lanes w (some_can s table counted s) × (w ≡ 0 → ⊥) → LongestIs s table counted n → ⊥
  not_both w n (W, d) L =
      let (i, il, t) = lanes_some W d in
      let (q, ql, u) = some_below_elim s (λ q. lane_can s table counted s q i) t in
      let a = none_longer n s L i q il ql u in
      let b = L.fewer in
      omega arith

  one_count : (r t : Result ℕ ℕ) → LevelsAre s table counted r → LevelsAre s table counted t → r ≡ t
  one_count (Err w) (Err v) g h = ap Err (lanes_one g.0 h.0)
  one_count (Err w) (Ok n) g h = absurd (not_both w n g h)
  one_count (Ok n) (Err w) g h = absurd (not_both w n h g)
  one_count (Ok n) (Ok m) g h = ap Ok (let a = not_longer n m g h in let b = not_longer m n h g in let z : n ≡ m = omega arith in z)

pub unique : Unique
unique = record { sorting = one_sorting; counting = one_count }
