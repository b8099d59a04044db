-- Laws about specs/Levels.antt: a target more, a state more, a round more; and fewer moves can be made where more can.
-- Assumes nothing.
use Prim.Native.Nat.{ℕ, zero, suc, ◌+◌, ◌*◌, ◌^◌, ◌<◌, ◌≤◌}
use native.Mathlib.Omega.{arith}
use native.Mathlib.Numerals.{add-one}
use mathlib.Core.Path.{◌≡◌, refl, sym, ap}
use mathlib.Core.Bool.{Bool, true, false, ◌&&◌, ◌||◌, and-false}
use mathlib.Core.List.{List}
use mathlib.Core.Logic.{◌⊎◌, inl, inr}
use lib.ListN.{length, get_or, set, replicate, get_or-replicate}
use lib.Seq.{get_or-set_same, get_or-set_other}
use lib.Bits.{bit_and, bit_or}
use Rattle.model.specs.Words.{has, some_below}
use Rattle.model.proofs.Words.{and_left, and_right, and_both, below_next, some_below_intro, some_below_elim, true_not_false, not_not_true, both_ways, lt_or_le}
use Rattle.lanes.specs.Lanes.{Lanes}
use Rattle.lanes.proofs.LaneLaws.{lanes_and, lanes_or, lanes_as, lanes_none, lanes_own, lanes_empty, lanes_some}
use Rattle.sweeps.specs.Sweeps.{move_word}
use Rattle.arrows.specs.Levels.{lane_can, some_can, LongestIs, Onward, Level, Rounds}

-- equal tests of the numbers below n
pub some_below_same : (n : ℕ) (f g : ℕ → Bool) → ((j : ℕ) → j < n → f j ≡ g j) → some_below n f ≡ some_below n g
unfolding some_below
some_below_same zero f g h = refl
some_below_same (suc n) f g h = rw (some_below_same n f g (λ j l. h j (omega arith)), h n (omega arith))

-- a test that is true of some number below n, and of which one part is the same for all
pub some_both : (b : Bool) (n : ℕ) (f g : ℕ → Bool) → ((q : ℕ) → q < n → f q ≡ (b && g q)) → some_below n f ≡ (b && some_below n g)
unfolding some_below
some_both b zero f g h = sym (and-false b)
some_both b (suc n) f g h = rw (some_both b n f g (λ q l. h q (omega arith)), h n (omega arith)) (go b (some_below n g) (g n))
  where
    go : (b x y : Bool) → ((b && x) || (b && y)) ≡ (b && (x || y))
    go true x y = refl
    go false x y = refl

-- target by target
module _ (s : ℕ) (table level : List ℕ) (q : ℕ) where
  -- the lanes in which a move leads to a state below n that has them in its level
  pub record OnwardTo (n word : ℕ) : Type 0 where
    pub few : n ≤ s
    pub lanes : Lanes word (λ i. some_below n (λ t. has (move_word table q t) i && has (get_or level t 0) i))

  pub onward_start : OnwardTo 0 0
  unfolding some_below
  onward_start = record { few = omega arith; lanes = lanes_none }

  pub onward_more : (n word : ℕ) → OnwardTo n word → n < s → ((x : ℕ) → get_or table x 0 < 2 ^ 64) → ((x : ℕ) → get_or level x 0 < 2 ^ 64)
      → OnwardTo (n + 1) (bit_or word (bit_and (get_or table (q * 32 + n) 0) (get_or level n 0)))
  unfolding some_below
  onward_more n word O l T L = record { few = omega arith; lanes = rw add-one (lanes_or O.lanes (lanes_and (lanes_own (T (q * 32 + n))) (lanes_own (L n)))) }

  pub onward_end : (n word : ℕ) → OnwardTo n word → s ≤ n → Onward s table level q word
  onward_end n word O l = let z : n ≡ s = (let f = O.few in omega arith) in rw z at O.lanes

module _ (s : ℕ) (table : List ℕ) where
  -- fewer moves can be made where more can
  pub can_fewer_one : (counted n q i : ℕ) → lane_can s table counted (suc n) q i ≡ true → lane_can s table counted n q i ≡ true
  unfolding lane_can
  can_fewer_one counted zero q i h =
      let (t, l, b) = some_below_elim s (λ t. has (move_word table q t) i && has counted i) h in
      and_right (has (move_word table q t) i) (has counted i) b
  can_fewer_one counted (suc n) q i h =
      let (t, l, b) = some_below_elim s (λ t. has (move_word table q t) i && lane_can s table counted (suc n) t i) h in
      let B : Bool = has (move_word table q t) i in
      let C : Bool = lane_can s table counted (suc n) t i in
      let D : Bool = lane_can s table counted n t i in
      some_below_intro s (λ t. has (move_word table q t) i && lane_can s table counted n t i) t l (and_both B D (and_left B C b) (can_fewer_one counted n t i (and_right B C b)))

  pub can_fewer : (counted n m q i : ℕ) → n ≤ m → lane_can s table counted m q i ≡ true → lane_can s table counted n q i ≡ true
  can_fewer counted n zero q i l h = let z : n ≡ 0 = omega arith in rw z h
  can_fewer counted n (suc m) q i l h = go (lt_or_le m n) (λ u. can_fewer counted n m q i u (can_fewer_one counted m q i h))
    where
      go : (m < n) ⊎ (n ≤ m) → (n ≤ m → lane_can s table counted n q i ≡ true) → lane_can s table counted n q i ≡ true
      go (inl u) r = let z : n ≡ suc m = omega arith in rw z h
      go (inr u) r = r u

  -- the next level of a state
  module _ (counted n : ℕ) (level : List ℕ) (L : Level s table counted n s level) (q : ℕ) where
    -- none where the level has no lane
    pub next_none : q < s → get_or level q 0 ≡ 0 → Lanes 0 (lane_can s table counted (suc n) q)
    next_none l z =
        lanes_as (lane_can s table counted (suc n) q) lanes_none
        (λ i m. sym (not_not_true (lane_can s table counted (suc n) q i) (λ h. true_not_false (can_fewer_one counted n q i h) (lanes_empty (L.word q l) z i m))))

    -- else by its moves
    pub next_some : (w : ℕ) → Onward s table level q w → Lanes w (lane_can s table counted (suc n) q)
    unfolding lane_can
    next_some w O =
        lanes_as (lane_can s table counted (suc n) q) O
        (λ i m. some_below_same s (λ t. has (move_word table q t) i && has (get_or level t 0) i) (λ t. has (move_word table q t) i && lane_can s table counted n t i)
        (λ t l. ap (λ (x : Bool). has (move_word table q t) i && x) ((L.word t l).lane i m)))

  -- state by state
  module _ (level : List ℕ) where
    pub rounds_start : (next : List ℕ) → Rounds s table level 0 next 0
    unfolding some_below
    rounds_start next = record { round = λ counted n L. record { word = λ q l. absurd (omega arith) }; union = λ counted n L. lanes_none }

    -- a word that is the next level of state m
    abbrev NextOf : ℕ → ℕ → Type 0
    NextOf m w = (counted n : ℕ) → Level s table counted n s level → Lanes w (lane_can s table counted (suc n) m)

    module _ (m : ℕ) (next : List ℕ) (all w : ℕ) (R : Rounds s table level m next all) (l : m < length next) (N : NextOf m w) where
      stored : (counted n : ℕ) → Level s table counted n s level → Level s table counted (suc n) (m + 1) (set next m w)
      stored counted n L =
          record {
            word = λ q u. below_next (λ q. Lanes (get_or (set next m w) q 0) (lane_can s table counted (suc n) q)) m
                (λ j k. rw (get_or-set_other next m j w 0 (λ e. omega arith)) ((R.round counted n L).word j k))
                (rw (get_or-set_same next m w 0 l) (N counted n L)) q (let z : q < suc m = omega arith in z);
          }

      pub rounds_more : Rounds s table level (m + 1) (set next m w) (bit_or all w)
      unfolding some_below
      rounds_more = record { round = stored; union = λ counted n L. rw add-one (lanes_or (R.union counted n L) (N counted n L)) }

    pub rounds_end : (m : ℕ) (next : List ℕ) (all : ℕ) → Rounds s table level m next all → m ≤ s → s ≤ m → Rounds s table level s next all
    rounds_end m next all R a b = let z : m ≡ s = omega arith in rw z at R

  -- round by round
  module _ (counted : ℕ) where
    -- after n rounds
    pub record Leveled (n : ℕ) (level : List ℕ) (all : ℕ) : Type 0 where
      pub few : n ≤ s
      pub here : Level s table counted n s level
      pub union : Lanes all (some_can s table counted n)
      pub someone : (n ≡ 0) ⊎ (all ≡ 0 → ⊥)

    pub leveled_start : s ≤ 32 → 0 < s → counted < 2 ^ 64 → Leveled 0 (replicate 32 counted) counted
    unfolding lane_can
    leveled_start l p c =
        record {
          few = omega arith;
          here = record { word = λ q m. let u : q < 32 = omega arith in rw (get_or-replicate 32 q counted 0 u) (lanes_own c) };
          union = lanes_as (some_can s table counted 0) (lanes_own c)
              (λ i m. both_ways (has counted i) (some_below s (λ q. has counted i)) (some_below_intro s (λ q. has counted i) 0 p) (λ h. (some_below_elim s (λ q. has counted i) h).2));
          someone = inl refl;
        }

    module _ (n : ℕ) (level next : List ℕ) (all more : ℕ) (F : Leveled n level all) (R : Rounds s table level s next more) (l : n < s) where
      pub leveled_more : (more ≡ 0 → ⊥) → Leveled (n + 1) next more
      leveled_more h = rw add-one (record { few = omega arith; here = R.round counted n F.here; union = R.union counted n F.here; someone = inr h })

      pub leveled_none : more ≡ 0 → LongestIs s table counted n
      leveled_none z =
          record {
            fewer = l;
            none_more = λ i q il ql. not_not_true (lane_can s table counted (suc n) q i)
                (λ h. true_not_false (some_below_intro s (λ q. lane_can s table counted (suc n) q i) q ql h) (lanes_empty (R.union counted n F.here) z i il));
            one_makes = go F.someone;
          }
        where
          go : (n ≡ 0) ⊎ (all ≡ 0 → ⊥) → (n ≡ 0) ⊎ ((i : ℕ) × (q : ℕ) × (i < 64) × (q < s) × (lane_can s table counted n q i ≡ true))
          go (inl e) = inl e
          go (inr d) =
              let (i, il, t) = lanes_some F.union d in
              let (q, ql, u) = some_below_elim s (λ q. lane_can s table counted n q i) t in
              inr (i, q, il, ql, u)

    pub leveled_end : (n : ℕ) (level : List ℕ) (all : ℕ) → Leveled n level all → s ≤ n → 0 < s → Lanes all (some_can s table counted s) × (all ≡ 0 → ⊥)
    leveled_end n level all F l p =
        let z : n ≡ s = (let f = F.few in omega arith) in
        (rw z at F.union, go F.someone)
      where
        go : (n ≡ 0) ⊎ (all ≡ 0 → ⊥) → all ≡ 0 → ⊥
        go (inl e) = absurd (omega arith)
        go (inr d) = d
