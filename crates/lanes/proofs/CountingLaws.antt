-- Laws about specs/Counting.antt: the masks of the classes, and the lanes in which every present class has a child.
-- Assumes nothing.
use Prim.Native.Nat.{ℕ, suc, ◌+◌, ◌/◌, ◌%◌, ◌^◌, ◌<◌, ◌≤◌}
use native.Mathlib.Omega.{arith}
use native.Mathlib.Numerals.{add-one}
use mathlib.Core.Path.{◌≡◌, refl, sym, ap, ◌∙◌, fun_ext}
use mathlib.Core.Bool.{Bool, true, false, ◌&&◌, ◌||◌, not, and-true}
use mathlib.Core.List.{List}
use lib.Dec.{eqb}
use lib.Bits.{bit_and}
use lib.ListN.{length, get_or, set, length-set}
use lib.Seq.{get_or-set_same, get_or-set_other}
use Rattle.model.specs.Words.{has, each}
use Rattle.model.specs.Tree.{Child, Class, of_class}
use Rattle.model.specs.Guards.{concerns}
use Rattle.model.specs.Crews.{child_classes, occurs, all_occur}
use Rattle.model.proofs.Words.{below_next, both_ways, each_intro, each_elim, or_first}
use Rattle.model.proofs.Bits.{has_none}
use Rattle.model.proofs.Masks.{shifted}
use Rattle.configurations.specs.Configurations.{cells, chosen, marked, list_of}
use Rattle.configurations.specs.LoopAnswer.{counts}
use Rattle.lanes.specs.Lanes.{Lanes, all_lanes, in_block}
use Rattle.lanes.specs.Masks.{meets, block_word, wanted}
use Rattle.lanes.specs.Counting.{class_mask, present_met, LowWords, Counts}
use Rattle.lanes.specs.declared.counting.Present.{Present}
use Rattle.lanes.proofs.LaneLaws.{lanes_and, lanes_as, lanes_all}
use Rattle.lanes.proofs.MaskLaws.{some_meets, block_lanes}

-- the cells of a class are those whose names are not in the empty set
class_wanted : (xs : List Child) (i : ℕ) → marked (wanted (of_class i) 0 false) xs ≡ class_mask xs i
unfolding wanted concerns
class_wanted xs i = ap (λ (f : Child → Bool). marked f xs) (fun_ext λ k. ap (λ (b : Bool). eqb k.class i && not b) (has_none k.name) ∙ and-true (eqb k.class i))

-- the masks and low words of the first n classes
pub record Counted (xs : List Child) (n : ℕ) (masks lows : List ℕ) : Type 0 where
  pub few : n ≤ 8
  pub masks_long : length masks ≡ 8
  pub lows_long : length lows ≡ 8
  pub mask : (i : ℕ) → i < n → get_or masks i 0 ≡ class_mask xs i
  pub low : (i : ℕ) → i < n → Lanes (get_or lows i 0) (meets (get_or masks i 0))

pub counted_start : (xs : List Child) (masks lows : List ℕ) → length masks ≡ 8 → length lows ≡ 8 → Counted xs 0 masks lows
counted_start xs masks lows a b = record { few = omega arith; masks_long = a; lows_long = b; mask = λ i l. absurd (omega arith); low = λ i l. absurd (omega arith) }

module _ (xs : List Child) (n : ℕ) (masks lows : List ℕ) (C : Counted xs n masks lows) (l : n < 8) where
  other : (x : List ℕ) (v i : ℕ) → i < n → get_or (set x n v) i 0 ≡ get_or x i 0
  other x v i u = get_or-set_other x n i v 0 (λ e. omega arith)

  pub counted_more : (m w : ℕ) → m ≡ marked (wanted (of_class n) 0 false) xs → Lanes w (meets m) → Counted xs (n + 1) (set masks n m) (set lows n w)
  counted_more m w e W =
      let a : n < length masks = (let x = C.masks_long in omega arith) in
      let b : n < length lows = (let x = C.lows_long in omega arith) in
      record {
        few = omega arith;
        masks_long = length-set masks n m ∙ C.masks_long;
        lows_long = length-set lows n w ∙ C.lows_long;
        mask = λ i u. below_next (λ i. get_or (set masks n m) i 0 ≡ class_mask xs i) n (λ j v. other masks m j v ∙ C.mask j v)
            (get_or-set_same masks n m 0 a ∙ e ∙ class_wanted xs n) i (let z : i < suc n = omega arith in z);
        low = λ i u. below_next (λ i. Lanes (get_or (set lows n w) i 0) (meets (get_or (set masks n m) i 0))) n
            (λ j v. rw (other masks m j v, other lows w j v) (C.low j v))
            (rw (get_or-set_same masks n m 0 a, get_or-set_same lows n w 0 b) W) i (let z : i < suc n = omega arith in z);
      }

pub counted_end : (xs : List Child) (present n : ℕ) (masks lows : List ℕ) → Counted xs n masks lows → 8 ≤ n → Counts xs present (record { classes = present; masks = masks; lows = lows })
counted_end xs present n masks lows C l =
    let z : n ≡ 8 = (let x = C.few in omega arith) in
    record {
      same = refl;
      masks_long = C.masks_long;
      lows_long = C.lows_long;
      mask = λ i u. C.mask i (omega arith);
      lows_right = record { low = λ i u. C.low i (omega arith) };
    }

-- the loop over the classes
module _ (present : ℕ) (masks : List ℕ) (base : ℕ) where
  -- the lanes in which those of the first n classes that are present have a child
  abbrev pub CountedLanes : ℕ → ℕ → Type 0
  CountedLanes n word = (n ≤ 8) × Lanes word (in_block base (present_met present masks n))

  pub lanes_start : CountedLanes 0 all_lanes
  unfolding present_met each
  lanes_start = (omega arith, lanes_all)

  module _ (n word : ℕ) (l : n < 8) (F : CountedLanes n word) where
    pub lanes_more : (lows : List ℕ) (met : ℕ) → base % 64 ≡ 0 → LowWords masks lows → met ≡ block_word (get_or masks n 0) (get_or lows n 0) base → eqb (bit_and (present / 2 ^ n) 1) 1 ≡ true
        → CountedLanes (n + 1) (bit_and word met)
    unfolding present_met each
    lanes_more lows met round L e t =
        let M : Lanes met (in_block base (meets (get_or masks n 0))) = rw e (block_lanes (get_or masks n 0) base (L.low n l) round) in (
          omega arith,
          rw add-one (lanes_as (in_block base (present_met present masks (suc n))) (lanes_and F.1 M)
              (λ i m. ap (λ (b : Bool). present_met present masks n (base + i) && b) (yes (has present n) (meets (get_or masks n 0) (base + i)) (sym (shifted present n) ∙ t)))),
        )
      where
        yes : (p o : Bool) → p ≡ true → o ≡ (not p || o)
        yes p o e = rw e

    pub lanes_past : eqb (bit_and (present / 2 ^ n) 1) 1 ≡ false → CountedLanes (n + 1) word
    unfolding present_met each
    lanes_past t = (
      omega arith,
      rw add-one (lanes_as (in_block base (present_met present masks (suc n))) F.1
          (λ i m. no (present_met present masks n (base + i)) (has present n) (meets (get_or masks n 0) (base + i)) (sym (shifted present n) ∙ t))),
    )
      where
        no : (a p o : Bool) → p ≡ false → a ≡ (a && (not p || o))
        no true p o e = rw e
        no false p o e = refl

  pub lanes_end : (n word : ℕ) → 8 ≤ n → CountedLanes n word → Lanes word (in_block base (present_met present masks 8))
  lanes_end n word b (a, F) = let z : n ≡ 8 = omega arith in rw z at F

-- a configuration counts exactly if each present class shares a bit of its mask with it, where only classes of the sheet are present
pub met_counts : (c : Class) (present : ℕ) (r : Present) → Counts (cells c present) present r → child_classes c ≤ 8 → ((i : ℕ) → has present i ≡ true → i < child_classes c)
    → (k : ℕ) → present_met r.classes r.masks 8 k ≡ counts c present k
unfolding present_met counts all_occur occurs list_of
met_counts c present r C few below k =
    rw C.same
    (both_ways (each 8 met) (each (child_classes c) there)
    (λ h. each_intro (child_classes c) there (λ i l. sym (same i (omega arith)) ∙ each_elim 8 met h i (omega arith)))
    (λ h. each_intro 8 met (λ i l. same i l ∙ at i (has present i) refl h)))
  where
    met : ℕ → Bool
    met i = not (has present i) || meets (get_or r.masks i 0) k

    there : ℕ → Bool
    there i = not (has present i) || occurs i (chosen (cells c present) k)

    same : (i : ℕ) → i < 8 → met i ≡ there i
    same i l = ap (λ (b : Bool). not (has present i) || b) (ap (λ (m : ℕ). meets m k) (C.mask i l) ∙ sym (some_meets (λ x. eqb x.class i) (cells c present) k))

    at : (i : ℕ) (b : Bool) → has present i ≡ b → each (child_classes c) there ≡ true → there i ≡ true
    at i true e h = each_elim (child_classes c) there h i (below i e)
    at i false e h = or_first (not (has present i)) (occurs i (chosen (cells c present) k)) (ap not e)
