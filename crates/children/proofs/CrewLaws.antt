-- Laws about crews as name sets: one child more, the pairs of a child list, and the union of the sets.
-- Assumes nothing.
use Prim.Native.Nat.{ℕ, zero, suc, ◌+◌, ◌-◌, ◌*◌, ◌/◌, ◌^◌, ◌<◌, ◌≤◌}
use native.Mathlib.Omega.{arith}
use native.Mathlib.Numerals.{add-one}
use mathlib.Core.Path.{◌≡◌, refl, sym, ap, ◌∙◌, subst}
use mathlib.Core.Bool.{Bool, true, false, ◌&&◌, ◌||◌, or_comm}
use mathlib.Core.List.{List, [], ◌∷◌}
use lib.Dec.{eqb, ltb}
use lib.Bits.{bit_or}
use lib.ListN.{length, get_or, set, drop, replicate, get_or-replicate, length-drop, length-set, get_or-eq_default}
use lib.Seq.{drop-cons, get_or-set_same, get_or-set_other}
use borrow.Author.Tests.{eqb-true, eqb-false, lt-ltb, ltb-true}
use Rattle.std.proofs.lemmas.Nat.{or_comm as bits_comm}
use Rattle.model.specs.Words.{has, some_in, some_below}
use Rattle.model.specs.Tree.{Child, everyone, of_class}
use Rattle.model.specs.Crews.{occupied}
use Rattle.model.proofs.Words.{and_left, and_right, true_not_false}
use Rattle.children.specs.ChildList.{children_of}
use Rattle.model.proofs.Bits.{has_none}
use Rattle.children.specs.NameSets.{Shows, Names, seen, union_of}
use Rattle.model.proofs.Masks.{has_or, has_pow}

abbrev pub child : ℕ → ℕ → Child
child c n = record { class = c; name = n }

-- the sets with a child's name show the list with that child
pub shows_more : (sets : List ℕ) (ks : List Child) (c n : ℕ) → c < length sets → Shows sets ks → Shows (set sets c (bit_or (get_or sets c 0) (2 ^ n))) (child c n ∷ ks)
unfolding occupied some_in
shows_more sets ks c n l h i m p q = go (eqb c i) refl
  where
    go : (t : Bool) → eqb c i ≡ t → has (get_or (set sets c (bit_or (get_or sets c 0) (2 ^ n))) i 0) m ≡ ((t && eqb n m) || occupied ks i m)
    go true e =
        let e : c ≡ i = eqb-true c i e in
        rw (← e, get_or-set_same sets c (bit_or (get_or sets c 0) (2 ^ n)) 0 l, has_or (get_or sets c 0) (2 ^ n) m, has_pow n m)
        (or_comm (has (get_or sets c 0) m) (eqb n m) ∙ ap (λ (b : Bool). eqb n m || b) (rw e (h i m p q)))
    go false e = ap (λ (x : ℕ). has x m) (get_or-set_other sets c i (bit_or (get_or sets c 0) (2 ^ n)) 0 (λ f. eqb-false c i e (sym f))) ∙ h i m p q

-- a child of a class or a name that no set has room for changes nothing
pub shows_past : (sets : List ℕ) (ks : List Child) (c n : ℕ) → (ltb c 8 && ltb n 32) ≡ false → Shows sets ks → Shows sets (child c n ∷ ks)
unfolding occupied some_in
shows_past sets ks c n l h i m p q = h i m p q ∙ go (eqb c i && eqb n m) refl
  where
    go : (t : Bool) → (eqb c i && eqb n m) ≡ t → occupied ks i m ≡ (t || occupied ks i m)
    go false e = refl
    go true e =
        let e1 : c ≡ i = eqb-true c i (and_left (eqb c i) (eqb n m) e) in
        let e2 : n ≡ m = eqb-true n m (and_right (eqb c i) (eqb n m) e) in
        absurd (true_not_false (rw (e1, e2, lt-ltb i 8 p, lt-ltb m 32 q)) l)

-- fewer than two bytes are no child
pub no_pair : (l : List ℕ) → length l < 2 → children_of l ≡ []
unfolding children_of
no_pair [] p = refl
no_pair (x ∷ []) p = refl
no_pair (x ∷ y ∷ l) p = absurd (omega arith)

-- the class and the name in the pair before pair i
abbrev pub class_before : List ℕ → ℕ → ℕ
class_before l i = get_or l (2 * (i - 1)) 0

abbrev pub name_before : List ℕ → ℕ → ℕ
name_before l i = get_or l (2 * (i - 1) + 1) 0

-- the children of a list from that pair on
pub pair_cons : (l : List ℕ) (i : ℕ) → 0 < i → i ≤ length l / 2
    → children_of (drop (2 * (i - 1)) l) ≡ child (class_before l i) (name_before l i) ∷ children_of (drop (2 * i) l)
unfolding children_of
pair_cons l i p q =
    let e : 2 * i ≡ suc (suc (2 * (i - 1))) = omega arith in
    rw (e, add-one, drop-cons l (2 * (i - 1)) 0 (omega arith), drop-cons l (suc (2 * (i - 1))) 0 (omega arith))

-- a turn from the last pair down: the 8 sets show the children from pair i on
pub record Down (l sets : List ℕ) (i : ℕ) : Type 0 where
  pub inside : i ≤ length l / 2
  pub eight : length sets ≡ 8
  pub shown : Shows sets (children_of (drop (2 * i) l))

-- at first there is no pair from i on, and no set shows a child
pub down_start : (l : List ℕ) → Down l (replicate 8 0) (length l / 2)
unfolding occupied some_in
down_start l =
    record {
      inside = omega arith;
      eight = refl;
      shown = λ j m p q. rw (no_pair (drop (2 * (length l / 2)) l) (simp length-drop (omega arith)), get_or-replicate {A = ℕ} 8 j 0 0 p) (has_none m);
    }

-- the sets have room for a class x and a name y
abbrev fits : ℕ → ℕ → Bool
fits x y = ltb x 8 && ltb y 32

pub room : (x y : ℕ) → fits x y ≡ true → (x < 8) × (y < 32)
room x y t = (ltb-true x 8 (and_left (ltb x 8) (ltb y 32) t), ltb-true y 32 (and_right (ltb x 8) (ltb y 32) t))

module _ (l sets : List ℕ) (i : ℕ) (d : Down l sets i) (turn : 0 < i) (x y : ℕ) (ex : x ≡ class_before l i) (ey : y ≡ name_before l i) where
  -- the pair before is put into its set
  pub down_more : (r : ℕ) → fits x y ≡ true → r ≡ bit_or (get_or sets x 0) (2 ^ y) → Down l (set sets x r) (i - 1)
  down_more r t e =
      let small = room x y t in
      record {
        inside = omega arith;
        eight = length-set sets x r ∙ d.eight;
        shown = rw (pair_cons l i turn d.inside, sym ex, sym ey, e) (shows_more sets (children_of (drop (2 * i) l)) x y (omega arith) d.shown);
      }

  -- the sets have no room for the pair before
  pub down_past : fits x y ≡ false → Down l sets (i - 1)
  down_past t =
      record {
        inside = omega arith;
        eight = d.eight;
        shown = rw (pair_cons l i turn d.inside, sym ex, sym ey) (shows_past sets (children_of (drop (2 * i) l)) x y t d.shown);
      }

-- at pair 0 the sets show the whole list
pub down_end : (l sets : List ℕ) (i : ℕ) → Down l sets i → i ≡ 0 → Shows sets (children_of l)
down_end l sets i d e = subst (λ (x : ℕ). Shows sets (children_of (drop (2 * x) l))) e d.shown

-- the union of the first n sets has the names of each of them
pub union_has : (sets : List ℕ) (n m : ℕ) → has (union_of sets n) m ≡ some_below n (λ i. has (get_or sets i 0) m)
unfolding union_of some_below
union_has sets zero m = has_none m
union_has sets (suc n) m =
    has_or (get_or sets n 0) (union_of sets n) m ∙ or_comm (has (get_or sets n 0) m) (has (union_of sets n) m)
    ∙ ap (λ (b : Bool). b || has (get_or sets n 0) m) (union_has sets n m)

-- one set more
pub union_more : (sets : List ℕ) (i all : ℕ) → all ≡ union_of sets i → bit_or all (get_or sets i 0) ≡ union_of sets (i + 1)
unfolding union_of
union_more sets i all e = rw (add-one i, e) (bits_comm (union_of sets i) (get_or sets i 0))

-- the names of all children, of a class, and of a class that has no set
pub names_all : (sets : List ℕ) (r : ℕ) → r ≡ union_of sets 8 → Names sets everyone r
unfolding seen
names_all sets r u n = rw u (union_has sets 8 n)

pub names_one : (sets : List ℕ) (i : ℕ) → Names sets (of_class i) (get_or sets i 0)
unfolding seen
names_one sets i n = refl

pub names_none : (sets : List ℕ) (i : ℕ) → length sets ≤ i → Names sets (of_class i) 0
names_none sets i l = subst (λ (x : ℕ). Names sets (of_class i) x) (get_or-eq_default sets 0 l) (names_one sets i)
