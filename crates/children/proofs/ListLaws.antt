-- Laws about specs/Lists.antt: the check of a child list, and that a list which passes it can be shown by name sets.
-- Assumes nothing.
use Prim.Native.Nat.{ℕ, zero, suc, ◌*◌, ◌/◌, ◌%◌, ◌-◌, ◌<◌, ◌≤◌}
use native.Mathlib.Omega.{arith}
use mathlib.Core.Path.{◌≡◌, sym, ◌∙◌, ap, fun_ext}
use mathlib.Core.Bool.{Bool, true, false, ◌&&◌, and-false}
use mathlib.Core.List.{List, Memᴰ}
use mathlib.Core.Logic.{◌⊎◌, inl, inr}
use lib.Dec.{eqb, leb, ltb}
use lib.ListN.{length, get_or, drop, length-drop}
use borrow.Author.Tests.{ltb-true, leb-true, le-ltb, le-leb, lt-leb, eq-eqb, ne_eqb}
use Rattle.model.specs.Words.{has, every}
use Rattle.model.specs.Tree.{Child}
use Rattle.model.specs.Crews.{child_classes, in_class}
use Rattle.model.proofs.Words.{and_left, and_right, and_both, not_not_true, true_not_false, lt_or_le}
use Rattle.model.proofs.Lists.{every_elim}
use Rattle.sheet.specs.Contents.{Bodies, body, bodies}
use Rattle.bodies.specs.Clauses.{name_set}
use Rattle.records.specs.Bytes.{in_fours}
use Rattle.children.specs.ChildList.{children_of, list_right}
use Rattle.sheet.specs.Reading.{class_in, class_of}
use Rattle.sheet.specs.Rules.{Accepted}
use Rattle.sheet.proofs.Contents.{counted}
use Rattle.sheet.proofs.Rules.{accepted_right}
use Rattle.sheet.proofs.Reading.{child_classes_in, name_set_in}
use Rattle.children.specs.NameSets.{Shows, Small}
use Rattle.children.specs.Lists.{child_right, child_in, pairs_right}
use Rattle.children.specs.NameSets.{Crewed}
use Rattle.children.proofs.CrewLaws.{class_before, name_before, pair_cons, no_pair}

-- a turn from the last pair down: the children from pair i on are right
pub record Checked (classes l : List ℕ) (i : ℕ) : Type 0 where
  pub inside : i ≤ length l / 2
  pub right : every (child_in classes) (children_of (drop (2 * i) l)) ≡ true

module _ (classes l : List ℕ) where
  -- at first there is no pair from i on
  pub checked_start : Checked classes l (length l / 2)
  unfolding every
  checked_start = record { inside = omega arith; right = rw (no_pair (drop (2 * (length l / 2)) l) (simp length-drop (omega arith))) }

  -- where all children are right, so are those from pair i on
  right_from : every (child_in classes) (children_of l) ≡ true → (i : ℕ) → i ≤ length l / 2 → every (child_in classes) (children_of (drop (2 * i) l)) ≡ true
  unfolding every
  right_from h zero p = h
  right_from h (suc i) p =
      let e : 2 * (suc i - 1) ≡ 2 * i = omega arith in
      let r : every (child_in classes) (children_of (drop (2 * (suc i - 1)) l)) ≡ true = rw e (right_from h i (omega arith)) in
      and_right (child_right_before (suc i)) (every (child_in classes) (children_of (drop (2 * suc i) l))) (rw (pair_cons l (suc i) (omega arith) p) at r)
    where
      child_right_before : ℕ → Bool
      child_right_before j = child_in classes (record { class = class_before l j; name = name_before l j })

  module _ (i : ℕ) (d : Checked classes l i) (turn : 0 < i) (x y : ℕ) (ex : x ≡ class_before l i) (ey : y ≡ name_before l i) (r : Bool) (e : r ≡ child_right classes x y) where
    -- the pair before is right too
    pub checked_more : r ≡ true → Checked classes l (i - 1)
    unfolding every child_in
    checked_more t =
        record {
          inside = (let h = d.inside in omega arith);
          right = rw (pair_cons l i turn d.inside) (and_both (child_right classes (class_before l i) (name_before l i)) (every (child_in classes) (children_of (drop (2 * i) l))) (rw (ex, ey) at (sym e ∙ t)) d.right);
        }

    -- the pair before is wrong, and so is the list
    pub checked_wrong : r ≡ false → false ≡ pairs_right classes l
    unfolding pairs_right every child_in
    checked_wrong f = rw (wrong, and-false, and-false)
      where
        wrong : every (child_in classes) (children_of l) ≡ false
        wrong =
            not_not_true (every (child_in classes) (children_of l))
            (λ h.
            let a : every (child_in classes) (children_of (drop (2 * (i - 1)) l)) ≡ true = right_from h (i - 1) (let b = d.inside in omega arith) in
            true_not_false (and_left (child_right classes (class_before l i) (name_before l i)) (every (child_in classes) (children_of (drop (2 * i) l))) (rw (pair_cons l i turn d.inside) at a)) (rw (ex, ey) at (sym e ∙ f)))

  -- an odd list, and one of more than 4,096 children
  pub odd_wrong : (length l % 2 ≡ 0 → ⊥) → false ≡ pairs_right classes l
  unfolding pairs_right
  odd_wrong h = rw (ne_eqb (length l % 2) 0 h)

  pub long_wrong : 8192 < length l → false ≡ pairs_right classes l
  unfolding pairs_right
  long_wrong h = rw (lt-leb (length l) 8192 h, and-false)

  -- at pair 0 all children are right
  pub checked_end : (i : ℕ) → Checked classes l i → i ≡ 0 → length l % 2 ≡ 0 → length l ≤ 8192 → true ≡ pairs_right classes l
  unfolding pairs_right
  checked_end i d z even short =
      let a : every (child_in classes) (children_of l) ≡ true = rw z at d.right in
      rw (eq-eqb (length l % 2) 0 even, le-leb (length l) 8192 short, a)

-- the check of a child against the body is that against the class
child_in_class : (s : Bodies) (k : Child) → child_in s.classes k ≡ in_class (class_in s) k
unfolding child_in child_right in_class
child_in_class s k = rw (child_classes_in s) (go (lt_or_le k.class (in_fours s.classes)))
  where
    go : (k.class < in_fours s.classes) ⊎ (in_fours s.classes ≤ k.class)
        → (ltb k.class (in_fours s.classes) && (ltb k.name 32 && has (name_set s.classes k.class) k.name))
        ≡ (ltb k.class (in_fours s.classes) && (ltb k.name 32 && has (get_or (class_in s).children k.class 0) k.name))
    go (inl l) = rw (name_set_in s k.class l)
    go (inr l) = rw (le-ltb k.class (in_fours s.classes) l)

-- the check of a list against the body is that against the class
pub pairs_list : (b l : List ℕ) → pairs_right (body b 0) l ≡ list_right (class_of b) l
unfolding pairs_right list_right class_of bodies
pairs_list b l =
    ap (λ (f : Child → Bool). eqb (length l % 2) 0 && (leb (length l) 8192 && every f (children_of l))) (fun_ext (child_in_class (bodies b)))

module _ (b : List ℕ) (accepted : Accepted b) (l : List ℕ) (right : list_right (class_of b) l ≡ true) where
  -- a list that is right has at most 4,096 children
  pub list_short : length l ≤ 8192
  unfolding list_right
  list_short = leb-true (length l) 8192 (and_left (leb (length l) 8192) (every (in_class (class_of b)) (children_of l)) (and_right (eqb (length l % 2) 0) (leb (length l) 8192 && every (in_class (class_of b)) (children_of l)) right))

  all_in_class : every (in_class (class_of b)) (children_of l) ≡ true
  unfolding list_right
  all_in_class = and_right (leb (length l) 8192) (every (in_class (class_of b)) (children_of l)) (and_right (eqb (length l % 2) 0) (leb (length l) 8192 && every (in_class (class_of b)) (children_of l)) right)

  -- each of its children is of a class below 8, with a name below 32
  pub list_small : (k : Child) → Memᴰ k (children_of l) → Small k
  unfolding in_class class_of
  list_small k m =
      let c = class_of b in
      let t : in_class c k ≡ true = every_elim (in_class c) (children_of l) all_in_class k m in
      let named = ltb k.name 32 in
      let inside = has (get_or c.children k.class 0) k.name in
      let low : k.class < child_classes c = ltb-true k.class (child_classes c) (and_left (ltb k.class (child_classes c)) (named && inside) t) in
      record {
        class_small = omega (arith, low, child_classes_in (bodies b), (counted b (accepted_right b accepted).contents).classes_most);
        name_small = ltb-true k.name 32 (and_left named inside (and_right (ltb k.class (child_classes c)) (named && inside) t));
      }

  -- so that eight sets which show it are its crew
  pub list_crewed : (sets : List ℕ) → length sets ≡ 8 → Shows sets (children_of l) → Crewed sets (children_of l)
  list_crewed sets e h = record { eight = e; shows = h; small = list_small }
