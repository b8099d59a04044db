-- A guard on the sets is the guard on the children whose names the sets show.
-- Assumes nothing.
use Prim.Native.Nat.{ℕ, ◌<◌, ◌≤◌}
use native.Mathlib.Omega.{arith}
use mathlib.Core.Path.{◌≡◌, refl, sym, ◌∙◌, ap, ap₂}
use mathlib.Core.Bool.{Bool, true, false, ◌&&◌, ◌||◌, not}
use mathlib.Core.List.{List, Memᴰ}
use mathlib.Core.Logic.{◌⊎◌, inl, inr}
use lib.ListN.{length, get_or, get_or-eq_default}
use borrow.Author.Tests.{eqb-true, eq-eqb}
use Rattle.model.specs.Words.{has, each, every, some_in, some_below}
use Rattle.model.specs.Tree.{Child, Pattern, everyone, of_class, Kind, any_in, any_not_in, all_in, all_not_in, Guard, atom, both, either, opposite}
use Rattle.model.specs.Guards.{concerns, any_of, all_of, named_in, atom_holds, holds}
use Rattle.model.proofs.Words.{true_not_false, both_ways, and_left, and_right, and_both, not_not_true, lt_or_le, each_intro, each_elim, some_below_intro, some_below_elim}
use Rattle.model.proofs.Lists.{every_elim, every_intro, some_in_elim, some_in_intro}
use Rattle.model.proofs.Occupancy.{mem_occupied, occupied_mem}
use Rattle.sheet.specs.Contents.{Bodies}
use Rattle.records.specs.GuardRecords.{Read, got, broken, by_read, guard_from}
use Rattle.sheet.specs.Reading.{guard_in}
use Rattle.model.proofs.Bits.{has_none}
use Rattle.node.specs.Sets.{atom_in, holds_in}
use Rattle.children.specs.NameSets.{Shows, Small, seen}
use Rattle.node.specs.Values.{truth_of}

-- "not a, or b" is that b follows from a
then_intro : (a b : Bool) → (a ≡ true → b ≡ true) → (not a || b) ≡ true
then_intro true b f = f refl
then_intro false b f = refl

then_elim : (a b : Bool) → (not a || b) ≡ true → a ≡ true → b ≡ true
then_elim true b h e = h
then_elim false b h e = absurd (true_not_false e refl)

module _ (sets : List ℕ) (ks : List Child) (eight : length sets ≡ 8) (shows : Shows sets ks) (small : (k : Child) → Memᴰ k ks → Small k) where
  -- the name of a child is in its class's set
  in_set : (k : Child) → Memᴰ k ks → has (get_or sets k.class 0) k.name ≡ true
  in_set k m = shows k.class k.name (small k m).class_small (small k m).name_small ∙ mem_occupied ks k m

  -- a name in the set of class i is that of a child of the class; past the eighth class there is none
  set_in : (i n : ℕ) → n < 32 → has (get_or sets i 0) n ≡ true → Memᴰ (record { class = i; name = n }) ks
  set_in i n l h = go (lt_or_le i 8)
    where
      go : (i < 8) ⊎ (8 ≤ i) → Memᴰ (record { class = i; name = n }) ks
      go (inl b) = occupied_mem ks i n (sym (shows i n b l) ∙ h)
      go (inr b) = absurd (true_not_false h (ap (λ (s : ℕ). has s n) (get_or-eq_default sets 0 (let z : length sets ≤ i = omega arith in z)) ∙ has_none n))

  -- the name of a child of the pattern is seen
  seen_of : (p : Pattern) (k : Child) → Memᴰ k ks → concerns p k ≡ true → seen sets p k.name ≡ true
  unfolding seen concerns
  seen_of everyone k m h = some_below_intro 8 (λ i. has (get_or sets i 0) k.name) k.class (small k m).class_small (in_set k m)
  seen_of (of_class i) k m h = ap (λ (j : ℕ). has (get_or sets j 0) k.name) (sym (eqb-true k.class i h)) ∙ in_set k m

  -- a name that is seen is that of a child of the pattern
  of_seen : (p : Pattern) (n : ℕ) → n < 32 → seen sets p n ≡ true → (k : Child) × Memᴰ k ks × (concerns p k ≡ true) × (k.name ≡ n)
  unfolding seen concerns
  of_seen everyone n l h = let (i, b, t) = some_below_elim 8 (λ i. has (get_or sets i 0) n) h in (record { class = i; name = n }, set_in i n l t, refl, refl)
  of_seen (of_class i) n l h = (record { class = i; name = n }, set_in i n l h, eq-eqb i i refl, refl)

  -- so some name that is seen passes a test exactly if some child of the pattern does
  some_agree : (p : Pattern) (f : ℕ → Bool) → some_below 32 (λ n. seen sets p n && f n) ≡ some_in (λ k. concerns p k && f k.name) ks
  some_agree p f =
      both_ways (some_below 32 (λ n. seen sets p n && f n)) (some_in (λ k. concerns p k && f k.name) ks)
      (λ h.
      let (n, l, t) = some_below_elim 32 (λ n. seen sets p n && f n) h in
      let (k, m, c, e) = of_seen p n l (and_left (seen sets p n) (f n) t) in
      some_in_intro (λ k. concerns p k && f k.name) ks k m (and_both (concerns p k) (f k.name) c (ap f e ∙ and_right (seen sets p n) (f n) t)))
      (λ h.
      let (k, m, t) = some_in_elim (λ k. concerns p k && f k.name) ks h in
      some_below_intro 32 (λ n. seen sets p n && f n) k.name (small k m).name_small
      (and_both (seen sets p k.name) (f k.name) (seen_of p k m (and_left (concerns p k) (f k.name) t)) (and_right (concerns p k) (f k.name) t)))

  -- and every name that is seen does exactly if every child of the pattern does
  every_agree : (p : Pattern) (f : ℕ → Bool) → each 32 (λ n. not (seen sets p n) || f n) ≡ every (λ k. not (concerns p k) || f k.name) ks
  every_agree p f =
      both_ways (each 32 (λ n. not (seen sets p n) || f n)) (every (λ k. not (concerns p k) || f k.name) ks)
      (λ h. every_intro (λ k. not (concerns p k) || f k.name) ks
      (λ k m. then_intro (concerns p k) (f k.name)
      (λ c. then_elim (seen sets p k.name) (f k.name) (each_elim 32 (λ n. not (seen sets p n) || f n) h k.name (small k m).name_small) (seen_of p k m c))))
      (λ h. each_intro 32 (λ n. not (seen sets p n) || f n)
      (λ n l. then_intro (seen sets p n) (f n)
      (λ s.
      let (k, m, c, e) = of_seen p n l s in
      ap f (sym e) ∙ then_elim (concerns p k) (f k.name) (every_elim (λ k. not (concerns p k) || f k.name) ks h k m) c)))

  atom_agree : (kind : Kind) (p : Pattern) (set : ℕ) → atom_in sets kind p set ≡ atom_holds kind p set ks
  unfolding atom_in atom_holds any_of all_of named_in
  atom_agree any_in p set = some_agree p (has set)
  atom_agree any_not_in p set = some_agree p (λ n. not (has set n))
  atom_agree all_in p set = every_agree p (has set)
  atom_agree all_not_in p set = every_agree p (λ n. not (has set n))

  pub agree : (g : Guard) → holds_in sets g ≡ holds g ks
  unfolding holds_in holds
  agree (atom kind p set) = atom_agree kind p set
  agree (both g h) = ap₂ ◌&&◌ (agree g) (agree h)
  agree (either g h) = ap₂ ◌||◌ (agree g) (agree h)
  agree (opposite g) = ap not (agree g)

  -- the empty set has no child's name
  none_holds : false ≡ holds (atom any_in everyone 0) ks
  unfolding holds atom_holds any_of named_in concerns
  none_holds = sym (not_not_true (some_in (λ k. has 0 k.name) ks) (λ h. let (k, m, t) = some_in_elim (λ k. has 0 k.name) ks h in true_not_false t (has_none k.name)))

  read_agree : (r : Read) → truth_of sets r ≡ holds (by_read r (λ _. atom any_in everyone 0) (λ g _. g)) ks
  unfolding truth_of
  read_agree (got g e) = agree g
  read_agree broken = none_holds

  -- the truth of the guard at a place is that of the guard that the sheet has there
  pub truth_agree : (s : Bodies) (place : ℕ) → truth_of sets (guard_from s.guards place) ≡ holds (guard_in s place) ks
  unfolding guard_in
  truth_agree s place = read_agree (guard_from s.guards place)
