-- The class of an accepted sheet is sound.
-- Assumes nothing.
use Prim.Native.Nat.{ℕ, zero, suc, ◌+◌, ◌*◌, ◌<◌, ◌^◌}
use native.Mathlib.Omega.{arith}
use mathlib.Core.Path.{◌≡◌, refl, sym, subst}
use mathlib.Core.Bool.{true, ◌&&◌, not}
use mathlib.Core.List.{List, Memᴰ}
use mathlib.Core.Option.{Option, none, some}
use lib.Dec.{eqb, ltb}
use lib.ListN.{length, get_or}
use borrow.Author.Tests.{eqb-false, not-true, ltb-true}
use Rattle.model.specs.Words.{choose, maybe, has}
use Rattle.model.specs.Tree.{When, Part, end, Action, Class}
use Rattle.model.specs.Node.{own_states, state_of}
use Rattle.model.specs.Crews.{child_classes}
use Rattle.model.specs.Sound.{Sound, ReferrerRight, part_within}
use Rattle.model.proofs.Words.{each_elim}
use Rattle.model.specs.Words.{Bytes}
use Rattle.sheet.specs.Contents.{Bodies, bodies}
use Rattle.bodies.specs.Clauses.{name_set, when_count, action_count, first_when, first_action, referrer_number, target, body_of, statements_of, referrer_of}
use Rattle.records.specs.Bytes.{in_fours}
use Rattle.sheet.specs.Rules.{Accepted}
use Rattle.bodies.specs.BodyRules.{classes_right, target_right, state_targets_right, targets_right}
use Rattle.sheet.specs.Reading.{when_in, action_in, class_in, class_of}
use Rattle.records.proofs.Bytes.{u32_below}
use Rattle.model.proofs.Bits.{some_bit}
use Rattle.sheet.proofs.Contents.{body_bytes, counted}
use Rattle.sheet.proofs.Rules.{BodiesRight, accepted_right}
use Rattle.sheet.proofs.Reading.{child_classes_in, own_states_in, name_set_in, actions_in, mem_whens, mem_actions}
use Rattle.bodies.proofs.Parts.{PartWithin, part_at_within}

-- the name sets of the class that is read are numbers of 32 bits
pub sets_in : (s : Bodies) → Bytes s.classes → (i : ℕ) → i < child_classes (class_in s) → get_or (class_in s).children i 0 < 2 ^ 32
sets_in s h i l = rw (name_set_in s i (rw (child_classes_in s) at l)) (u32_below s.classes h (i * 4))

-- a referrer number n and a target t that pass rule 7 are a right referrer
pub referrer_right : (c : Class) (q n t S A : ℕ) → own_states c ≡ S → length (state_of c q).actions ≡ A
    → choose (eqb n 0) (λ _. ltb t S) (λ _. choose (eqb n 1) (λ _. ltb t A) (λ _. eqb n 2 && eqb t 0)) ≡ true
    → ReferrerRight c q (referrer_of n t)
unfolding referrer_of
referrer_right c q zero t S A e f h = let l = ltb-true t S h in omega arith
referrer_right c q (suc zero) t S A e f h = let l = ltb-true t A h in omega arith
referrer_right c q (suc (suc n)) t S A e f h = tt

module _ (s : Bodies) (r : BodiesRight s) where
  -- no child class has the empty name set
  pub set_not_zero : (i : ℕ) → i < in_fours s.classes → name_set s.classes i ≡ 0 → ⊥
  unfolding classes_right
  set_not_zero i l =
      eqb-false (name_set s.classes i) 0 (not-true (eqb (name_set s.classes i) 0) (each_elim (in_fours s.classes) (λ i. not (eqb (name_set s.classes i) 0)) r.classes i l))

  -- so that each has a name below 32
  pub named_in : Bytes s.classes → (i : ℕ) → i < child_classes (class_in s) → (n : ℕ) × (n < 32) × (has (get_or (class_in s).children i 0) n ≡ true)
  named_in h i l =
      let k : i < in_fours s.classes = rw (child_classes_in s) at l in
      rw (name_set_in s i k) (some_bit 32 (name_set s.classes i) (u32_below s.classes h (i * 4)) (set_not_zero i k))

  -- rule 7 at when clause i of state q
  pub target_at : (q i : ℕ) → q < in_fours s.states → i < when_count s.states q → target_right (in_fours s.states) (action_count s.states q) s.whens (first_when s.states q + i) ≡ true
  unfolding targets_right state_targets_right
  target_at q i l m =
      each_elim (when_count s.states q) (λ i. target_right (in_fours s.states) (action_count s.states q) s.whens (first_when s.states q + i))
      (each_elim (in_fours s.states) (state_targets_right s.states s.whens) r.targets q l)
      i m

  -- the referrers of the class that is read are right
  pub referrers_in : (q : ℕ) (w : When) → Memᴰ w (state_of (class_in s) q).whens → ReferrerRight (class_in s) q w.referrer
  unfolding when_in
  referrers_in q w m =
      let (i, l, k, e) = mem_whens s q w m in
      let a = first_when s.states q + i in
      subst (λ (x : When). ReferrerRight (class_in s) q x.referrer) (sym e)
      (referrer_right (class_in s) q (referrer_number s.whens a) (target s.whens a) (in_fours s.states) (action_count s.states q) (own_states_in s) (actions_in s q l) (target_at q i l k))

-- what is read of an action clause leads only to own states, be the sheet accepted or not
pub body_within : (s : Bodies) (a : ℕ) → part_within (action_in s a).body (in_fours s.states) ≡ true
unfolding action_in body_of part_within
body_within s a = go (body_of (in_fours s.classes) (in_fours s.states) s.guards s.actions s.statements a) (part_at_within 8 (in_fours s.classes) (in_fours s.states) s.guards (statements_of s.actions s.statements a))
  where
    go : (o : Option Part) → PartWithin (in_fours s.states) o → part_within (maybe o (λ _. end) (λ p. p)) (in_fours s.states) ≡ true
    go none w = refl
    go (some p) w = w

-- the same of the action clauses of the class that is read
pub bodies_in : (s : Bodies) (q : ℕ) (a : Action) → Memᴰ a (state_of (class_in s) q).actions → part_within a.body (own_states (class_in s)) ≡ true
bodies_in s q a m =
    let (i, l, k, e) = mem_actions s q a m in
    rw (own_states_in s, e) (body_within s (first_action s.states q + i))

-- an accepted sheet is sound
pub sound : (b : List ℕ) → Bytes b → Accepted b → Sound (class_of b)
unfolding class_of bodies
sound b h accepted =
    let right = accepted_right b accepted in
    let s = bodies b in
    record {
      some_state = omega (arith, own_states_in s, (counted b right.contents).states_least);
      named = named_in s right.bodies (body_bytes b h 0);
      sets = sets_in s (body_bytes b h 0);
      referrers = referrers_in s right.bodies;
      bodies = bodies_in s;
    }
