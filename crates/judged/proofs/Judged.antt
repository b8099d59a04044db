-- The class of an accepted sheet is judged, and within the limits if its guards written out are at most 1,024 records.
-- Assumes nothing.
use Prim.Native.Nat.{ℕ, ◌*◌, ◌<◌, ◌≤◌, ◌^◌}
use native.Mathlib.Omega.{arith}
use mathlib.Core.Path.{◌≡◌}
use mathlib.Core.Bool.{true}
use mathlib.Core.List.{List, map}
use lib.ListN.{length}
use Rattle.model.specs.Words.{Bytes}
use Rattle.model.specs.Tree.{State, Class}
use Rattle.records.specs.Bytes.{in_fours}
use Rattle.records.proofs.Bytes.{u32_below}
use Rattle.bodies.specs.Clauses.{name_set}
use Rattle.sheet.specs.Contents.{Bodies, bodies}
use Rattle.sheet.specs.Rules.{Accepted}
use Rattle.sheet.specs.Reading.{state_in, class_in, class_of}
use Rattle.sheet.proofs.Contents.{counted, body_bytes}
use Rattle.sheet.proofs.Rules.{BodiesRight, accepted_right}
use Rattle.sheet.proofs.Reading.{child_classes_in, own_states_in}
use Rattle.sheet.proofs.Sound.{set_not_zero}
use Rattle.sheet.proofs.Sizes.{class_few}
use Rattle.encoding.specs.Encoding.{gathered, all_guards}
use Rattle.encoding.specs.Limits.{part_guards_of, state_guards_of, within_limits}
use Rattle.encoding.specs.Numbers.{Every, WhenNumbers, ActionNumbers, StateNumbers}
use Rattle.encoding.specs.Within.{Within}
use Rattle.encoding.proofs.All.{every_append, every_turned, every_map, every_gathered}
use Rattle.encoding.proofs.Inside.{Shallow, Low, WhenInside, ActionInside, StateInside}
use Rattle.encoding.proofs.Limits.{within_only}
use Rattle.judged.specs.Judged.{Judged}
use Rattle.judged.proofs.States.{every_listed, state_inside}
use Rattle.judged.proofs.Counts.{statements_sized, whens_counted, actions_counted}

-- what a state has that is inside the limits: right numbers, shallow guards, ifs that are not too deep
module _ (K S : ℕ) (s : State) (inside : StateInside K S s) where
  state_numbers : StateNumbers K S s
  state_numbers =
      record {
        whens = every_turned (WhenInside K S (length s.actions)) (WhenNumbers K S (length s.actions)) (λ w x. x.1) s.whens inside.whens;
        actions = every_turned (ActionInside K S) (ActionNumbers K S) (λ a x. x.numbers) s.actions inside.actions;
        none_twice = inside.none_twice;
      }

  state_paths : Every Shallow (state_guards_of s)
  state_paths =
      every_append Shallow (map (λ w. w.guard) s.whens) (gathered (λ a. part_guards_of a.body) s.actions)
      (every_map Shallow (λ w. w.guard) s.whens (every_turned (WhenInside K S (length s.actions)) (λ w. Shallow w.guard) (λ w x. x.0) s.whens inside.whens))
      (every_gathered Shallow (ActionInside K S) (λ a. part_guards_of a.body) (λ a x. x.paths) s.actions inside.actions)

  state_depths : Every Low s.actions
  state_depths = every_turned (ActionInside K S) Low (λ a x. x.depth) s.actions inside.actions

-- the name sets of the class that is read are numbers of 32 bits
sets_small : (s : Bodies) → Bytes s.classes → Every (λ n. n < 2 ^ 32) (class_in s).children
unfolding class_in
sets_small s bytes = every_listed (λ n. n < 2 ^ 32) (name_set s.classes) 0 (in_fours s.classes) (λ i k l e. u32_below s.classes bytes (k * 4))

module _ (s : Bodies) (r : BodiesRight s) where
  -- none of them is empty, by rule 3
  sets_some : Every (λ n. 0 < n) (class_in s).children
  unfolding class_in
  sets_some =
      every_listed (λ n. 0 < n) (name_set s.classes) 0 (in_fours s.classes)
      (λ i k l e. let z = set_not_zero s r k (omega arith) in let y : 0 < name_set s.classes k = omega arith in y)

  -- its states, for the numbers of child classes and of states that it has
  states_fit : Bytes s.guards → Every (StateInside (length (class_in s).children) (length (class_in s).states)) (class_in s).states
  unfolding class_in
  states_fit bytes =
      rw (child_classes_in s, own_states_in s)
      (every_listed (StateInside (in_fours s.classes) (in_fours s.states)) (state_in s) 0 (in_fours s.states) (λ i q l e. state_inside s r bytes q (omega arith)))

-- the class of an accepted sheet is judged
pub judged : (b : List ℕ) → Bytes b → Accepted b → Judged (class_of b)
unfolding class_of bodies
judged b bytes accepted =
    let right = accepted_right b accepted in
    let s = bodies b in
    let r = right.bodies in
    let table = counted b right.contents in
    let c = class_in s in
    let K = length c.children in
    let S = length c.states in
    let inside = states_fit s r (body_bytes b bytes 3) in
    record {
      numbers = record { sets = sets_small s (body_bytes b bytes 0); states = every_turned (StateInside K S) (StateNumbers K S) (state_numbers K S) c.states inside };
      classes = omega (arith, child_classes_in s, table.classes_most);
      some_state = omega (arith, own_states_in s, table.states_least);
      states = omega (arith, own_states_in s, table.states_most);
      whens = omega (arith, whens_counted s r, table.whens_most);
      actions = omega (arith, actions_counted s r, table.actions_most);
      statements = omega (arith, statements_sized c, class_few b right);
      sets = sets_some s r;
      paths = every_gathered Shallow (StateInside K S) state_guards_of (state_paths K S) c.states inside;
      depths = every_gathered Low (StateInside K S) (λ x. x.actions) (state_depths K S) c.states inside;
    }

-- and a sheet can stand for it with guards of their own, if they are at most 1,024 records
pub judged_within : (c : Class) → Judged c → length (all_guards c) ≤ 1024 → Within c
judged_within c j few =
    record {
      numbers = j.numbers;
      classes = j.classes;
      some_state = j.some_state;
      states = j.states;
      whens = j.whens;
      guards = few;
      actions = j.actions;
      statements = j.statements;
      sets = j.sets;
      paths = j.paths;
      depths = j.depths;
    }

-- then the test of the limits is true
pub judged_limits : (c : Class) → Judged c → length (all_guards c) ≤ 1024 → within_limits c ≡ true
judged_limits c j few = (within_only c (judged_within c j few)).0
