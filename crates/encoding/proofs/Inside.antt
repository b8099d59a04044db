-- What a class that a sheet can stand for has in each of its states.
-- Assumes nothing.
use Prim.Native.Nat.{ℕ, ◌≤◌}
use mathlib.Core.List.{List, map}
use lib.ListN.{length}
use Rattle.model.specs.Tree.{Guard, When, Action, State, Class}
use Rattle.encoding.specs.Encoding.{gathered}
use Rattle.encoding.specs.Limits.{operators, part_depth, part_guards_of, state_guards_of}
use Rattle.encoding.specs.Numbers.{Every, WhenNumbers, ActionNumbers, NoneTwice, StateNumbers}
use Rattle.encoding.specs.Within.{Within}
use Rattle.encoding.proofs.All.{every_first, every_second, every_parts, every_mapped, every_both, every_turned}

abbrev pub Shallow : Guard → Type 0
Shallow g = operators g ≤ 16

abbrev pub WhenInside : ℕ → ℕ → ℕ → When → Type 0
WhenInside K S own w = Shallow w.guard × WhenNumbers K S own w

pub record ActionInside (K S : ℕ) (a : Action) : Type 0 where
  pub numbers : ActionNumbers K S a
  pub depth : part_depth a.body ≤ 8
  pub paths : Every Shallow (part_guards_of a.body)

pub record StateInside (K S : ℕ) (s : State) : Type 0 where
  pub whens : Every (WhenInside K S (length s.actions)) s.whens
  pub actions : Every (ActionInside K S) s.actions
  pub none_twice : NoneTwice s.actions

abbrev pub Low : Action → Type 0
Low a = part_depth a.body ≤ 8

abbrev guard_of : When → Guard
guard_of w = w.guard

abbrev ifs_of : Action → List Guard
ifs_of a = part_guards_of a.body

state_inside : (K S : ℕ) (s : State) → StateNumbers K S s → Every Shallow (state_guards_of s) → Every Low s.actions → StateInside K S s
state_inside K S s n p d =
    let ws = map guard_of s.whens in
    let is = gathered ifs_of s.actions in
    let own : ℕ = length s.actions in
    record {
      whens = every_both (λ w. Shallow w.guard) (WhenNumbers K S own) s.whens (every_mapped Shallow guard_of s.whens (every_first Shallow ws is p)) n.whens;
      actions =
          every_turned (λ a. ActionNumbers K S a × (Low a × Every Shallow (ifs_of a))) (ActionInside K S)
          (λ a x. record { numbers = x.0; depth = x.1.0; paths = x.1.1 }) s.actions
          (every_both (ActionNumbers K S) (λ a. Low a × Every Shallow (ifs_of a)) s.actions n.actions
          (every_both Low (λ a. Every Shallow (ifs_of a)) s.actions d (every_parts Shallow ifs_of s.actions (every_second Shallow ws is p))));
      none_twice = n.none_twice;
    }

pub states_inside : (c : Class) → Within c → Every (StateInside (length c.children) (length c.states)) c.states
states_inside c w =
    let K : ℕ = length c.children in
    let S : ℕ = length c.states in
    every_turned (λ s. StateNumbers K S s × (Every Shallow (state_guards_of s) × Every Low s.actions)) (StateInside K S)
    (λ s x. state_inside K S s x.0 x.1.0 x.1.1) c.states
    (every_both (StateNumbers K S) (λ s. Every Shallow (state_guards_of s) × Every Low s.actions) c.states w.numbers.states
    (every_both (λ s. Every Shallow (state_guards_of s)) (λ s. Every Low s.actions) c.states
    (every_parts Shallow state_guards_of c.states w.paths)
    (every_parts Low (λ s. s.actions) c.states w.depths)))
