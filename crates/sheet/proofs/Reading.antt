-- What the class that is read of the bodies consists of: name sets, states and clauses by their numbers.
-- Assumes nothing.
use Prim.Native.Nat.{ℕ, ◌+◌, ◌-◌, ◌<◌, ◌≤◌}
use native.Mathlib.Omega.{arith}
use mathlib.Core.Path.{◌≡◌, refl, ap, subst, ◌∙◌}
use mathlib.Core.List.Memᴰ
use mathlib.Core.List.{List, [], Memᴰ}
use mathlib.Core.Logic.{◌⊎◌, inl, inr}
use mathlib.Core.Option.{Option, none, some}
use lib.ListN.{length, get_or}
use Rattle.model.specs.Words.{maybe, listed}
use Rattle.model.specs.Tree.{When, Part, end, Action, State, no_state}
use Rattle.model.specs.Node.{own_states, state_of}
use Rattle.model.specs.Crews.{child_classes}
use Rattle.model.proofs.Words.{lt_or_le}
use Rattle.model.proofs.RunLaws.{part_size}
use Rattle.model.proofs.Lists.{length_listed, get_or_listed, get_or_past, mem_listed}
use Rattle.sheet.specs.Contents.{Bodies}
use Rattle.bodies.specs.Clauses.{name_set, count_at, count_sum, when_count, action_count, first_when, first_action, body_of}
use Rattle.records.specs.Bytes.{in_fours, in_eights}
use Rattle.bodies.proofs.Parts.{body_sized as part_sized}
use Rattle.sheet.specs.Reading.{when_in, action_in, state_in, class_in}

module _ (s : Bodies) where
  -- the class has K child classes and S states
  pub child_classes_in : child_classes (class_in s) ≡ in_fours s.classes
  unfolding class_in
  child_classes_in = length_listed 0 (in_fours s.classes) (name_set s.classes)

  pub own_states_in : own_states (class_in s) ≡ in_fours s.states
  unfolding class_in
  own_states_in = length_listed 0 (in_fours s.states) (state_in s)

  -- child class i has the name set that its record holds
  pub name_set_in : (i : ℕ) → i < in_fours s.classes → get_or (class_in s).children i 0 ≡ name_set s.classes i
  unfolding class_in
  name_set_in i l = get_or_listed 0 (in_fours s.classes) (name_set s.classes) 0 i i l (omega arith)

  -- state q is read of its record; past the last there is none
  pub state_of_in : (q : ℕ) → q < in_fours s.states → state_of (class_in s) q ≡ state_in s q
  unfolding class_in
  state_of_in q l = get_or_listed 0 (in_fours s.states) (state_in s) no_state q q l (omega arith)

  pub state_of_past : (q : ℕ) → in_fours s.states ≤ q → state_of (class_in s) q ≡ no_state
  unfolding class_in
  state_of_past q l = get_or_past 0 (in_fours s.states) (state_in s) no_state q l

  -- the clauses of one kind: state q lists them from its first on, as many as its record says
  module _ {A : Type 0} (clauses : State → List A) (offset : ℕ) (read : ℕ → A) (reads : (q : ℕ) → clauses (state_in s q) ≡ listed (count_sum s.states offset q) (count_at s.states offset q) read) (none : clauses no_state ≡ []) where
    -- a clause in a state is one of the state's by number, and the state is one of the S
    mem_clauses : (q : ℕ) (x : A) → Memᴰ x (clauses (state_of (class_in s) q))
        → (i : ℕ) × (q < in_fours s.states) × (i < count_at s.states offset q) × (x ≡ read (count_sum s.states offset q + i))
    mem_clauses q x m = go (lt_or_le q (in_fours s.states))
      where
        go : (q < in_fours s.states) ⊎ (in_fours s.states ≤ q) → (i : ℕ) × (q < in_fours s.states) × (i < count_at s.states offset q) × (x ≡ read (count_sum s.states offset q + i))
        go (inl l) =
            let first = count_sum s.states offset q in
            let (a, u, v, e) = mem_listed first (count_at s.states offset q) read x (subst (λ (y : List A). Memᴰ x y) (ap clauses (state_of_in q l) ∙ reads q) m) in
            let z : a ≡ first + (a - first) = omega arith in
            (a - first, l, (omega arith), (e ∙ ap read z))
        go (inr l) = absurd (Memᴰ.not-nil (subst (λ (y : List A). Memᴰ x y) (ap clauses (state_of_past q l) ∙ none) m))

    -- a state has as many of them as its record says
    clauses_in : (q : ℕ) → q < in_fours s.states → length (clauses (state_of (class_in s) q)) ≡ count_at s.states offset q
    clauses_in q l = ap (λ (x : State). length (clauses x)) (state_of_in q l) ∙ ap length (reads q) ∙ length_listed (count_sum s.states offset q) (count_at s.states offset q) read

  pub whens_in : (q : ℕ) → q < in_fours s.states → length (state_of (class_in s) q).whens ≡ when_count s.states q
  unfolding state_in
  whens_in = clauses_in (λ x. x.whens) 0 (when_in s) (λ q. refl) refl

  pub actions_in : (q : ℕ) → q < in_fours s.states → length (state_of (class_in s) q).actions ≡ action_count s.states q
  unfolding state_in
  actions_in = clauses_in (λ x. x.actions) 2 (action_in s) (λ q. refl) refl

  pub mem_whens : (q : ℕ) (w : When) → Memᴰ w (state_of (class_in s) q).whens
      → (i : ℕ) × (q < in_fours s.states) × (i < when_count s.states q) × (w ≡ when_in s (first_when s.states q + i))
  unfolding state_in
  mem_whens = mem_clauses (λ x. x.whens) 0 (when_in s) (λ q. refl) refl

  pub mem_actions : (q : ℕ) (a : Action) → Memᴰ a (state_of (class_in s) q).actions
      → (i : ℕ) × (q < in_fours s.states) × (i < action_count s.states q) × (a ≡ action_in s (first_action s.states q + i))
  unfolding state_in
  mem_actions = mem_clauses (λ x. x.actions) 2 (action_in s) (λ q. refl) refl

  -- action clause i of state q is clause i behind its first
  pub action_of_in : (q i : ℕ) (d : Action) → q < in_fours s.states → i < action_count s.states q → get_or (state_of (class_in s) q).actions i d ≡ action_in s (first_action s.states q + i)
  unfolding state_in
  action_of_in q i d l m = rw (state_of_in q l) (get_or_listed (first_action s.states q) (action_count s.states q) (action_in s) d i (first_action s.states q + i) m refl)

-- an action clause has no more statements than the sheet
pub body_sized : (s : Bodies) (a : ℕ) → part_size (action_in s a).body ≤ in_eights s.statements
unfolding action_in part_size
body_sized s a = go (body_of (in_fours s.classes) (in_fours s.states) s.guards s.actions s.statements a) refl
  where
    go : (o : Option Part) → body_of (in_fours s.classes) (in_fours s.states) s.guards s.actions s.statements a ≡ o → part_size (maybe o (λ _. end) (λ p. p)) ≤ in_eights s.statements
    go none e = omega arith
    go (some p) e = part_sized (in_fours s.classes) (in_fours s.states) s.guards s.actions s.statements a p e
