-- A class whose numbers are right: each names what there is, and fits the bytes that it has in a sheet.
-- Assumes nothing.
use Rattle.std.specs.Prelude.{ℕ, ◌<◌, ◌≤◌, ◌^◌, ◌≡◌, List, [], ◌∷◌, length, get_or}
use Rattle.model.specs.Tree.{Pattern, everyone, of_class, Guard, atom, both, either, opposite, Referrer, move_to, run, stay, When, Statement, send, go_to, branch, Part, end, ◌then◌, Action, State, Class, no_action}

-- P holds of every entry of the list
abbrev pub Every : {A : Type 0} → (A → Type 0) → List A → Type 0
Every P [] = Unit {0}
Every P (x ∷ xs) = P x × Every P xs

-- a child class is below K
abbrev pub PatternNumbers : Pattern → ℕ → Type 0
PatternNumbers everyone K = Unit {0}
PatternNumbers (of_class c) K = c < K

-- each atom's pattern, and its name set: 32 bits, not zero
abbrev pub GuardNumbers : Guard → ℕ → Type 0
GuardNumbers (atom k p s) K = PatternNumbers p K × (0 < s) × (s < 2 ^ 32)
GuardNumbers (both g h) K = GuardNumbers g K × GuardNumbers h K
GuardNumbers (either g h) K = GuardNumbers g K × GuardNumbers h K
GuardNumbers (opposite g) K = GuardNumbers g K

-- MOVE_TO an own state, DO one of the state's own action clauses
abbrev pub ReferrerNumbers : Referrer → ℕ → ℕ → Type 0
ReferrerNumbers (move_to q) S own = q < S
ReferrerNumbers (run a) S own = a < own
ReferrerNumbers stay S own = Unit {0}

-- a when clause's guard and referrer
abbrev pub WhenNumbers : ℕ → ℕ → ℕ → When → Type 0
WhenNumbers K S own w = GuardNumbers w.guard K × ReferrerNumbers w.referrer S own

-- a command is at most 63, a move_to leads to an own state
unfoldable mutual
  pub PartNumbers : Part → ℕ → ℕ → Type 0
  PartNumbers end K S = Unit {0}
  PartNumbers (s then p) K S = StatementNumbers s K S × PartNumbers p K S

  pub StatementNumbers : Statement → ℕ → ℕ → Type 0
  StatementNumbers (send c p) K S = (c ≤ 63) × PatternNumbers p K
  StatementNumbers (go_to q) K S = q < S
  StatementNumbers (branch g a b) K S = GuardNumbers g K × PartNumbers a K S × PartNumbers b K S

-- an action clause's command and body
abbrev pub ActionNumbers : ℕ → ℕ → Action → Type 0
ActionNumbers K S a = (a.command ≤ 63) × PartNumbers a.body K S

-- no command stands twice
abbrev pub NoneTwice : List Action → Type 0
NoneTwice l = (i j : ℕ) → j < i → i < length l → (get_or l j no_action).command ≡ (get_or l i no_action).command → ⊥

-- a state's clauses, whose DOs name its own action clauses
pub record StateNumbers (K S : ℕ) (s : State) : Type 0 where
  pub whens : Every (WhenNumbers K S (length s.actions)) s.whens
  pub actions : Every (ActionNumbers K S) s.actions
  pub none_twice : NoneTwice s.actions

-- a class's name sets and states; K is the number of its child classes, S that of its own states
pub record Numbers (c : Class) : Type 0 where
  pub sets : Every (λ s. s < 2 ^ 32) c.children
  pub states : Every (StateNumbers (length c.children) (length c.states)) c.states
