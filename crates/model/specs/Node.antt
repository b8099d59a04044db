-- The probe, one turn of the when phase, and the when phase.
-- Assumes nothing.
use Rattle.std.specs.Prelude.{ℕ, zero, suc, ◌+◌, List, [], ◌∷◌, ◌++◌, length, get_or}
use Rattle.std.proofs.Math.Option.{Option, none, some}
use Rattle.model.specs.Words.{choose, maybe}
use Rattle.model.specs.Tree.{Child, Referrer, move_to, run, stay, When, Action, State, Class, no_state, no_action}
use Rattle.model.specs.Guards.{holds}
use Rattle.model.specs.Running.{Sent, Ran, run_part}

-- the number of own states, S
abbrev pub own_states : Class → ℕ
own_states c = length c.states

abbrev pub state_of : Class → ℕ → State
state_of c q = get_or c.states q no_state

-- a clause's number within the state with its referrer and target, or none
pub data Probed : Type 0 where
  nothing : Probed
  found : ℕ → Referrer → Probed

-- the first clause whose guard is true, numbered from i
unfoldable pub first_true : List Child → ℕ → List When → Probed
first_true ks i [] = nothing
first_true ks i (w ∷ ws) = choose (holds w.guard ks) (λ _. found i w.referrer) (λ _. first_true ks (i + 1) ws)

unfoldable pub probe : Class → List Child → ℕ → Probed
probe c ks q = first_true ks 0 (state_of c q).whens

-- by what a phase settles: no clause, STAY, or DO with the command of its action clause
pub data Ending : Type 0 where
  by_none : Ending
  by_stay : Ending
  by_do : ℕ → Ending

-- one turn: the phase ends, or the node moves; with the commands that the turn sent
pub data Turn : Type 0 where
  stops : Ending → List Sent → Turn
  moves : ℕ → List Sent → Turn

-- action clause a of state q
abbrev pub action_of : Class → ℕ → ℕ → Action
action_of c q a = get_or (state_of c q).actions a no_action

-- a DO that was run: a move, if its clause reached a move_to, even one to the own state; else the phase ends there, by DO
abbrev pub turn_by : ℕ → Ran → Turn
turn_by m r = maybe r.moved (λ _. stops (by_do m) r.sent) (λ t. moves t r.sent)

-- what follows from a probe in state q: a DO runs its clause at once with these children
unfoldable pub turn_for : Class → List Child → ℕ → Probed → Turn
turn_for c ks q nothing = stops by_none []
turn_for c ks q (found i (move_to t)) = moves t []
turn_for c ks q (found i (run a)) = turn_by (action_of c q a).command (run_part (action_of c q a).body ks)
turn_for c ks q (found i stay) = stops by_stay []

unfoldable pub turn : Class → List Child → ℕ → Turn
turn c ks q = turn_for c ks q (probe c ks q)

abbrev pub moved : Turn → Option ℕ
moved (stops e sent) = none
moved (moves t sent) = some t

-- where the next move leads, if there is one; one to the own state is a move, by a MOVE_TO or by a DO
unfoldable pub next : Class → List Child → ℕ → Option ℕ
next c ks q = moved (turn c ks q)

-- the commands that the turn in state q sends
abbrev pub sent_in : Turn → List Sent
sent_in (stops e sent) = sent
sent_in (moves t sent) = sent

unfoldable pub sends : Class → List Child → ℕ → List Sent
sends c ks q = sent_in (turn c ks q)

-- the commands sent where n moves are made from state q, in order, and by the turn behind them
unfoldable pub on_the_way : Class → List Child → ℕ → ℕ → List Sent
on_the_way c ks zero q = sends c ks q
on_the_way c ks (suc n) q = sends c ks q ++ maybe (next c ks q) (λ _. []) (on_the_way c ks n)

-- settled by what, in which state, after how many moves, and the commands sent on the way, in order, the closing DO's too; or loop, the
-- state after S moves, S: a phase that loops sends nothing
pub data Phase : Type 0 where
  settled : Ending → ℕ → ℕ → List Sent → Phase
  loops : ℕ → ℕ → Phase

abbrev pub by_turn {ℓ} : {A : Type ℓ} → Turn → (Ending → List Sent → A) → (ℕ → List Sent → A) → A
by_turn (stops e sent) stop go = stop e sent
by_turn (moves t sent) stop go = go t sent

-- the phase from state q with n moves left of S, m made, and these commands sent
unfoldable pub walk : Class → List Child → ℕ → ℕ → ℕ → List Sent → Phase
walk c ks zero q m sent = loops q m
walk c ks (suc n) q m sent = by_turn (turn c ks q) (λ e x. settled e q m (sent ++ x)) (λ t x. walk c ks n t (m + 1) (sent ++ x))

unfoldable pub phase : Class → List Child → ℕ → Phase
phase c ks q = walk c ks (own_states c) q 0 []

abbrev pub moves_of : Phase → ℕ
moves_of (settled e q m sent) = m
moves_of (loops q m) = m

-- the commands that a phase sends
abbrev pub sent_of : Phase → List Sent
sent_of (settled e q m sent) = sent
sent_of (loops q m) = []
