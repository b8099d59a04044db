-- Errors a reader would forgive at first sight, each contradicted by one closed statement.
-- Assumes nothing.
use Prim.Native.Nat.{ℕ}
use mathlib.Core.Path.{◌≡◌, refl}
use mathlib.Core.Bool.{true}
use mathlib.Core.List.{List, [], ◌∷◌}
use mathlib.Core.Option.{none, some}
use Rattle.model.specs.Tree.{Child, everyone, of_class, send, go_to, branch, Part, end, ◌then◌, any_in, any_not_in, all_in, atom, move_to, run, stay, Referrer, When, State, Class}
use Rattle.model.specs.Guards.{holds}
use Rattle.model.specs.Moves.{Returns}
use Rattle.model.specs.Node.{found, probe, by_do, next, settled, loops, phase}
use Rattle.model.specs.Commands.{handled, ignored, command_then_phase, sent_in_all}
use Rattle.model.specs.Running.{Sent, sent_to, run_part}
use Rattle.model.specs.Replies.{refuse, give, buffer_after}
use Rattle.model.proofs.Computing.{computing}

-- a heater in COLD (name 0) and one in HOT (name 1), both of class 0
unfoldable pub cold_and_hot : List Child
cold_and_hot = record { class = 0; name = 0 } ∷ record { class = 0; name = 1 } ∷ []

-- a clause that is true where there is no child: all children are in HOT
unfoldable pub always : Referrer → When
always r = record { guard = atom all_in everyone 2; referrer = r }

-- a class without children and with one state, which has these clauses
unfoldable pub with_clauses : List When → Class
with_clauses ws = record { children = []; states = record { whens = ws; actions = [] } ∷ [] }

-- "ANY not in" is not the opposite of "ANY in": of COLD and HOT together both are true
pub both_true : (holds (atom any_in everyone 2) cold_and_hot ≡ true) × (holds (atom any_not_in everyone 2) cold_and_hot ≡ true)
unfolding computing cold_and_hot
both_true = (refl, refl)

-- a STAY, with a MOVE_TO the own state behind it
unfoldable pub stays : Class
stays = with_clauses (always stay ∷ always (move_to 0) ∷ [])

-- a clause behind a true one is hidden: the probe finds the STAY, and no move is made
pub hidden_clause : (probe stays [] 0 ≡ found 0 stay) × (next stays [] 0 ≡ none)
unfolding computing always with_clauses stays
hidden_clause = (refl, refl)

-- a MOVE_TO the own state alone
unfoldable pub returns : Class
returns = with_clauses (always (move_to 0) ∷ [])

-- a move to the own state is a move: by it the state returns to itself, and its phase is answered by loop, not settled
pub own_move : (next returns [] 0 ≡ some 0) × Returns (next returns []) 0 × (phase returns [] 0 ≡ loops 0 1)
unfolding computing always with_clauses returns
own_move = (refl, (0, refl), refl)

-- a heater and, behind it, a pump: class 0 and class 1
unfoldable pub heater_and_pump : List Child
heater_and_pump = record { class = 0; name = 0 } ∷ record { class = 1; name = 0 } ∷ []

-- a sent command's place is the child's index in the whole list, not among the pattern's children
pub place_in_list : sent_to 4 (of_class 1) 0 heater_and_pump ≡ record { place = 1; command = 4 } ∷ []
unfolding computing heater_and_pump
place_in_list = refl

-- a move_to inside an if's part ends the clause: the do behind the if is not run
pub move_ends_clause : run_part (branch (atom any_not_in everyone 2) (go_to 1 then end) end then send 5 everyone then end) heater_and_pump ≡ record { sent = []; moved = some 1 }
unfolding computing heater_and_pump
move_ends_clause = refl

-- a state that runs its one action clause where any child is not in HOT; the clause has this command and body
unfoldable pub doing : ℕ → Part → State
doing m p = record { whens = record { guard = atom any_not_in everyone 2; referrer = run 0 } ∷ []; actions = record { command = m; body = p } ∷ [] }

-- a command sent
unfoldable pub told : ℕ → ℕ → Sent
told i m = record { place = i; command = m }

-- a DO that sends 4, moves to state 1, and would then send 5; there a DO that sends 6 and reaches no move_to
unfoldable pub moves_by_do : Class
moves_by_do = record { children = []; states = doing 9 (send 4 everyone then go_to 1 then send 5 everyone then end) ∷ doing 7 (send 6 everyone then end) ∷ [] }

-- the first DO moves the node, and that is one move; the second ends the phase and is named; what both sent stands in order, and nothing from
-- behind the move_to that was reached
pub do_moves_on : (next moves_by_do heater_and_pump 0 ≡ some 1)
    × (phase moves_by_do heater_and_pump 0 ≡ settled (by_do 7) 1 1 (told 0 4 ∷ told 1 4 ∷ told 0 6 ∷ told 1 6 ∷ []))
unfolding computing heater_and_pump doing told moves_by_do
do_moves_on = (refl, refl)

-- a DO that moves to the own state is a move: the phase loops, and sends nothing
unfoldable pub returns_by_do : Class
returns_by_do = record { children = []; states = doing 9 (send 4 everyone then go_to 0 then end) ∷ [] }

pub do_to_itself : Returns (next returns_by_do heater_and_pump) 0 × (phase returns_by_do heater_and_pump 0 ≡ loops 0 1)
unfolding computing heater_and_pump doing told returns_by_do
do_to_itself = ((0, refl), refl)

-- a handled command is followed by the when phase from the state that it leaves, an ignored one by that from the asked state; the command's
-- move_to is none of the phase's moves
pub phase_behind : (command_then_phase moves_by_do heater_and_pump 0 9
    ≡ record { handling = handled (told 0 4 ∷ told 1 4 ∷ []) 1; phase = settled (by_do 7) 1 0 (told 0 6 ∷ told 1 6 ∷ []) })
    × (command_then_phase moves_by_do heater_and_pump 0 5
    ≡ record { handling = ignored 0; phase = settled (by_do 7) 1 1 (told 0 4 ∷ told 1 4 ∷ told 0 6 ∷ told 1 6 ∷ []) })
unfolding computing heater_and_pump doing told moves_by_do
phase_behind = (refl, refl)

-- the command's own sends stand in front of the phase's; where the phase loops they alone are sent
pub own_sends_first : (sent_in_all (command_then_phase moves_by_do heater_and_pump 0 9) ≡ told 0 4 ∷ told 1 4 ∷ told 0 6 ∷ told 1 6 ∷ [])
    × (sent_in_all (command_then_phase returns_by_do heater_and_pump 0 9) ≡ told 0 4 ∷ told 1 4 ∷ [])
    × ((command_then_phase returns_by_do heater_and_pump 0 9).phase ≡ loops 0 1)
unfolding computing heater_and_pump doing told moves_by_do returns_by_do
own_sends_first = (refl, refl, refl)

-- what is given is written at the buffer's head, and the bytes behind it are kept; a refusal leaves the buffer as it was
pub buffers : (buffer_after {A = ℕ} (give 0 (1 ∷ 2 ∷ [])) (7 ∷ 8 ∷ 9 ∷ []) ≡ 1 ∷ 2 ∷ 9 ∷ []) × (buffer_after {A = ℕ} (refuse 15) (7 ∷ 8 ∷ []) ≡ 7 ∷ 8 ∷ [])
buffers = (refl, refl)
