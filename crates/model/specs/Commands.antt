-- The handling of a command: the state's action clause for it is run, or it is ignored; and a command with the when phase behind it.
-- Assumes nothing.
use Rattle.std.specs.Prelude.{ℕ, List, [], ◌∷◌, ◌++◌, eqb}
use Rattle.std.proofs.Math.Option.{Option, none, some}
use Rattle.model.specs.Words.{choose, maybe}
use Rattle.model.specs.Tree.{Child, Part, Action, Class}
use Rattle.model.specs.Running.{Sent, Ran, run_part}
use Rattle.model.specs.Node.{state_of, Phase, phase, sent_of}

-- the state's action clause for a command
unfoldable pub clause_for : ℕ → List Action → Option Part
clause_for m [] = none
clause_for m (a ∷ rest) = choose (eqb a.command m) (λ _. some a.body) (λ _. clause_for m rest)

-- handled: the commands sent and the state; ignored: the state, which is kept
pub data Handling : Type 0 where
  handled : List Sent → ℕ → Handling
  ignored : ℕ → Handling

abbrev pub handled_by : ℕ → Ran → Handling
handled_by q r = handled r.sent (maybe r.moved (λ _. q) (λ t. t))

unfoldable pub command : Class → List Child → ℕ → ℕ → Handling
command c ks q m = maybe (clause_for m (state_of c q).actions) (λ _. ignored q) (λ p. handled_by q (run_part p ks))

-- the state that a command leaves, and its own sends
abbrev pub left_by : Handling → ℕ
left_by (handled sent q) = q
left_by (ignored q) = q

abbrev pub own_sends : Handling → List Sent
own_sends (handled sent q) = sent
own_sends (ignored q) = []

-- what a request for a command comes to: the handling of the command, and the when phase behind it
pub record Commanded : Type 0 where
  pub handling : Handling
  pub phase : Phase

-- first the command; then, be it handled or ignored, the when phase from the state that it leaves
unfoldable pub command_then_phase : Class → List Child → ℕ → ℕ → Commanded
command_then_phase c ks q m = let h = command c ks q m in record { handling = h; phase = phase c ks (left_by h) }

-- all that is sent: the command's own, and behind it the phase's; a phase that loops sends nothing
unfoldable pub sent_in_all : Commanded → List Sent
sent_in_all r = own_sends r.handling ++ sent_of r.phase
