-- The answers that the code gives: their types, as the tree has them, and the paper's numbers of each case, 0 for no refusal in front.
-- Assumes nothing.
use Rattle.std.specs.Prelude.{ℕ, List, [], ◌∷◌, ◌++◌, Option, Some, None, Result, Ok, Err}
use Rattle.model.specs.declared.Refusal.{Refusal}
use Rattle.model.specs.declared.Misread.{Misread}
use Rattle.model.specs.declared.Misread.TheVariants.{Refused, WrongWord}
use Rattle.model.specs.Tree as Tree
use Rattle.model.specs.Node as Node
use Rattle.model.specs.Refusals.{number_of}
use Rattle.model.specs.Values.{probed_values, settled_values, loop_values}
use Rattle.model.specs.declared.Referrer.{Referrer}
use Rattle.model.specs.declared.Referrer.TheVariants.{MoveTo, Do, Stay}
use Rattle.model.specs.declared.Ending.{Ending}
use Rattle.model.specs.declared.Ending.TheVariants.{ByNone, ByStay, ByDo}
use Rattle.model.specs.declared.Phase.{Phase}
use Rattle.model.specs.declared.Phase.TheVariants.{Settled, Loops as Looping}
use Rattle.model.specs.declared.Handling.{Handling}
use Rattle.model.specs.declared.Handling.TheVariants.{Ignored, Handled}
use Rattle.model.specs.declared.Loops.{Loops}
use Rattle.model.specs.declared.Loops.TheVariants.{Loop, Free}

-- what a probe gives and by what a phase settles, as the tree has it
abbrev pub referrer_as : Referrer → Tree.Referrer
referrer_as (MoveTo t) = Tree.move_to t.0
referrer_as (Do a) = Tree.run a
referrer_as Stay = Tree.stay

-- what a probe finds
abbrev pub Probed : Type 0
Probed = Option (ℕ × Referrer)

abbrev pub probed_as : Probed → Node.Probed
probed_as None = Node.nothing
probed_as (Some (i, r)) = Node.found i (referrer_as r)

abbrev pub ending_as : Ending → Node.Ending
ending_as ByNone = Node.by_none
ending_as ByStay = Node.by_stay
ending_as (ByDo c) = Node.by_do c

-- a settled phase: by what, the state, the moves, the number of bytes written; a phase that loops has written none
abbrev pub phased_values : Phase → List ℕ
phased_values (Settled e q m n) = settled_values (ending_as e) q.0 m n
phased_values (Looping q m) = loop_values q.0 m

-- 0 ignored, 1 handled: the state that is left, the number of bytes of its own sends
abbrev pub handled_values : Handling → List ℕ
handled_values (Ignored q) = 0 ∷ q.0 ∷ 0 ∷ []
handled_values (Handled q n) = 1 ∷ q.0 ∷ n ∷ []

-- 0 free: the moves; 1 loop: configuration, state
abbrev pub looped_values : Loops → List ℕ
looped_values (Free m) = 0 ∷ m ∷ []
looped_values (Loop k q) = 1 ∷ k ∷ q.0 ∷ []

-- The answers to the questions about a sheet: what is given, or why it is refused. A command's has two parts: its handling, and the when
-- phase from the state that it leaves
abbrev pub JudgeAnswer : Type 0
JudgeAnswer = Result (Unit {0}) Refusal

abbrev pub ProbeAnswer : Type 0
ProbeAnswer = Result Probed Refusal

abbrev pub PhaseAnswer : Type 0
PhaseAnswer = Result Phase Refusal

abbrev pub CommandAnswer : Type 0
CommandAnswer = Result (Handling × Phase) Refusal

abbrev pub LoopAnswer : Type 0
LoopAnswer = Result Loops Refusal

-- the answer to a class text: the length of the sheet and the number of own states, or why it is not read
abbrev pub ReadAnswer : Type 0
ReadAnswer = Result (ℕ × ℕ) Misread

-- the answer to a sheet whose text is asked for: the number of bytes written
abbrev pub WriteAnswer : Type 0
WriteAnswer = Result ℕ Refusal

-- the paper's numbers of each answer: a refusal is its number alone
abbrev pub judge_numbers : JudgeAnswer → List ℕ
judge_numbers (Err x) = number_of x ∷ []
judge_numbers (Ok u) = 0 ∷ []

abbrev pub probe_numbers : ProbeAnswer → List ℕ
probe_numbers (Err x) = number_of x ∷ []
probe_numbers (Ok p) = 0 ∷ probed_values (probed_as p)

abbrev pub phase_numbers : PhaseAnswer → List ℕ
phase_numbers (Err x) = number_of x ∷ []
phase_numbers (Ok p) = 0 ∷ phased_values p

-- the command's own values, and behind them the phase's
abbrev pub command_numbers : CommandAnswer → List ℕ
command_numbers (Err x) = number_of x ∷ []
command_numbers (Ok (h, p)) = 0 ∷ (handled_values h ++ phased_values p)

abbrev pub loop_numbers : LoopAnswer → List ℕ
loop_numbers (Err x) = number_of x ∷ []
loop_numbers (Ok l) = 0 ∷ looped_values l

-- 16 and its place; 0, the length of the sheet and the number of own states
abbrev pub read_numbers : ReadAnswer → List ℕ
read_numbers (Err (Refused x)) = number_of x ∷ []
read_numbers (Err (WrongWord at)) = 16 ∷ at ∷ []
read_numbers (Ok (length, states)) = 0 ∷ length ∷ states ∷ []

-- 0 and the number of bytes written
abbrev pub write_numbers : WriteAnswer → List ℕ
write_numbers (Err x) = number_of x ∷ []
write_numbers (Ok n) = 0 ∷ n ∷ []
