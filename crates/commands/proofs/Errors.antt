-- Errors a reader would forgive at first sight, each contradicted by one closed statement.
-- Assumes nothing.
use mathlib.Core.Path.{◌≡◌, refl}
use mathlib.Core.List.{[], ◌∷◌}
use Rattle.model.specs.Running.{Sent}
use Rattle.model.specs.Node.{by_do, settled, loops}
use Rattle.model.specs.Commands.{handled, ignored, Commanded, sent_in_all}
use Rattle.model.specs.Replies.{refuse, give}
use Rattle.children.specs.ChildList.{sent_bytes}
use Rattle.phases.specs.Phasing.{phasing_values}
use Rattle.commands.specs.Handling.{bytes_of_handling, handling_values, bytes_of_commanded, reply_commanded, commanded_values}

-- commands 4 and 5, sent to the child at place 258
unfoldable pub four : Sent
four = record { place = 258; command = 4 }

unfoldable pub five : Sent
five = record { place = 258; command = 5 }

-- a command that sends 4, with a phase behind it that loops
unfoldable pub then_loops : Commanded
then_loops = record { handling = handled (four ∷ []) 1; phase = loops 0 2 }

-- its own bytes are written, and are all the room that it needs
pub loop_behind : (reply_commanded then_loops (7 ∷ 7 ∷ 7 ∷ []) ≡ give then_loops (2 ∷ 1 ∷ 4 ∷ [])) × (reply_commanded then_loops (7 ∷ 7 ∷ []) ≡ refuse 15)
    × (commanded_values then_loops ≡ 1 ∷ 1 ∷ 3 ∷ 3 ∷ 0 ∷ 2 ∷ 0 ∷ [])
unfolding then_loops four reply_commanded bytes_of_commanded sent_in_all sent_bytes commanded_values handling_values bytes_of_handling phasing_values
loop_behind = (refl, refl, refl)

-- a command that sends 4, with a phase behind it that a DO closes, which sends 5 twice
unfoldable pub then_does : Commanded
then_does = record { handling = handled (four ∷ []) 1; phase = settled (by_do 9) 0 1 (five ∷ five ∷ []) }

-- the command's bytes stand in front, each part has its own count, and the room is that of both
pub do_behind : (reply_commanded then_does (7 ∷ 7 ∷ 7 ∷ 7 ∷ 7 ∷ 7 ∷ 7 ∷ 7 ∷ 7 ∷ []) ≡ give then_does (2 ∷ 1 ∷ 4 ∷ 2 ∷ 1 ∷ 5 ∷ 2 ∷ 1 ∷ 5 ∷ []))
    × (reply_commanded then_does (7 ∷ 7 ∷ 7 ∷ 7 ∷ 7 ∷ 7 ∷ 7 ∷ 7 ∷ []) ≡ refuse 15) × (commanded_values then_does ≡ 1 ∷ 1 ∷ 3 ∷ 2 ∷ 0 ∷ 1 ∷ 6 ∷ 9 ∷ [])
unfolding then_does four five reply_commanded bytes_of_commanded sent_in_all sent_bytes commanded_values handling_values bytes_of_handling phasing_values
do_behind = (refl, refl, refl)

-- an ignored command needs the room of the phase behind it
unfoldable pub ignored_then_does : Commanded
ignored_then_does = record { handling = ignored 0; phase = settled (by_do 9) 0 0 (five ∷ []) }

pub ignored_needs_room : (reply_commanded ignored_then_does (7 ∷ 7 ∷ []) ≡ refuse 15) × (reply_commanded ignored_then_does (7 ∷ 7 ∷ 7 ∷ []) ≡ give ignored_then_does (2 ∷ 1 ∷ 5 ∷ []))
    × (commanded_values ignored_then_does ≡ 0 ∷ 0 ∷ 0 ∷ 2 ∷ 0 ∷ 0 ∷ 3 ∷ 9 ∷ [])
unfolding ignored_then_does five reply_commanded bytes_of_commanded sent_in_all sent_bytes commanded_values handling_values bytes_of_handling phasing_values
ignored_needs_room = (refl, refl, refl)
