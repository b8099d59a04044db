-- Errors a reader would forgive at first sight, each contradicted by one closed statement.
-- Assumes nothing.
use mathlib.Core.Path.{◌≡◌, refl}
use mathlib.Core.List.{[], ◌∷◌}
use Rattle.model.specs.Running.{Sent}
use Rattle.model.specs.Node.{by_do, settled, loops}
use Rattle.model.specs.Replies.{refuse, give}
use Rattle.children.specs.ChildList.{sent_bytes}
use Rattle.phases.specs.Phasing.{bytes_of_phase, reply_phase, phasing_values}

-- command 4, sent to the child at place 258
unfoldable pub four : Sent
four = record { place = 258; command = 4 }

-- a phase that loops is answered even with an empty buffer, and its number of bytes is 0
pub loop_needs_no_room : (reply_phase (loops 0 2) [] ≡ give (loops 0 2) []) × (phasing_values (loops 0 2) ≡ 3 ∷ 0 ∷ 2 ∷ 0 ∷ [])
unfolding reply_phase bytes_of_phase phasing_values sent_bytes
loop_needs_no_room = (refl, refl)

-- one that settles writes what was sent, and is refused where a byte is missing
pub settled_needs_room : (reply_phase (settled (by_do 9) 1 0 (four ∷ [])) (7 ∷ 7 ∷ []) ≡ refuse 15)
    × (reply_phase (settled (by_do 9) 1 0 (four ∷ [])) (7 ∷ 7 ∷ 7 ∷ []) ≡ give (settled (by_do 9) 1 0 (four ∷ [])) (2 ∷ 1 ∷ 4 ∷ []))
    × (phasing_values (settled (by_do 9) 1 0 (four ∷ [])) ≡ 2 ∷ 1 ∷ 0 ∷ 3 ∷ 9 ∷ [])
unfolding reply_phase bytes_of_phase phasing_values sent_bytes four
settled_needs_room = (refl, refl, refl)
