-- The promises of this floor leave one answer and one content of the buffer.
-- Assumes nothing.
use mathlib.Core.Path.{◌≡◌, sym, ◌∙◌, ap}
use mathlib.Core.List.{List}
use Rattle.model.specs.Running.{Sent}
use Rattle.model.proofs.Words.{clash}
use Rattle.model.proofs.AnswerLaws.{same_state, same_ending, same_phase_answer}
use Rattle.model.proofs.ReplyLaws.{answered_once}
use Rattle.phases.specs.Phasing.{phasing_values}
use Rattle.phases.specs.Phases.{turn_as}
use Rattle.phases.specs.Unique.{Unique}
use Rattle.phases.specs.declared.Turn.{Turn}
use Rattle.phases.specs.declared.Turn.TheVariants.{Stops, Moves}
use Rattle.phases.specs.declared.Turned.{Turned}

same_turn : (xs : List Sent) (r s : Turn) → turn_as r xs ≡ turn_as s xs → r ≡ s
same_turn xs (Stops d) (Stops e) h = ap Stops (same_ending d e (cc))
same_turn xs (Stops d) (Moves t) h = absurd (clash (cc))
same_turn xs (Moves t) (Stops d) h = absurd (clash (cc))
same_turn xs (Moves t) (Moves u) h = ap Moves (same_state t u (cc))

same_turned : (r s : Turned) → r.turn ≡ s.turn → r.at ≡ s.at → r ≡ s
same_turned r s e f = λ i. record { turn = e i; at = f i }

pub unique : Unique
unique =
    record {
      turning = λ t before x y at r s g h. (
        same_turned r s (same_turn _ r.turn s.turn (g.turn_is ∙ sym h.turn_is)) (g.writes.place ∙ sym h.writes.place),
        g.writes.buffer ∙ sym h.writes.buffer,
      );
      phasing = λ b list q before x y r s g h. let (e, f) = answered_once phasing_values _ before _ _ x y g h in (same_phase_answer r s e, f);
    }
