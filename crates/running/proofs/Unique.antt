-- The promise of this floor leaves one answer and one content of the buffer.
-- Assumes nothing.
use mathlib.Core.Path.{◌≡◌, refl, sym, ◌∙◌, ap}
use Rattle.std.specs.Prelude.{Some, None}
use Rattle.model.proofs.Words.{clash}
use Rattle.model.proofs.AnswerLaws.{same_state}
use Rattle.running.specs.Running.{Moved, moved_as}
use Rattle.running.specs.Unique.{Unique}
use Rattle.running.specs.declared.Ran.{Ran}

same_move : (m n : Moved) → moved_as m ≡ moved_as n → m ≡ n
same_move None None e = refl
same_move None (Some t) e = absurd (clash (cc))
same_move (Some t) None e = absurd (clash (cc))
same_move (Some t) (Some u) e = ap Some (same_state t u (cc))

same_ran : (r s : Ran) → r.at ≡ s.at → r.moved ≡ s.moved → r ≡ s
same_ran r s e f = λ i. record { at = e i; moved = f i }

pub unique : Unique
unique =
    record {
      running = λ t before x y at r s g h. (
        same_ran r s (g.writes.place ∙ sym h.writes.place) (same_move r.moved s.moved (g.moved ∙ sym h.moved)),
        g.writes.buffer ∙ sym h.writes.buffer,
      );
    }
