-- The promises of the face leave one answer, and one content of each lent buffer, for any input, refused calls too.
-- Assumes nothing.
use Rattle.std.specs.Prelude.{ℕ, ◌≡◌, List}
use Rattle.readings.specs.Readings.{Lent}
use Rattle.readings.specs.Promise.{Answered}
use Rattle.bargewicker.specs.Questions.{Question}
use Rattle.bargewicker.specs.Promises.{AnswerTo, Promised}
use Rattle.model.specs.Answers.{ReadAnswer}

pub record Unique : Type 0 where
  -- of each of the six questions on a sheet: two answers, and two contents of the buffer after the call, are one
  pub sheets : (q : Question) (r s : AnswerTo q) (x y : List ℕ) → Promised q r x → Promised q s y → (r ≡ s) × (x ≡ y)
  -- of a class text: two answers, and two contents of each of both buffers, are one
  pub texts : (q : Lent) (r s : ReadAnswer) (x y u v : List ℕ) → Answered q r x y → Answered q s u v → (r ≡ s) × (x ≡ u) × (y ≡ v)
