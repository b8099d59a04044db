-- The paper's numbers of the rules' answer to a question: 0 for no refusal, then which case, then its values.
-- Assumes nothing.
use Rattle.std.specs.Prelude.{ℕ, List, []}
use Rattle.model.specs.Values.{probed_values}
use Rattle.model.specs.Replies.{numbers}
use Rattle.commands.specs.Handling.{commanded_values}
use Rattle.phases.specs.Phasing.{phasing_values}
use Rattle.loops.specs.LoopQuestion.{loops_values}
use Rattle.writings.specs.Writings.{text_values}
use Rattle.bargewicker.specs.Questions.{Question, Answer, accepted, probed, phased, commanded, looped, wrote, reply}

unfoldable pub values : Answer → List ℕ
values accepted = []
values (probed p) = probed_values p
values (phased p) = phasing_values p
values (commanded r) = commanded_values r
values (looped a) = loops_values a
values (wrote n) = text_values n

abbrev pub numbers_for : Question → List ℕ
numbers_for q = numbers values (reply q)
