-- A command with the when phase behind it as a reply: refusal 15, what it gives, and the bytes that it writes.
-- Assumes nothing.
use Rattle.std.specs.Prelude.{ℕ, List, [], ◌∷◌, ◌++◌, length}
use Rattle.model.specs.Commands.{Handling, handled, ignored, own_sends, Commanded, sent_in_all}
use Rattle.model.specs.Replies.{Reply, in_room}
use Rattle.children.specs.ChildList.{sent_bytes}
use Rattle.phases.specs.Phasing.{phasing_values}

-- the command's own bytes
unfoldable pub bytes_of_handling : Handling → List ℕ
bytes_of_handling h = sent_bytes (own_sends h)

-- the paper's values: 0 ignored, 1 handled, with the state that is left and the number of its own bytes
unfoldable pub handling_values : Handling → List ℕ
handling_values (ignored q) = 0 ∷ q ∷ 0 ∷ []
handling_values (handled sent q) = 1 ∷ q ∷ length (bytes_of_handling (handled sent q)) ∷ []

-- what is written: the command's own bytes and, directly behind them, the phase's; where the phase loops, the command's alone
unfoldable pub bytes_of_commanded : Commanded → List ℕ
bytes_of_commanded r = sent_bytes (sent_in_all r)

-- 15: the room for what is written
unfoldable pub reply_commanded : Commanded → List ℕ → Reply Commanded
reply_commanded r out = in_room r (bytes_of_commanded r) out

-- the paper's values: the command's, and behind them the phase's
unfoldable pub commanded_values : Commanded → List ℕ
commanded_values r = handling_values r.handling ++ phasing_values r.phase
