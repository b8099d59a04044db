-- The answer to a class text that is to be written, and the buffer after the call, make the line.
-- Assumes nothing.
use Prim.Native.Nat.{ℕ}
use mathlib.Core.List.{List}
use Rattle.model.specs.Replies.{Answered}
use Rattle.bargewicker.specs.Questions.{text_of, reply}
use Rattle.bargewicker.specs.Numbers.{values}
use Rattle.writings.specs.Layout.{Named}
use Rattle.texts.specs.Texts.{Appended}
use Rattle.lines.specs.Lines.{write_line}
use Rattle.askwrite.specs.AskWrite.{line_of_written}

pub written_put : (l m : List ℕ) (end : ℕ) (b : List ℕ) (n : Named) (out ns after : List ℕ) → Answered values (reply (text_of b n out)) out ns after
    → Appended l m 0 (write_line ns after) end → Appended l m 0 (line_of_written b n out) end
unfolding line_of_written
written_put l m end b n out ns after h a = rw (h.numbers_are, h.buffer_is) at a
