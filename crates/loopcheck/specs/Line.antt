-- The one line that loopcheck prints of a sheet: the loop question's answer with all K classes present.
-- Assumes nothing.
use Rattle.std.specs.Prelude.{ℕ, ◌-◌, ◌^◌, ◌≡◌, List, [], length, take, drop, replicate, Ok, Err}
use Rattle.std.specs.Int.Count.{ones}
use Rattle.model.specs.Answers.{LoopAnswer}
use Rattle.model.specs.Tree.{Class}
use Rattle.model.specs.Crews.{child_classes}
use Rattle.model.specs.Replies.{Reply, refuse, give, numbers}
use Rattle.model.specs.declared.Loops.TheVariants.{Loop, Free}
use Rattle.sheet.specs.Asked.{on_sheet}
use Rattle.configurations.specs.LoopAnswer.{Loops}
use Rattle.loops.specs.LoopQuestion.{reply_loop, loops_values}
use Rattle.lines.specs.Lines.{loopcheck_line}

-- all K classes, as a byte of present classes
unfoldable pub all_present : Class → ℕ
all_present c = 2 ^ child_classes c - 1

-- the loop question's reply with all K classes present and a lent buffer
unfoldable pub loop_reply : List ℕ → List ℕ → Reply Loops
loop_reply b out = on_sheet b λ c. reply_loop c (all_present c) out

-- forty zeros, room for every list: there are at most 20 children
abbrev pub room : List ℕ
room = replicate 40 0

-- the bytes that a reply writes: the pairs of a loop's list
abbrev pub bytes_of : Reply Loops → List ℕ
bytes_of (refuse n) = []
bytes_of (give a bytes) = bytes

unfoldable pub line : List ℕ → List ℕ
line b = loopcheck_line (numbers loops_values (loop_reply b room)) (bytes_of (loop_reply b room))

-- the line stands in the first r bytes of the buffer, and those behind them are as they were
pub record Printed (b before after : List ℕ) (r : ℕ) : Type 0 where
  pub size : r ≡ length (line b)
  pub text : take r after ≡ line b
  pub kept : drop r after ≡ drop r before

-- how many children the list of an answer has: one for each set bit of a loop's configuration
abbrev pub children_in : LoopAnswer → ℕ
children_in (Err x) = 0
children_in (Ok (Free m)) = 0
children_in (Ok (Loop k q)) = ones k
