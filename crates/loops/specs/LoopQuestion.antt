-- The loop question of a class: refusals 13, 14 and 15, its answer, and the list that a loop writes.
-- Assumes nothing.
use Rattle.std.specs.Prelude.{ℕ, ◌*◌, Bool, ◌||◌, not, List, [], ◌∷◌, leb, ltb, length}
use Rattle.model.specs.Words.{has, each}
use Rattle.model.specs.Tree.{Class}
use Rattle.model.specs.Crews.{child_classes}
use Rattle.model.specs.Replies.{Reply, give, check}
use Rattle.children.specs.ChildList.{pairs}
use Rattle.configurations.specs.Configurations.{name_count}
use Rattle.configurations.specs.LoopAnswer.{Loops, loop, free, loop_answer}

-- no bit of a byte is at or over n
unfoldable pub bits_below : ℕ → ℕ → Bool
bits_below present n = each 8 (λ i. not (has present i) || ltb i n)

-- a present bit is below K
unfoldable pub present_right : Class → ℕ → Bool
present_right c present = bits_below present (child_classes c)

-- a loop writes its list
unfoldable pub bytes_of_loops : Loops → List ℕ
bytes_of_loops (loop k q ks) = pairs ks
bytes_of_loops (free m) = []

-- 13, 14 and 15: the present bits, N, and two bytes for each of N
unfoldable pub reply_loop : Class → ℕ → List ℕ → Reply Loops
reply_loop c present out =
    check (present_right c present) 13 λ _. check (leb (name_count c present) 20) 14 λ _. check (leb (2 * name_count c present) (length out)) 15 λ _.
    let a : Loops = loop_answer c present in
    give a (bytes_of_loops a)

-- the paper's values: 0 free, the moves; 1 loop, configuration and state
abbrev pub loops_values : Loops → List ℕ
loops_values (free m) = 0 ∷ m ∷ []
loops_values (loop k q ks) = 1 ∷ k ∷ q ∷ []
