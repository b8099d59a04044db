-- The answer of specs/Readings.antt as a function of what is lent: the machine of the grammar reads the words. It is the same answer
-- (computed-answers, in proofs/ComputedLaws.antt), so nothing here is believed that is not said there.
-- Assumes nothing.
use Rattle.std.specs.Prelude.{ℕ, List, [], ◌∷◌, length}
use Rattle.model.specs.Words.{maybe}
use Rattle.grammar.specs.Words.{Word, words}
use Rattle.grammar.specs.Machine as Machine
use Rattle.readings.specs.Readings.{Lent, Reading, wrong, refused, read, Outcome, unwritten, outcome}

-- behind the last word: the text has been read, or is cut short
unfoldable pub at_end : Lent → Machine.Outcome → Outcome
at_end q (Machine.read t) = outcome q t
at_end q (Machine.refused rest) = unwritten q (wrong (length q.text))

-- the words that are left, from a place of the machine on: 16 at the start of the first for which it has no move
unfoldable pub over : Lent → Machine.At → List Word → Outcome
over q s [] = at_end q (Machine.end_of s)
over q s (w ∷ ws) = maybe (Machine.next (Machine.moves s) w.token) (λ _. unwritten q (wrong w.start)) (λ t. over q t ws)

unfoldable pub computed : Lent → Outcome
computed q = over q Machine.start (words q.text)

-- an answer's numbers: 16 and its place; a refusal's alone; 0, the length of the sheet and the number of own states
abbrev pub numbers_in : Reading → List ℕ
numbers_in (wrong place) = 16 ∷ place ∷ []
numbers_in (refused n) = n ∷ []
numbers_in (read length states) = 0 ∷ length ∷ states ∷ []
