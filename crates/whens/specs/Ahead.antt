-- Guard places, numbers that were looked for, records cut to bytes.
-- Assumes nothing.
use Rattle.std.specs.Prelude.{ℕ, ◌+◌, ◌%◌, Bool, ◌&&◌, Option, Some, None, List, leb}
use Rattle.model.specs.Words.{choose}
use Rattle.grammar.specs.Grammar.{Name}
use Rattle.lists.specs.Lent.{found_from}
use Rattle.encoding.specs.Records.{Four, Eight, four, eight}

-- the words that stand for a guard record: and, or, not, in_state, not_in_state
abbrev pub guard_kind : ℕ → Bool
guard_kind k = leb 15 k && leb k 19

-- the number of guard records before the next word, where n stand before a word of that kind
unfoldable pub guards_after : ℕ → ℕ → ℕ
guards_after n k = choose (guard_kind k) (λ _. n + 1) (λ _. n)

-- the number that was found, or 0
abbrev pub found_number : Option ℕ → ℕ
found_number (Some i) = i
found_number None = 0

-- the number of a name among others; 0 where it is none of them
abbrev pub number_among : List Name → Name → ℕ
number_among ns n = found_number (found_from 0 ns n)

-- a record whose numbers are cut to bytes
abbrev pub low4 : Four → Four
low4 r = four (r.b0 % 256) (r.b1 % 256) (r.b2 % 256) (r.b3 % 256)

abbrev pub low8 : Eight → Eight
low8 r = eight (low4 r.front) (low4 r.back)
