-- What the code that writes statements as text leaves in the lent buffer.
-- Assumes nothing.
use Rattle.std.specs.Prelude.{ℕ, ◌+◌, ◌≤◌, ◌≡◌, List, ◌++◌, length}
use Rattle.model.specs.Tree.{Pattern, Guard, Statement, Part, ◌then◌}
use Rattle.grammar.specs.Words.{spelled}
use Rattle.records.specs.GuardRecords.{got, guard_from}
use Rattle.bodies.specs.PartChecks.{Reads}
use Rattle.naming.specs.NameLists.{Lists}
use Rattle.pen.specs.Writing.{last_place, Puts}
use Rattle.writings.specs.Layout.{name_at, line, kin_text, guard_text, part_text, statement_text}

-- the line of a do, and of a move_to
unfoldable pub do_line : ℕ → List ℕ → List ℕ → ℕ → Pattern → List ℕ
do_line v commands classes m p = line v (spelled "do " ++ name_at 32 commands m ++ spelled " $ALL$" ++ kin_text classes p)

unfoldable pub move_line : ℕ → List ℕ → ℕ → List ℕ
move_line v own q = line v (spelled "move_to " ++ name_at 32 own q)

-- the line that an if begins with
unfoldable pub if_line : ℕ → List ℕ → List ℕ → Guard → List ℕ
if_line v names classes g = line v (spelled "if " ++ guard_text names classes g ++ spelled " then")

-- it was written, whose guard begins at a place
abbrev pub PutsHead : List ℕ → ℕ → ℕ → List ℕ → List ℕ → List ℕ → ℕ → List ℕ → ℕ → Type 0
PutsHead g place v names classes before at after r =
    (t : Guard) (e : ℕ) → guard_from g place ≡ got t e → Puts (if_line v names classes t) before at after r

-- the part that the list reads as was written at a level
abbrev pub PutsPart : List ℕ → List ℕ → ℕ → List ℕ → Lists → List ℕ → ℕ → List ℕ → ℕ → Type 0
PutsPart g part v own l before at after r = (p : Part) → Reads g part p → Puts (part_text own l p v) before at after r

-- the statement that it begins with was written
abbrev pub PutsIf : List ℕ → List ℕ → ℕ → List ℕ → Lists → List ℕ → ℕ → List ℕ → ℕ → Type 0
PutsIf g part v own l before at after r = (s : Statement) (p : Part) → Reads g part (s then p) → Puts (statement_text own l s v) before at after r

-- the level of every part inside can be counted
abbrev pub Levelled : ℕ → List ℕ → Type 0
Levelled v part = v + length part ≤ last_place
