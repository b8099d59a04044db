-- What the writer of guards promises.
-- Assumes nothing.
use Rattle.std.specs.Prelude.{ℕ, ◌≡◌, List, [], Option, Some, None}
use Rattle.model.specs.Tree.{Guard}
use Rattle.grammar.specs.Words.{spelled}
use Rattle.pen.specs.Writing.{Puts}
use Rattle.records.specs.GuardRecords.{Read, got, broken, guard_from}
use Rattle.records.specs.declared.guards.Operator.{Operator}
use Rattle.records.specs.declared.guards.Operator.TheVariants.{Both, Either, Opposite}
use Rattle.writings.specs.Layout.{guard_text}

-- what stands before the first operand
unfoldable pub opening : Operator → List ℕ
opening Both = spelled "( "
opening Either = spelled "( "
opening Opposite = spelled "( not "

-- what stands between two operands
unfoldable pub between : Operator → List ℕ
between Both = spelled " and "
between Either = spelled " or "
between Opposite = []

-- what was read is written, and the answer says where the text and the guard end; or that the guard is broken
unfoldable pub Writes : List ℕ → List ℕ → Read → List ℕ → ℕ → List ℕ → Option (ℕ × ℕ) → Type 0
Writes names classes (got t e) before at after r = (p : ℕ) × (r ≡ Some (p, e)) × Puts (guard_text names classes t) before at after p
Writes names classes broken before at after r = r ≡ None

-- the text of the guard that begins at a place is written, where one does
abbrev pub PutsGuard : List ℕ → ℕ → List ℕ → List ℕ → List ℕ → ℕ → List ℕ → ℕ → Type 0
PutsGuard g place names classes before at after r = (t : Guard) (e : ℕ) → guard_from g place ≡ got t e → Puts (guard_text names classes t) before at after r
