-- The nine refusals of a sheet, in the paper's order.
-- Assumes nothing.
use Rattle.std.specs.Prelude.{ℕ, ◌≡◌, Bool, List}
use Rattle.model.specs.Words.{choose}
use Rattle.records.specs.Bytes.{in_fours, in_eights}
use Rattle.bodies.specs.BodyRules.{classes_right, counts_right, records_right, guards_right, targets_right, actions_right, statements_right}
use Rattle.sheet.specs.Contents.{Bodies, bodies, length_right, contents_right}

-- a check: its refusal, or what the checks behind it give; they are read only where it passed
abbrev pub checked : Bool → ℕ → (Unit {0} → ℕ) → ℕ
checked ok n rest = choose ok rest (λ _. n)

unfoldable pub refusal_in : Bodies → ℕ
refusal_in s =
    checked (classes_right s.classes) 3 λ _.
    checked (counts_right s.states (in_fours s.whens) (in_fours s.actions)) 4 λ _.
    checked (records_right (in_fours s.classes) s.guards) 5 λ _.
    checked (guards_right s.guards s.whens) 6 λ _.
    checked (targets_right s.states s.whens) 7 λ _.
    checked (actions_right s.states s.actions (in_eights s.statements)) 8 λ _.
    checked (statements_right (in_fours s.classes) (in_fours s.states) s.guards s.actions s.statements) 9 λ _. 0

-- the refusal of a byte string offered as a sheet; 0 where it is accepted
unfoldable pub refusal : List ℕ → ℕ
refusal b = checked (length_right b) 1 λ _. checked (contents_right b) 2 λ _. refusal_in (bodies b)

abbrev pub Accepted : List ℕ → Type 0
Accepted b = refusal b ≡ 0
