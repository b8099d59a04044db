-- Statement records: their layout, parts and depth, and the part that a list of records stands for.
-- Assumes nothing.
use Rattle.std.specs.Prelude.{ℕ, zero, suc, ◌+◌, Bool, ◌&&◌, List, [], ◌∷◌, eqb, leb, ltb, take, drop}
use Rattle.std.proofs.Math.Option.{Option, none, some}
use Rattle.model.specs.Words.{choose, maybe}
use Rattle.model.specs.Tree.{Statement, send, go_to, branch, Part, end, ◌then◌}
use Rattle.records.specs.Bytes.{byte, u16, u32}
use Rattle.records.specs.GuardRecords.{pattern_right, pattern_of, guard_from, by_read}

-- kind 0, do: a command 0 to 63, a pattern, the rest 0
abbrev pub do_right : ℕ → List ℕ → Bool
do_right K r = leb (byte r 1) 63 && (pattern_right K (byte r 2) && (eqb (byte r 3) 0 && eqb (u32 r 4) 0))

-- kind 1, move_to: an own state, the rest 0
abbrev pub move_right : ℕ → List ℕ → Bool
move_right S r = ltb (byte r 1) S && (eqb (u16 r 2) 0 && eqb (u32 r 4) 0)

-- the lengths of an if's two parts, in records
abbrev pub then_length : List ℕ → ℕ
then_length r = u16 r 4

abbrev pub else_length : List ℕ → ℕ
else_length r = u16 r 6

-- the records that belong to an if beside its own; none to another statement
abbrev pub part_length : List ℕ → ℕ
part_length r = choose (eqb (byte r 0) 2) (λ _. then_length r + else_length r) (λ _. 0)

-- kind 2, if: a zero byte, its guard; the then-part follows at once, the else-part after it; `part` reads a part
unfoldable pub if_from : List ℕ → (List (List ℕ) → Option Part) → List ℕ → List (List ℕ) → Option Statement
if_from gs part r rest =
    by_read (guard_from gs (u16 r 2)) (λ _. none)
    (λ g _. maybe (part (take (then_length r) rest)) (λ _. none)
    (λ a. maybe (part (take (else_length r) (drop (then_length r) rest))) (λ _. none) (λ b. some (branch g a b))))

-- the statement of record r, where `rest` are the records behind it
unfoldable pub statement_from : ℕ → ℕ → List ℕ → (List (List ℕ) → Option Part) → List ℕ → List (List ℕ) → Option Statement
statement_from K S gs part r rest =
    choose (eqb (byte r 0) 0) (λ _. choose (do_right K r) (λ _. some (send (byte r 1) (pattern_of (byte r 2)))) (λ _. none))
    (λ _. choose (eqb (byte r 0) 1) (λ _. choose (move_right S r) (λ _. some (go_to (byte r 1))) (λ _. none))
    (λ _. choose (eqb (byte r 0) 2 && eqb (byte r 1) 0) (λ _. if_from gs part r rest) (λ _. none)))

-- the statements of a list of records, of which the first n belong to an if before; parts stay inside the list
unfoldable pub part_with : (List ℕ → List (List ℕ) → Option Statement) → ℕ → List (List ℕ) → Option Part
part_with statement zero [] = some end
part_with statement (suc n) [] = none
part_with statement zero (r ∷ rest) =
    maybe (statement r rest) (λ _. none) (λ s. maybe (part_with statement (part_length r) rest) (λ _. none) (λ p. some (s then p)))
part_with statement (suc n) (r ∷ rest) = part_with statement n rest

-- the part that a list of records stands for, with ifs at most d deep
unfoldable pub part_at : ℕ → ℕ → ℕ → List ℕ → List (List ℕ) → Option Part
part_at zero K S gs rs = part_with (statement_from K S gs (λ _. none)) 0 rs
part_at (suc d) K S gs rs = part_with (statement_from K S gs (part_at d K S gs)) 0 rs
