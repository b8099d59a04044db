-- Laws about parts in bytes: a list of statement records reads as a part one statement at a time.
-- Assumes nothing.
use Prim.Native.Nat.{ℕ, zero, suc, ◌+◌, ◌-◌, ◌/◌, ◌<◌, ◌≤◌}
use native.Mathlib.Omega.{arith}
use mathlib.Core.Path.{◌≡◌, refl, ◌∙◌, ap}
use mathlib.Core.Bool.{true, false, ◌&&◌}
use mathlib.Core.List.{List, [], ◌∷◌}
use mathlib.Core.Option.{Option, none, some}
use lib.ListN.{length, take, drop, length-drop}
use lib.Seq.{get_or-take, drop-drop}
use Rattle.model.specs.Words.{maybe, is_some}
use Rattle.model.specs.Tree.{Statement, Part, end, ◌then◌}
use Rattle.records.specs.Bytes.{byte, records}
use Rattle.bodies.specs.StatementRecords.{part_length, statement_from, part_with, part_at}
use Rattle.bodies.specs.StatementReaders.{statement_record, records_beside, behind_statement}
use Rattle.bodies.specs.PartChecks.{part_right, parts_of, statement_right}
use Rattle.bodies.specs.declared.statements.StatementRecord.{StatementRecord}
use Rattle.records.proofs.Bytes.{length_records, u16_take, whole, drop_whole, whole_front}
use Rattle.bodies.proofs.ReaderLaws.{length_told}

-- something is made of two values exactly if both are there
pub both_there {ℓ κ μ} : {A : Type ℓ} {B : Type κ} {C : Type μ} (o : Option A) (p : Option B) (f : A → B → C)
    → is_some (maybe o (λ _. none) (λ a. maybe p (λ _. none) (λ b. some (f a b)))) ≡ (is_some o && is_some p)
both_there none p f = refl
both_there (some a) none f = refl
both_there (some a) (some b) f = refl

-- and nothing is made where the second never is
not_made {ℓ κ} : {A : Type ℓ} {B : Type κ} (o : Option A) → maybe {B = Option B} o (λ _. none) (λ _. none) ≡ none
not_made none = refl
not_made (some a) = refl

module _ (statement : List ℕ → List (List ℕ) → Option Statement) where
  -- records that are skipped are not read
  part_skip : (n : ℕ) (rs : List (List ℕ)) → n ≤ length rs → part_with statement n rs ≡ part_with statement 0 (drop n rs)
  unfolding part_with
  part_skip zero rs l = refl
  part_skip (suc n) [] l = absurd (omega arith)
  part_skip (suc n) (r ∷ rest) l = part_skip n rest (omega arith)

  -- and there is no part where there are fewer
  part_past : (n : ℕ) (rs : List (List ℕ)) → length rs < n → part_with statement n rs ≡ none
  unfolding part_with
  part_past zero rs l = absurd (omega arith)
  part_past (suc n) [] l = refl
  part_past (suc n) (r ∷ rest) l = part_past n rest (omega arith)

-- the reader at a depth reads an if's parts by the one a depth less
part_at_parts : (d K S : ℕ) (gs : List ℕ) (rs : List (List ℕ)) → part_at d K S gs rs ≡ part_with (statement_from K S gs (parts_of d K S gs)) 0 rs
unfolding part_at parts_of
part_at_parts zero K S gs rs = refl
part_at_parts (suc d) K S gs rs = refl

-- a byte of the first record is that of the whole, so the first record has the lengths that the whole has
pub front : (s : List ℕ) (j : ℕ) → j < 8 → byte (take 8 s) j ≡ byte s j
front s j l = get_or-take 8 s j 0 l

front_length : (s : List ℕ) → part_length (take 8 s) ≡ part_length s
front_length s = rw (front s 0 (omega arith), u16_take 8 s 4 (omega arith), u16_take 8 s 6 (omega arith))

module _ (d K S : ℕ) (gs part : List ℕ) where
  -- the part that its records stand for, and the statement that the first of them stands for
  abbrev pub part_of : Option Part
  part_of = part_at d K S gs (whole part)

  abbrev pub first_of : Option Statement
  first_of = statement_from K S gs (parts_of d K S gs) (take 8 part) (drop 1 (whole part))

  -- fewer bytes than a record are a part with no statement
  pub part_empty : length part < 8 → part_of ≡ some end
  unfolding records part_with
  part_empty l = let e : length part / 8 ≡ 0 = omega arith in rw (e, part_at_parts d K S gs [])

  module _ (r : StatementRecord) (e : r ≡ statement_record part) (l : 8 ≤ length part) where
    -- else a part is its first statement, and what that one's parts leave of the records
    opened : part_of ≡ maybe first_of (λ _. none) (λ s. maybe (part_with (statement_from K S gs (parts_of d K S gs)) (records_beside r) (drop 1 (whole part))) (λ _. none) (λ p. some (s then p)))
    unfolding part_with
    opened = rw (whole_front part l, part_at_parts d K S gs (take 8 part ∷ drop 1 (whole part)), length_told part r e l, ← front_length part)

    behind_count : length (drop 1 (whole part)) ≡ length part / 8 - 1
    behind_count = length-drop 1 (whole part) ∙ ap (λ (n : ℕ). n - 1) (length_records (length part / 8) part)

    -- no part where the first statement's parts are cut off
    pub part_cut : length part / 8 ≤ records_beside r → part_of ≡ none
    part_cut h = opened ∙ rw (part_past (statement_from K S gs (parts_of d K S gs)) (records_beside r) (drop 1 (whole part)) (omega (arith, behind_count))) (not_made first_of)

    -- else the first statement with its parts, and the part behind it
    pub part_step : records_beside r < length part / 8 → part_of ≡ maybe first_of (λ _. none) (λ s. maybe (part_at d K S gs (whole (behind_statement r part))) (λ _. none) (λ p. some (s then p)))
    part_step h =
        opened
        ∙ rw (part_skip (statement_from K S gs (parts_of d K S gs)) (records_beside r) (drop 1 (whole part)) (omega (arith, behind_count)), drop-drop (records_beside r) 1 (whole part))
        (rw (← drop_whole (1 + records_beside r) part, part_at_parts d K S gs (whole (behind_statement r part))))

-- what the judge asks of a part, in the order of its tests
module _ (d K S : ℕ) (gs part : List ℕ) where
  pub right_first : statement_right d K S gs part ≡ is_some (first_of d K S gs part)
  unfolding statement_right
  right_first =
      let e : length part / 8 - 1 ≡ length (drop 8 part) / 8 = omega (arith, length-drop 8 part) in
      rw (e, drop_whole 1 part)

  pub right_empty : length part < 8 → part_right d K S gs part ≡ true
  unfolding part_right
  right_empty l = rw (part_empty d K S gs part l)

  module _ (r : StatementRecord) (e : r ≡ statement_record part) (l : 8 ≤ length part) where
    pub right_cut : length part / 8 ≤ records_beside r → part_right d K S gs part ≡ false
    unfolding part_right
    right_cut h = rw (part_cut d K S gs part r e l h)

    right_step : records_beside r < length part / 8 → part_right d K S gs part ≡ (statement_right d K S gs part && part_right d K S gs (behind_statement r part))
    unfolding part_right
    right_step h =
        rw (part_step d K S gs part r e l h, right_first)
        (both_there (first_of d K S gs part) (part_of d K S gs (behind_statement r part)) ◌then◌)

    pub right_broken : records_beside r < length part / 8 → statement_right d K S gs part ≡ false → part_right d K S gs part ≡ false
    right_broken h f = right_step h ∙ rw f

    pub right_goes_on : (p : List ℕ) → p ≡ behind_statement r part → records_beside r < length part / 8 → statement_right d K S gs part ≡ true → part_right d K S gs part ≡ part_right d K S gs p
    right_goes_on p ep h t = right_step h ∙ rw (t, ep)
