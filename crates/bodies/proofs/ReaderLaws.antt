-- Laws about the readers of statement records: what a record tells of the bytes that it was read of, and that a list gets shorter by what
-- is cut of it.
-- Assumes nothing.
use Prim.Native.Nat.{ℕ, zero, suc, ◌+◌, ◌*◌, ◌<◌, ◌≤◌}
use native.Mathlib.Omega.{arith}
use mathlib.Core.Path.{◌≡◌, refl, sym, ap, subst}
use mathlib.Core.Bool.{Bool, true, false}
use mathlib.Core.List.{List}
use lib.Dec.{eqb, ltb}
use lib.ListN.{length, get_or, drop, length-take, length-drop}
use borrow.Author.Tests.{ltb-true, ltb-false, lt-ltb, ne_eqb}
use Rattle.model.specs.Words.{choose}
use Rattle.model.specs.Tree.{everyone, of_class}
use Rattle.records.specs.Bytes.{byte, u16, records_from}
use Rattle.records.specs.GuardRecords.{pattern_of}
use Rattle.records.specs.Patterns.{pattern_as, pattern_read}
use Rattle.bodies.specs.StatementRecords.{part_length}
use Rattle.bodies.specs.StatementReaders.{by_kind, statement_record, records_beside, behind_statement}
use Rattle.records.specs.declared.kinds.Pattern.TheVariants.{Everyone, OfClass}
use Rattle.bodies.specs.declared.statements.StatementRecord.{StatementRecord}
use Rattle.bodies.specs.declared.statements.StatementRecord.TheVariants.{Do, MoveTo, If, Unknown}

-- the pattern that is read of a byte is the tree's
pub pattern_told : (p : ℕ) → pattern_as (pattern_read p) ≡ pattern_of p
pattern_told p = go (eqb p 255)
  where
    go : (b : Bool) → pattern_as (choose b (λ _. Everyone) (λ _. OfClass (record { 0 = p }))) ≡ choose b (λ _. everyone) (λ _. of_class p)
    go true = refl
    go false = refl

-- what the record at the front of a list tells of its bytes
abbrev pub Told : List ℕ → StatementRecord → Type 0
Told part (Do m c) = (8 ≤ length part) × (byte part 0 ≡ 0) × (m ≡ byte part 1) × (pattern_as c ≡ pattern_of (byte part 2))
Told part (MoveTo t) = (8 ≤ length part) × (byte part 0 ≡ 1) × (t.0 ≡ byte part 1)
Told part (If b) = (8 ≤ length part) × (byte part 0 ≡ 2) × (b.guard ≡ u16 part 2) × (b.thens ≡ u16 part 4) × (b.elses ≡ u16 part 6)
Told part Unknown = 8 ≤ length part → 3 ≤ byte part 0

module _ (part : List ℕ) where
  -- where there is none
  pub record_none : length part < 8 → Unknown ≡ statement_record part
  unfolding statement_record
  record_none l = rw (lt-ltb (length part) 8 l)

  -- what it tells
  pub told : (r : StatementRecord) → r ≡ statement_record part → Told part r
  unfolding statement_record
  told r e = subst (Told part) (sym e) (at (ltb (length part) 8) refl (byte part 0) refl)
    where
      at : (b : Bool) → ltb (length part) 8 ≡ b → (k : ℕ) → byte part 0 ≡ k → Told part (choose b (λ _. Unknown) (λ _. get_or (by_kind part) k Unknown))
      at true t k h = λ l. absurd (let z = ltb-true (length part) 8 t in omega arith)
      at false t zero h = (ltb-false (length part) 8 t, h, refl, pattern_told (byte part 2))
      at false t (suc zero) h = (ltb-false (length part) 8 t, h, refl)
      at false t (suc (suc zero)) h = (ltb-false (length part) 8 t, h, refl, refl, refl)
      at false t (suc (suc (suc k))) h = λ l. omega arith

  -- the lengths of its parts are those that the definition goes by
  pub length_told : (r : StatementRecord) → r ≡ statement_record part → 8 ≤ length part → records_beside r ≡ part_length part
  length_told r e l = at r (told r e)
    where
      at : (r : StatementRecord) → Told part r → records_beside r ≡ part_length part
      at (Do m c) (x, k, y, z) = rw k
      at (MoveTo t) (x, k, y) = rw k
      at (If b) (x, k, g, t, s) = rw (k, t, s)
      at Unknown k = rw (ne_eqb (byte part 0) 2 (λ z. let h = k l in omega arith))

-- a list that has a record gets shorter by what is cut of it
pub behind_falls : (r : StatementRecord) (part p : List ℕ) → 8 ≤ length part → p ≡ behind_statement r part → length p < length part
behind_falls r part p l e = omega (arith, ap length e, length-drop ((1 + records_beside r) * 8) part)

pub parts_fall : (i n : ℕ) (part p : List ℕ) → 8 ≤ length part → p ≡ records_from (1 + i) n part → length p < length part
parts_fall i n part p l e = omega (arith, ap length e, length-take (n * 8) (drop ((1 + i) * 8) part), length-drop ((1 + i) * 8) part)
