-- A guard's records stand one behind the other: its tally is that of the records from where it begins to where it ends.
-- Assumes nothing.
use Prim.Native.Nat.{ℕ, zero, suc, ◌+◌, ◌-◌, ◌/◌, ◌≤◌}
use native.Mathlib.Omega.{arith}
use mathlib.Core.Path.{◌≡◌, refl, sym, ◌∙◌, ap, subst}
use mathlib.Core.Bool.{Bool, true}
use mathlib.Core.List.{List}
use lib.Dec.{eqb, leb, ltb}
use lib.ListN.{length, length-append}
use Rattle.std.specs.Prelude.{Some, None}
use Rattle.model.specs.Words.{each, has}
use Rattle.model.specs.Tree.{Guard, both, either, opposite}
use Rattle.model.proofs.Words.{choose_case}
use Rattle.records.specs.Bytes.{byte, record_at}
use Rattle.records.specs.GuardRecords.{Read, got, broken, Operator, two, one, Record, leaf, operator, unknown, operator_of, record_of, guard_record, joined as joined_read, shaped, guard_with, guard_at, guard_from}
use Rattle.records.specs.Ends.{end_of}
use Rattle.records.proofs.GuardLaws.{read_case, known_there, end_got, end_broken}
use Rattle.naming.specs.NameLists.{bits_named}
use Rattle.encoding.specs.Encoding.{guard_records}
use Rattle.writings.specs.Missing.{guard_named}
use Rattle.missing.specs.Tallies.{joined, sum_of, record_named, records_named, guard_tally, place_tally}
use Rattle.missing.specs.declared.Tally.{Tally}
use Rattle.missing.proofs.TallyLaws.{same_tally, span, span_front, span_plus, sum_ones}

-- one record that passes or fails a test
abbrev one_with : Bool → Tally
one_with t = record { named = t; count = 1 }

module _ (n : ℕ) where
  -- an operator adds its own record to its operands
  Plain : Operator → Type 0
  Plain (two f) = (g h : Guard) → guard_tally n (f g h) ≡ joined (one_with true) (joined (guard_tally n g) (guard_tally n h))
  Plain (one f) = (g : Guard) → guard_tally n (f g) ≡ joined (one_with true) (guard_tally n g)

  both_plain : Plain (two both)
  unfolding Plain guard_tally guard_named guard_records
  both_plain g h = same_tally _ _ refl (let z = length-append (guard_records g) (guard_records h) in omega arith)

  either_plain : Plain (two either)
  unfolding Plain guard_tally guard_named guard_records
  either_plain g h = same_tally _ _ refl (let z = length-append (guard_records g) (guard_records h) in omega arith)

  opposite_plain : Plain (one opposite)
  unfolding Plain guard_tally guard_named guard_records
  opposite_plain g = same_tally _ _ refl (omega arith)

  -- and they are the operators that there are
  operator_plain : (k : ℕ) → Plain (operator_of k)
  operator_plain k = choose_case Plain (eqb k 4) _ _ (λ _. both_plain) (λ _. choose_case Plain (eqb k 5) _ _ (λ _. either_plain) (λ _. opposite_plain))

  -- so does every record that is one
  abbrev PlainRecord : Record → Type 0
  PlainRecord (leaf kind p set) = Unit {0}
  PlainRecord (operator op) = Plain op
  PlainRecord unknown = Unit {0}

  module _ (gs : List ℕ) where
    record_plain : (i : ℕ) → PlainRecord (guard_record gs i)
    unfolding guard_record record_of
    record_plain i =
        let r = record_at gs i in
        choose_case PlainRecord (ltb i (length gs / 8)) _ _
        (λ _. choose_case PlainRecord (leb (byte r 0) 3) _ _ (λ _. tt)
        (λ _. choose_case PlainRecord (leb (byte r 0) 6) _ _ (λ _. operator_plain (byte r 0)) (λ _. tt)))
        (λ _. tt)

    -- record i
    abbrev one_at : ℕ → Tally
    one_at i = one_with (record_named n (guard_record gs i))

    -- what is read at place i is the guard of the next l records
    Spans : ℕ → Read → Type 0
    Spans i (got g e) = (l : ℕ) × (e ≡ i + l) × (e ≤ length gs / 8) × (guard_tally n g ≡ span one_at i l)
    Spans i broken = Unit {0}

    -- an operator with its operands, which follow it directly
    joined_spans : (operand : ℕ → Read) → ((j : ℕ) → Spans j (operand j)) → (i : ℕ) → record_named n (guard_record gs i) ≡ true → (op : Operator) → Plain op → Spans i (joined_read operand (i + 1) op)
    unfolding Spans Plain joined_read
    joined_spans operand b i t (two f) plain =
        read_case (Spans i) (operand (i + 1)) _ _ (λ _. tt)
        (λ g j h. read_case (Spans i) (operand j) _ _ (λ _. tt)
        (λ u k q.
        let (l, e, _, x) = subst (Spans (i + 1)) h (b (i + 1)) in
        let (m, d, w, y) = subst (Spans j) q (b j) in (
          suc (l + m),
          omega arith,
          w,
          plain g u ∙ ap (λ (s : Bool). joined (one_with s) (joined (guard_tally n g) (guard_tally n u))) (sym t)
              ∙ ap (λ (s : Tally). joined (one_at i) (joined s (guard_tally n u))) x
              ∙ ap (λ (s : Tally). joined (one_at i) (joined (span one_at (i + 1) l) s)) y
              ∙ ap (joined (one_at i)) (span_plus one_at (i + 1) j l m e)
              ∙ span_front one_at i (i + 1) (l + m) (omega arith),
        )))
    joined_spans operand b i t (one f) plain =
        read_case (Spans i) (operand (i + 1)) _ _ (λ _. tt)
        (λ g j h.
        let (l, e, w, x) = subst (Spans (i + 1)) h (b (i + 1)) in (
          suc l,
          omega arith,
          w,
          plain g ∙ ap (λ (s : Bool). joined (one_with s) (guard_tally n g)) (sym t) ∙ ap (joined (one_at i)) x ∙ span_front one_at i (i + 1) l (omega arith),
        ))

    -- a guard by its first record
    shaped_spans : (operand : ℕ → Read) → ((j : ℕ) → Spans j (operand j)) → (i : ℕ) (x : Record) → x ≡ guard_record gs i → PlainRecord x → Spans i (shaped operand i x)
    unfolding Spans guard_tally guard_named guard_records sum_of
    shaped_spans operand b i (leaf kind p set) e plain =
        let z : i ≡ i + 0 = omega arith in
        let y : bits_named n set ≡ record_named n (guard_record gs (i + 0)) = ap (record_named n) e ∙ ap (λ (m : ℕ). record_named n (guard_record gs m)) z in
        (1, refl, (let w = known_there gs i e refl in omega arith), same_tally _ _ y refl)
    shaped_spans operand b i (operator op) e plain = joined_spans operand b i (ap (record_named n) (sym e)) op plain
    shaped_spans operand b i unknown e plain = tt

    -- so every guard that is read
    spans : (d i : ℕ) → Spans i (guard_at d gs i)
    unfolding Spans guard_at guard_with
    spans zero i = shaped_spans (λ j. broken) (λ j. tt) i (guard_record gs i) refl (record_plain i)
    spans (suc d) i = shaped_spans (guard_at d gs) (spans d) i (guard_record gs i) refl (record_plain i)

    -- a guard that ends somewhere ends inside, behind where it begins
    pub guard_inside : (i e : ℕ) → end_of (guard_at 16 gs i) ≡ Some e → (i ≤ e) × (e ≤ length gs / 8)
    unfolding Spans
    guard_inside i e h =
        let (g, p) = end_got 16 gs i e h in
        let (l, a, b, _) = subst (Spans i) p (spans 16 i) in
        (omega arith, b)

    -- and is the guard of the records up to there
    pub guard_told : (i e : ℕ) → end_of (guard_at 16 gs i) ≡ Some e → (t : Bool) → t ≡ records_named n gs i (e - i) → record { named = t; count = e - i } ≡ place_tally n gs i
    unfolding Spans place_tally guard_from records_named
    guard_told i e h t f =
        let (g, p) = end_got 16 gs i e h in
        let (l, a, _, x) = subst (Spans i) p (spans 16 i) in
        let z : e - i ≡ l = omega arith in
        rw (f, p, z, x) (sym (sum_ones l (λ m. record_named n (guard_record gs (i + m)))))

-- no bit of the empty set is without a name
no_bits : (n : ℕ) → true ≡ bits_named n 0
unfolding bits_named each has
no_bits n = refl

-- where no guard begins, the class has one that is one record
pub guard_none : (n : ℕ) (gs : List ℕ) (i : ℕ) → end_of (guard_at 16 gs i) ≡ None → record { named = true; count = 1 } ≡ place_tally n gs i
unfolding place_tally guard_tally guard_named guard_records guard_from
guard_none n gs i h = rw (end_broken 16 gs i h) (same_tally (one_with true) (one_with (bits_named n 0)) (no_bits n) refl)
