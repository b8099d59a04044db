-- Laws about statements in bytes: the record at the front says what is made of it and what its check is, an if asks its guard and its parts
-- one depth less; and where the statements of an action clause lie.
-- Assumes nothing.
use Prim.Native.Nat.{ℕ, zero, suc, ◌+◌, ◌-◌, ◌≤◌, ◌<◌}
use native.Mathlib.Omega.{arith}
use mathlib.Core.Path.{◌≡◌, refl, ◌∙◌, ap}
use mathlib.Core.Bool.{Bool, true, false, ◌&&◌, and-false}
use mathlib.Core.List.{List}
use mathlib.Core.Option.{Option, none, some}
use lib.Dec.{eqb}
use lib.ListN.{length, take, drop}
use lib.Seq.{drop-drop}
use borrow.Author.Tests.{ne_eqb}
use Rattle.model.specs.Words.{choose, maybe, is_some, total}
use Rattle.model.specs.Tree.{Guard, Statement, send, go_to, branch, Part}
use Rattle.model.specs.declared.OwnState.{OwnState}
use Rattle.records.specs.Bytes.{byte}
use Rattle.records.specs.GuardRecords.{Read, got, broken, is_read, by_read, guard_from}
use Rattle.records.specs.Patterns.{pattern_as}
use Rattle.bodies.specs.StatementRecords.{do_right, move_right, if_from, statement_from, part_at}
use Rattle.bodies.specs.StatementReaders.{statement_record, then_part, else_part}
use Rattle.bodies.specs.Clauses.{count_sum, first_statement, statement_count, statement_bytes, statements_of, body_of}
use Rattle.bodies.specs.PartChecks.{part_right, parts_of, statement_right}
use Rattle.records.specs.declared.kinds.Pattern.{Pattern}
use Rattle.bodies.specs.declared.statements.Branch.{Branch}
use Rattle.bodies.specs.declared.statements.StatementRecord.{StatementRecord}
use Rattle.bodies.specs.declared.statements.StatementRecord.TheVariants.{Do, MoveTo, If, Unknown}
use Rattle.records.proofs.Bytes.{u16_take, u32_take, whole, from_whole}
use Rattle.bodies.proofs.ReaderLaws.{Told, told}
use Rattle.bodies.proofs.PartLaws.{both_there, front, right_first}

-- something is made of a guard and two values exactly if all are there
all_there {ℓ κ μ} : {A : Type ℓ} {B : Type κ} {C : Type μ} (r : Read) (o : Option A) (p : Option B) (f : Guard → A → B → C)
    → is_some (by_read r (λ _. none) (λ g _. maybe o (λ _. none) (λ a. maybe p (λ _. none) (λ b. some (f g a b))))) ≡ (is_read r && (is_some o && is_some p))
all_there broken o p f = refl
all_there (got g e) o p f = both_there o p (f g)

-- a value that is there under a test
there_if {ℓ} : {A : Type ℓ} (t : Bool) (a : A) → is_some (choose t (λ _. some a) (λ _. none)) ≡ t
there_if true a = refl
there_if false a = refl

-- the first record has the layout that the whole has
front_do : (K : ℕ) (s : List ℕ) → do_right K (take 8 s) ≡ do_right K s
front_do K s = rw (front s 1 (omega arith), front s 2 (omega arith), front s 3 (omega arith), u32_take 8 s 4 (omega arith))

front_move : (S : ℕ) (s : List ℕ) → move_right S (take 8 s) ≡ move_right S s
front_move S s = rw (front s 1 (omega arith), u16_take 8 s 2 (omega arith), u32_take 8 s 4 (omega arith))

-- the reader of an if's parts is the reader of parts a depth less
parts_below : (d K S : ℕ) (gs : List ℕ) (rs : List (List ℕ)) → (d ≡ 0 → ⊥) → parts_of d K S gs rs ≡ part_at (d - 1) K S gs rs
unfolding parts_of
parts_below zero K S gs rs h = absurd (h refl)
parts_below (suc d) K S gs rs h = ap (λ (n : ℕ). part_at n K S gs rs) (let e : d ≡ suc d - 1 = omega arith in e)

module _ (K S : ℕ) (gs : List ℕ) (part : List (List ℕ) → Option Part) (s : List ℕ) where
  -- an if with its guard and its parts
  abbrev pub if_made : Branch → Option Statement
  if_made b =
      by_read (guard_from gs b.guard) (λ _. none)
      (λ g _. maybe (part (whole (then_part b s))) (λ _. none)
      (λ x. maybe (part (whole (else_part b s))) (λ _. none) (λ y. some (branch g x y))))

  -- what is made of the statement at the front, by its record
  abbrev pub made : StatementRecord → Option Statement
  made (Do m c) = choose (do_right K s) (λ _. some (send m (pattern_as c))) (λ _. none)
  made (MoveTo t) = choose (move_right S s) (λ _. some (go_to t.0)) (λ _. none)
  made (If b) = choose (eqb (byte s 1) 0) (λ _. if_made b) (λ _. none)
  made Unknown = none

  -- and the definition makes the same
  made_if : (b : Branch) → Told s (If b) → if_from gs part (take 8 s) (drop 1 (whole s)) ≡ if_made b
  unfolding if_from
  made_if b (l, k, g, t, e) =
      rw (u16_take 8 s 2 (omega arith), u16_take 8 s 4 (omega arith), u16_take 8 s 6 (omega arith), ← g, ← t, ← e)
      (rw (drop-drop b.thens 1 (whole s), from_whole 1 b.thens s, from_whole (1 + b.thens) b.elses s))

  pub statement_made : (r : StatementRecord) → r ≡ statement_record s → 8 ≤ length s → statement_from K S gs part (take 8 s) (drop 1 (whole s)) ≡ made r
  unfolding statement_from
  statement_made r e l = at r (told s r e)
    where
      at : (r : StatementRecord) → Told s r → statement_from K S gs part (take 8 s) (drop 1 (whole s)) ≡ made r
      at (Do m c) (x, k, em, ec) = rw (front s 0 (omega arith), k, front_do K s, front s 1 (omega arith), front s 2 (omega arith), em, ec)
      at (MoveTo t) (x, k, et) = rw (front s 0 (omega arith), k, front_move S s, front s 1 (omega arith), et)
      at (If b) w = rw (front s 0 (omega arith), w.1, front s 1 (omega arith), made_if b w)
      at Unknown w =
          let n : 3 ≤ byte s 0 = w l in
          rw (front s 0 (omega arith), ne_eqb (byte s 0) 0 (λ z. omega arith), ne_eqb (byte s 0) 1 (λ z. omega arith), ne_eqb (byte s 0) 2 (λ z. omega arith))

-- what the judge asks of the statement at the front, by its record
module _ (d K S : ℕ) (gs s : List ℕ) where
  right_made : (r : StatementRecord) → r ≡ statement_record s → 8 ≤ length s → statement_right d K S gs s ≡ is_some (made K S gs (parts_of d K S gs) s r)
  right_made r e l = right_first d K S gs s ∙ ap is_some (statement_made K S gs (parts_of d K S gs) s r e l)

  pub right_do : (m : ℕ) (c : Pattern) → Do m c ≡ statement_record s → statement_right d K S gs s ≡ do_right K s
  right_do m c e = right_made (Do m c) e (told s (Do m c) e).0 ∙ there_if (do_right K s) (send m (pattern_as c))

  pub right_move : (t : OwnState) → MoveTo t ≡ statement_record s → statement_right d K S gs s ≡ move_right S s
  right_move t e = right_made (MoveTo t) e (told s (MoveTo t) e).0 ∙ there_if (move_right S s) (go_to t.0)

  pub right_unknown : Unknown ≡ statement_record s → 8 ≤ length s → statement_right d K S gs s ≡ false
  right_unknown e l = right_made Unknown e l

  module _ (b : Branch) (e : If b ≡ statement_record s) where
    right_if_made : statement_right d K S gs s ≡ is_some (made K S gs (parts_of d K S gs) s (If b))
    right_if_made = right_made (If b) e (told s (If b) e).0

    -- an if whose zero byte is not
    pub right_not_zero : (byte s 1 ≡ 0 → ⊥) → statement_right d K S gs s ≡ false
    right_not_zero z = right_if_made ∙ rw (ne_eqb (byte s 1) 0 z)

    -- else it asks its guard and its two parts
    if_asks : byte s 1 ≡ 0
        → statement_right d K S gs s ≡ (is_read (guard_from gs b.guard) && (is_some (parts_of d K S gs (whole (then_part b s))) && is_some (parts_of d K S gs (whole (else_part b s)))))
    if_asks z = right_if_made ∙ rw z (all_there (guard_from gs b.guard) (parts_of d K S gs (whole (then_part b s))) (parts_of d K S gs (whole (else_part b s))) branch)

    -- which are none at depth 0
    pub right_too_deep : byte s 1 ≡ 0 → d ≡ 0 → statement_right d K S gs s ≡ false
    unfolding parts_of
    right_too_deep z h = if_asks z ∙ rw (h, and-false (is_read (guard_from gs b.guard)))

    -- and else are read one depth less
    pub right_if : (x y w : Bool) (p q : List ℕ) → byte s 1 ≡ 0 → (d ≡ 0 → ⊥) → p ≡ then_part b s → q ≡ else_part b s
        → x ≡ is_read (guard_from gs b.guard) → y ≡ part_right (d - 1) K S gs p → w ≡ part_right (d - 1) K S gs q → (x && (y && w)) ≡ statement_right d K S gs s
    unfolding part_right
    right_if x y w p q z h ep eq ex ey ew =
        rw (ex, ey, ew, ep, eq, if_asks z, parts_below d K S gs (whole (then_part b s)) h, parts_below d K S gs (whole (else_part b s)) h)

-- sums of more counts are not less
sums_rise : (b : List ℕ) (offset m d n : ℕ) → n ≡ m + d → count_sum b offset m ≤ count_sum b offset n
unfolding count_sum total
sums_rise b offset m zero n e = let f : n ≡ m = omega arith in rw f (let z : count_sum b offset m ≤ count_sum b offset m = omega arith in z)
sums_rise b offset m (suc d) zero e = absurd (omega arith)
sums_rise b offset m (suc d) (suc n) e = let z = sums_rise b offset m d n (omega arith) in omega arith

-- so the records of one that is counted lie inside those of all
pub sum_inside : (b : List ℕ) (offset i n s : ℕ) → i < n → count_sum b offset n ≡ s → count_sum b offset (i + 1) ≤ s
sum_inside b offset i n s l e = let z = sums_rise b offset (i + 1) (n - (i + 1)) n (omega arith) in omega arith

-- the bytes of an action clause's statements hold its records
pub statements_whole : (actions statements : List ℕ) (a : ℕ) → whole (statement_bytes actions statements a) ≡ statements_of actions statements a
unfolding statements_of
statements_whole actions statements a = from_whole (first_statement actions a) (statement_count actions a) statements

-- and they are right if they read as the clause's part
pub body_reads : (K S : ℕ) (gs actions statements p : List ℕ) (a : ℕ) → p ≡ statement_bytes actions statements a → part_right 8 K S gs p ≡ is_some (body_of K S gs actions statements a)
unfolding part_right body_of
body_reads K S gs actions statements p a e = rw (e, statements_whole actions statements a)
