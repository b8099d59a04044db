-- Laws about lists that read as a part: what the part begins with, by the record at the front of the list.
-- Assumes nothing.
use Prim.Native.Nat.{ℕ, zero, suc, ◌/◌, ◌<◌, ◌≤◌}
use mathlib.Core.Path.{◌≡◌, refl, sym, ◌∙◌}
use mathlib.Core.Bool.{Bool, true, false}
use mathlib.Core.List.{List}
use mathlib.Core.Logic.{◌⊎◌, inl, inr}
use mathlib.Core.Option.{Option, none, some}
use lib.Dec.{eqb}
use lib.ListN.{length}
use Rattle.model.specs.Words.{choose, maybe}
use Rattle.model.specs.Tree.{Guard, Statement, send, go_to, branch, Part, end, ◌then◌}
use Rattle.model.specs.declared.OwnState.{OwnState}
use Rattle.model.proofs.Words.{clash, lt_or_le}
use Rattle.records.specs.Bytes.{byte}
use Rattle.records.specs.GuardRecords.{Read, got, broken, by_read, guard_from}
use Rattle.records.specs.Patterns.{pattern_as}
use Rattle.bodies.specs.StatementRecords.{do_right, move_right}
use Rattle.bodies.specs.StatementReaders.{statement_record, records_beside, then_part, else_part, behind_statement}
use Rattle.bodies.specs.PartChecks.{parts_of, Reads}
use Rattle.records.specs.declared.kinds.Pattern.{Pattern}
use Rattle.bodies.specs.declared.statements.Branch.{Branch}
use Rattle.bodies.specs.declared.statements.StatementRecord.{StatementRecord}
use Rattle.bodies.specs.declared.statements.StatementRecord.TheVariants.{Do, MoveTo, If, Unknown}
use Rattle.records.proofs.Bytes.{whole}
use Rattle.bodies.proofs.ReaderLaws.{told}
use Rattle.bodies.proofs.PartLaws.{part_of, first_of, part_empty, part_cut, part_step}
use Rattle.bodies.proofs.StatementLaws.{if_made, made, statement_made}

-- a value that is there under a test, and one that is made of two values, or of a guard and two parts
chosen {ℓ} : {A : Type ℓ} (b : Bool) (o : Option A) (a : A) → choose b (λ _. o) (λ _. none) ≡ some a → o ≡ some a
chosen true o a e = e
chosen false o a e = absurd (clash (cc))

both_got {ℓ κ μ} : {A : Type ℓ} {B : Type κ} {C : Type μ} (o : Option A) (p : Option B) (f : A → B → C) (c : C)
    → maybe o (λ _. none) (λ a. maybe p (λ _. none) (λ b. some (f a b))) ≡ some c → (a : A) × (b : B) × (o ≡ some a) × (p ≡ some b) × (c ≡ f a b)
both_got none p f c e = absurd (clash (cc))
both_got (some a) none f c e = absurd (clash (cc))
both_got (some a) (some b) f c e = (a, b, refl, refl, (let z : some (f a b) ≡ some c = e in cc))

all_got : (r : Read) (o p : Option Part) (t : Statement)
    → by_read r (λ _. none) (λ g _. maybe o (λ _. none) (λ a. maybe p (λ _. none) (λ b. some (branch g a b)))) ≡ some t
    → (g : Guard) × (e : ℕ) × (a : Part) × (b : Part) × (r ≡ got g e) × (o ≡ some a) × (p ≡ some b) × (t ≡ branch g a b)
all_got broken o p t h = absurd (clash (cc))
all_got (got g e) o p t h = let (a, b, x, y, z) = both_got o p (branch g) t h in (g, e, a, b, refl, x, y, z)

-- an if's part reads one depth less
deeper : (d K S : ℕ) (gs part : List ℕ) (a : Part) → parts_of d K S gs (whole part) ≡ some a → Reads gs part a
unfolding parts_of
deeper zero K S gs part a e = absurd (clash (cc))
deeper (suc d) K S gs part a e = record { depth = d; classes = K; states = S; reads = e }

-- the part begins with this statement, and what stands behind it reads as the rest
pub record Begins (gs part : List ℕ) (r : StatementRecord) (p : Part) (s : Statement) : Type 0 where
  pub rest : Part
  pub is : p ≡ (s then rest)
  pub reads : Reads gs (behind_statement r part) rest

-- it begins with an if: its guard, its then-part and its else-part
pub record BeginsIf (gs part : List ℕ) (p : Part) (b : Branch) : Type 0 where
  pub guard : Guard
  pub stop : ℕ
  pub first : Part
  pub second : Part
  pub begins : Begins gs part (If b) p (branch guard first second)
  pub guard_reads : guard_from gs b.guard ≡ got guard stop
  pub first_reads : Reads gs (then_part b part) first
  pub second_reads : Reads gs (else_part b part) second

module _ (gs part : List ℕ) (p : Part) (R : Reads gs part p) where
  -- the reader of an if's parts, and what is made of a record
  abbrev parts : List (List ℕ) → Option Part
  parts = parts_of R.depth R.classes R.states gs

  abbrev made_of : StatementRecord → Option Statement
  made_of = made R.classes R.states gs parts part

  -- a list with a record begins with what is made of it
  begin : (r : StatementRecord) → r ≡ statement_record part → 8 ≤ length part → (s : Statement) × (made_of r ≡ some s) × Begins gs part r p s
  begin r e l = go (lt_or_le (records_beside r) (length part / 8))
    where
      go : (records_beside r < length part / 8) ⊎ (length part / 8 ≤ records_beside r) → (s : Statement) × (made_of r ≡ some s) × Begins gs part r p s
      go (inl h) =
          let z = sym (part_step R.depth R.classes R.states gs part r e l h) ∙ R.reads in
          let (s, q, x, y, w) = both_got (first_of R.depth R.classes R.states gs part) (part_of R.depth R.classes R.states gs (behind_statement r part)) ◌then◌ p z in
          let f = statement_made R.classes R.states gs parts part r e l in
          (s, sym f ∙ x, record { rest = q; is = w; reads = record { depth = R.depth; classes = R.classes; states = R.states; reads = y } })
      go (inr h) = absurd (let z : none ≡ some p = sym (part_cut R.depth R.classes R.states gs part r e l h) ∙ R.reads in clash (cc))

  -- so it goes by the record
  pub read_end : Unknown ≡ statement_record part → p ≡ end
  read_end e = go (lt_or_le (length part) 8)
    where
      go : (length part < 8) ⊎ (8 ≤ length part) → p ≡ end
      go (inl l) = let z : some end ≡ some p = sym (part_empty R.depth R.classes R.states gs part l) ∙ R.reads in cc
      go (inr l) = let (s, x, b) = begin Unknown e l in absurd (clash (cc))

  -- a list with a record reads as a statement and others behind it
  pub read_some : 8 ≤ length part → (s : Statement) × (q : Part) × (p ≡ (s then q))
  read_some l = let (s, x, b) = begin (statement_record part) refl l in (s, b.rest, b.is)

  pub read_do : (m : ℕ) (c : Pattern) → Do m c ≡ statement_record part → Begins gs part (Do m c) p (send m (pattern_as c))
  read_do m c e =
      let (s, x, b) = begin (Do m c) e (told part (Do m c) e).0 in
      let z = chosen (do_right R.classes part) (some (send m (pattern_as c))) s x in
      let y : s ≡ send m (pattern_as c) = cc in
      rw y at b

  pub read_move : (t : OwnState) → MoveTo t ≡ statement_record part → Begins gs part (MoveTo t) p (go_to t.0)
  read_move t e =
      let (s, x, b) = begin (MoveTo t) e (told part (MoveTo t) e).0 in
      let z = chosen (move_right R.states part) (some (go_to t.0)) s x in
      let y : s ≡ go_to t.0 = cc in
      rw y at b

  pub read_if : (b : Branch) → If b ≡ statement_record part → BeginsIf gs part p b
  read_if b e =
      let (s, x, begins) = begin (If b) e (told part (If b) e).0 in
      let z = chosen (eqb (byte part 1) 0) (if_made R.classes R.states gs parts part b) s x in
      let (g, n, u, v, eg, eu, ev, es) = all_got (guard_from gs b.guard) (parts (whole (then_part b part))) (parts (whole (else_part b part))) s z in
      record {
        guard = g;
        stop = n;
        first = u;
        second = v;
        begins = rw es at begins;
        guard_reads = eg;
        first_reads = deeper R.depth R.classes R.states gs (then_part b part) u eu;
        second_reads = deeper R.depth R.classes R.states gs (else_part b part) v ev;
      }
