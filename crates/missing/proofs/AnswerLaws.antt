-- Laws about the answers: what is read of an accepted sheet tells of its class.
-- Assumes nothing.
use Prim.Native.Nat.{ℕ, ◌+◌, ◌*◌, ◌/◌, ◌<◌, ◌≤◌}
use native.Mathlib.Omega.{arith}
use native.Mathlib.Nat.{mul-le-mul_right}
use mathlib.Core.Path.{◌≡◌, refl, sym, ◌∙◌, ap}
use mathlib.Core.Bool.{Bool, ◌&&◌}
use mathlib.Core.List.{List}
use lib.Dec.{leb}
use lib.ListN.{length}
use Rattle.model.proofs.Lists.{length_listed}
use Rattle.records.specs.Bytes.{in_fours}
use Rattle.naming.specs.NameLists.{records_in, lists_right, lists_within, class_sets}
use Rattle.lists.specs.Lent.{lent, name_record, sets_in}
use Rattle.sheet.specs.Contents.{record_bytes, most, body, bodies}
use Rattle.sheet.specs.Reading.{class_in, class_of}
use Rattle.sheet.specs.Verdict.{Stands}
use Rattle.sheet.specs.declared.judging.Places.{Places}
use Rattle.sheet.proofs.Contents.{body_most, body_whole}
use Rattle.sheet.proofs.Reading.{own_states_in}
use Rattle.sheet.proofs.Rules.{accepted_right}
use Rattle.accepted.proofs.ReaderLaws.{stands_right}
use Rattle.writings.specs.Missing.{class_named, own_right, lent_right, names_right}
use Rattle.writings.specs.Writings.{named, guards_few}
use Rattle.missing.specs.Tallies.{joined, whens_tally, statements_tally, commands_named, class_tally, own_fits, sets_alike}
use Rattle.missing.specs.declared.Tally.{Tally}
use Rattle.missing.proofs.TallyLaws.{same_tally}
use Rattle.missing.proofs.ClassTallies.{class_joined}

module _ (b : List ℕ) (p : Places) (stands : Stands b p) where
  -- a body has at most as many bytes as the most records that it may have
  pub body_short : (k : ℕ) → k < 6 → (l : List ℕ) → l ≡ body b k → length l ≤ most k * record_bytes k
  body_short k h l e =
      let r = stands_right b p stands in
      rw (e, body_whole b r k h) (mul-le-mul_right (record_bytes k) (body_most b r k h))

  -- the three walks tell of the class
  pub class_told : (n m : ℕ) (guards whens actions statements : List ℕ) → guards ≡ body b 3 → whens ≡ body b 2 → actions ≡ body b 4 → statements ≡ body b 5
      → (w : Tally) (h : Bool) (t : Tally) → w ≡ whens_tally n guards whens → h ≡ commands_named m actions → t ≡ statements_tally n m guards statements
      → record { named = w.named && (h && t.named); count = w.count + t.count } ≡ class_tally n m (class_of b)
  unfolding class_of bodies
  class_told n m guards whens actions statements eg ew ea es w h t fw fh ft =
      let all : Tally = joined w (joined (record { named = h; count = 0 }) t) in
      same_tally _ all refl (omega arith)
      ∙ rw (fw, fh, ft, eg, ew, ea, es) (sym (class_joined n m (bodies b) (accepted_right b stands.accepted).bodies))

-- refusal 17, by its parts
pub names_told : (b name table names commands classes sets : List ℕ) (S : ℕ) → S ≡ in_fours (body b 1) → sets ≡ body b 0
    → (own right alike : Bool) (t : Tally) → own ≡ own_fits name table S → right ≡ lists_right (lent names commands classes) → alike ≡ sets_alike classes sets
    → t ≡ class_tally (length names / 32) (length commands / 32) (class_of b)
    → (own && ((right && ((leb (length names / 32) 32 && leb (length commands / 32) 64) && alike)) && t.named))
    ≡ names_right (named name table names commands classes) (class_of b)
unfolding names_right own_right lent_right class_named lists_within class_sets sets_in own_fits sets_alike class_tally class_of class_in bodies records_in
names_told b name table names commands classes sets S eS ec own right alike t eo er ea et =
    rw (eo, er, ea, et, eS, ec, length_listed 0 (length names / 32) (name_record 32 names), length_listed 0 (length commands / 32) (name_record 32 commands), own_states_in (bodies b)) refl

-- refusal 19, by the count
pub few_told : (b : List ℕ) (t : Tally) → t ≡ class_tally 0 0 (class_of b) → leb t.count 1024 ≡ guards_few (class_of b)
unfolding guards_few class_tally
few_told b t e = ap (λ (t : Tally). leb t.count 1024) e
