-- The loop over guards, and that it tells the limit of operators.
-- Assumes nothing.
use Prim.Native.Nat.{ℕ, zero, suc, ◌+◌, ◌-◌, ◌/◌, ◌<◌, ◌≤◌}
use native.Mathlib.Omega.{arith}
use mathlib.Core.Path.{◌≡◌, refl, ◌∙◌, ap}
use mathlib.Core.Bool.{Bool, true, false, ◌&&◌}
use mathlib.Core.List.{List, [], ◌∷◌, ◌++◌}
use lib.Dec.{leb}
use lib.ListN.{length, length-append}
use borrow.Author.Tests.{lt-ltb, le-ltb, leb-true, leb-false}
use Rattle.std.specs.Prelude.{Some, None}
use Rattle.model.specs.Words.{every}
use Rattle.model.specs.Tree.{Guard, atom, both, either, opposite}
use Rattle.records.specs.GuardRecords.{Read, got, broken, guard_at, guard_from, by_read}
use Rattle.records.specs.Ends.{end_of}
use Rattle.records.proofs.GuardLaws.{read_behind, end_got}
use Rattle.encoding.specs.Records.{Eight, eights}
use Rattle.encoding.specs.Encoding.{guard_records, gathered}
use Rattle.encoding.specs.Limits.{operators}
use Rattle.encoding.proofs.From.{From, whole, next, count_eights}
use Rattle.encoding.proofs.ReadGuards.{guard_read, guard_broken}
use Rattle.limits.specs.Shallow.{all_read, shallow}

-- the loop stands at a guard: what is left to read decides
pub record Reading (b : List ℕ) (at : ℕ) : Type 0 where
  pub read : ℕ
  pub few : read ≤ at
  pub decides : shallow b ≡ all_read (length b / 8 - read) b at

pub reading_none : (b : List ℕ) → Reading b 0
unfolding shallow
reading_none b = record { read = 0; few = (omega arith); decides = ap (λ (n : ℕ). all_read n b 0) (let z : length b / 8 ≡ length b / 8 - 0 = omega arith in z) }

one_read : (n at : ℕ) (b : List ℕ) → at < length b / 8 → all_read (suc n) b at ≡ by_read (guard_from b at) (λ _. false) (λ g e. all_read n b e)
unfolding all_read
one_read n at b h = rw (lt-ltb at (length b / 8) h)

none_left : (n at : ℕ) (b : List ℕ) → length b / 8 ≤ at → all_read n b at ≡ true
unfolding all_read
none_left zero at b h = refl
none_left (suc n) at b h = rw (le-ltb at (length b / 8) h)

pub reading_on : (b : List ℕ) (at e : ℕ) → Reading b at → at < length b / 8 → end_of (guard_at 16 b at) ≡ Some e → (at < e) × Reading b e
unfolding guard_from
reading_on b at e r h f =
    let (g, p) = end_got 16 b at e f in
    let l : at < e = read_behind 16 b at p in
    let z = r.few in
    let n : length b / 8 - r.read ≡ suc (length b / 8 - suc r.read) = omega arith in (
      l,
      record {
        read = suc r.read;
        few = (omega arith);
        decides = r.decides ∙ (ap (λ (k : ℕ). all_read k b at) n ∙ (one_read (length b / 8 - suc r.read) at b h ∙ rw p));
      },
    )

pub reading_broken : (b : List ℕ) (at : ℕ) → Reading b at → at < length b / 8 → end_of (guard_at 16 b at) ≡ None → shallow b ≡ false
unfolding guard_from
reading_broken b at r h f =
    let z = r.few in
    let n : length b / 8 - r.read ≡ suc (length b / 8 - suc r.read) = omega arith in
    r.decides ∙ (ap (λ (k : ℕ). all_read k b at) n ∙ (one_read (length b / 8 - suc r.read) at b h ∙ go (guard_at 16 b at) f))
  where
    go : (x : Read) → end_of x ≡ None → by_read x (λ _. false) (λ g e. all_read (length b / 8 - suc r.read) b e) ≡ false
    go broken e = refl
    go (got g k) e = absurd (let w : ◌≡◌ {A = ℕ} 0 1 = cc in omega arith)

pub reading_over : (b : List ℕ) (at : ℕ) → Reading b at → length b / 8 ≤ at → shallow b ≡ true
reading_over b at r h = r.decides ∙ none_left (length b / 8 - r.read) at b h

-- what that says of guards whose records they are
abbrev pub few_operators : Guard → Bool
few_operators g = leb (operators g) 16

some_record : (g : Guard) → 1 ≤ length (guard_records g)
unfolding guard_records
some_record (atom k p s) = omega arith
some_record (both g h) = omega arith
some_record (either g h) = omega arith
some_record (opposite g) = omega arith

tells : (rs : List Eight) (gs : List Guard) (n i : ℕ) → From rs i (gathered guard_records gs) → length (gathered guard_records gs) ≤ n
    → all_read n (eights rs) i ≡ every few_operators gs
unfolding gathered every guard_from
tells rs [] n i f h = none_left n i (eights rs) (let e = f.ends in omega (arith, count_eights rs))
tells rs (g ∷ gs) zero i f h = absurd (omega (arith, some_record g, length-append (guard_records g) (gathered guard_records gs)))
tells rs (g ∷ gs) (suc n) i f h =
    one_read n i (eights rs) (let e = f.ends in omega (arith, count_eights rs, l, some_record g))
    ∙ go (leb (operators g) 16) refl (tells rs gs n (i + length (guard_records g)) (next rs i (guard_records g) (gathered guard_records gs) f) (omega (arith, l, some_record g)))
  where
    l : length (guard_records g ++ gathered guard_records gs) ≡ length (guard_records g) + length (gathered guard_records gs)
    l = length-append (guard_records g) (gathered guard_records gs)

    go : (t : Bool) → leb (operators g) 16 ≡ t → all_read n (eights rs) (i + length (guard_records g)) ≡ every few_operators gs
        → by_read (guard_at 16 (eights rs) i) (λ _. false) (λ g e. all_read n (eights rs) e) ≡ (leb (operators g) 16 && every few_operators gs)
    go true e r = rw (guard_read rs g 16 i (gathered guard_records gs) (leb-true (operators g) 16 e) f, e) r
    go false e r = rw (guard_broken rs g 16 i (gathered guard_records gs) (leb-false (operators g) 16 e) f, e) refl

-- the guards are shallow exactly if none has more than 16 operators on a path
pub shallow_tells : (gs : List Guard) → shallow (eights (gathered guard_records gs)) ≡ every few_operators gs
unfolding shallow
shallow_tells gs =
    let rs = gathered guard_records gs in
    tells rs gs (length (eights rs) / 8) 0 (whole rs) (omega (arith, count_eights rs))
