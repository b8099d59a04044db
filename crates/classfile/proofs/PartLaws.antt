-- What a word becomes in its line, by the tests of the code.
-- Assumes nothing.
use Prim.Native.Nat.{ℕ, ◌+◌, ◌-◌, ◌*◌, ◌%◌, ◌^◌, ◌<◌, ◌≤◌}
use native.Mathlib.Omega.{arith}
use native.Mathlib.Nat.{one-mul}
use lib.Pow.{shl_exact}
use mathlib.Core.Path.{◌≡◌, refl, sym, ◌∙◌, ap}
use mathlib.Core.Bool.{Bool, true, false}
use mathlib.Core.List.{List}
use lib.Dec.{ltb}
use lib.ListN.{length, take, length-take}
use lib.Seq.{sets}
use lib.Bits.{bit_or}
use borrow.Author.Tests.{lt-ltb, le-ltb}
use Rattle.model.specs.Words.{choose, has}
use Rattle.model.proofs.Words.{clash}
use Rattle.grammar.specs.Words.{is_name, position}
use Rattle.naming.specs.NameLists.{padded, records_in, number_in, listed_in}
use Rattle.lists.specs.Lent.{found_from}
use Rattle.lists.proofs.TableLaws.{found_told}
use Rattle.std.specs.Option.{is_some}
use Rattle.pen.specs.Writing.{Puts}
use Rattle.pen.proofs.Puts.{puts_on}
use Rattle.laying.specs.Laying.{number_bytes}
use Rattle.classfile.specs.Heads.{Judged, judge_name, with_number, add_state, class_record}
use Rattle.classfile.specs.Reads.{Added}
use Rattle.classfile.specs.declared.parts.Fault.{Fault}
use Rattle.classfile.specs.declared.parts.Fault.TheVariants.{NoName, NameTwice, TooMany, NotListed}
use Rattle.std.specs.Prelude.{Option, Some, None, Ok, Err}

-- a name that was found is listed
found_case : (a n : ℕ) → a ≡ n → (r : Option ℕ) (t : Bool) → r ≡ choose t (λ _. Some a) (λ _. None) → (m : ℕ) → r ≡ Some m → (t ≡ true) × (m ≡ n)
found_case a n s r true e m f = (refl, (let z : Some m ≡ Some a = sym f ∙ e in cc))
found_case a n s r false e m f = absurd (let z : Some m ≡ None = sym f ∙ e in clash cc)

pub found_at : (records : List (List ℕ)) (w : List ℕ) (r : Option ℕ) → r ≡ found_from 0 records (padded w) → (m : ℕ) → r ≡ Some m
    → (listed_in records w ≡ true) × (m ≡ number_in records w)
unfolding found_from listed_in number_in
found_at records w r e m f =
    found_case (0 + position records (padded w)) (position records (padded w)) (let z : 0 + position records (padded w) ≡ position records (padded w) = omega arith in z) r
    (ltb (position records (padded w)) (length records)) e m f

-- it is found if it is listed
pub found_listed : (records : List (List ℕ)) (w : List ℕ) (r : Option ℕ) → r ≡ found_from 0 records (padded w) → is_some r ≡ listed_in records w
unfolding listed_in number_in
found_listed records w r e = ap is_some e ∙ found_told 0 records (padded w)

module _ (size left : ℕ) (b w : List ℕ) where
  pub no_name : is_name w ≡ false → Err NoName ≡ judge_name size left b w
  unfolding judge_name
  no_name h = rw h

  pub name_twice : is_name w ≡ true → listed_in (records_in size b) w ≡ true → Err NameTwice ≡ judge_name size left b w
  unfolding judge_name
  name_twice h l = rw (h, l)

  pub no_room : is_name w ≡ true → listed_in (records_in size b) w ≡ false → left < size → Err TooMany ≡ judge_name size left b w
  unfolding judge_name
  no_room h l m = rw (h, l, lt-ltb left size m)

  pub name_fine : is_name w ≡ true → listed_in (records_in size b) w ≡ false → size ≤ left → Ok tt ≡ judge_name size left b w
  unfolding judge_name
  name_fine h l m = rw (h, l, le-ltb left size m)

-- a state of a class
module _ (names : List ℕ) (set : ℕ) (w : List ℕ) (r : Option ℕ) (e : r ≡ found_from 0 (records_in 32 names) (padded w)) where
  pub not_listed : r ≡ None → Err NotListed ≡ add_state names set w
  unfolding add_state
  not_listed f = rw (sym (found_listed (records_in 32 names) w r e) ∙ ap is_some f)

  numbered : (m : ℕ) → r ≡ Some m → with_number set m ≡ add_state names set w
  unfolding add_state
  numbered m f = let (l, n) = found_at (records_in 32 names) w r e m f in rw (l, sym n)

  pub number_past : (m : ℕ) → r ≡ Some m → 31 < m → Err TooMany ≡ add_state names set w
  unfolding with_number
  number_past m f h = (rw (lt-ltb 31 m h)) ∙ numbered m f

  pub number_twice : (m : ℕ) → r ≡ Some m → m ≤ 31 → has set m ≡ true → Err NameTwice ≡ add_state names set w
  unfolding with_number
  number_twice m f h t = (rw (le-ltb 31 m h, t)) ∙ numbered m f

  pub number_more : (m : ℕ) → r ≡ Some m → m ≤ 31 → has set m ≡ false → Ok (bit_or set (1 * 2 ^ m % 2 ^ 32)) ≡ add_state names set w
  unfolding with_number
  number_more m f h t =
      ap (λ (x : ℕ). Ok (bit_or set x)) (shl_exact 1 m 32 (omega arith) (omega arith) ∙ one-mul (2 ^ m)) ∙ ((rw (le-ltb 31 m h, t)) ∙ numbered m f)

-- a class's record: its name's, and its set
pub class_put : (name before next after : List ℕ) (set at end r : ℕ) → Puts (padded name) before at next end → Puts (number_bytes set) next end after r
    → after ≡ sets before at (class_record name set)
unfolding class_record
class_put name before next after set at end r p q = (puts_on p q).buffer

-- a name that is fine goes behind the others
pub name_added : (before after w : List ℕ) (used r : ℕ) (j : Judged) → j ≡ judge_name 32 (length before - used) (take used before) w → j ≡ Ok tt
    → Puts (padded w) before used after r → Added before used w (Ok tt) after
name_added before after w used r j e f p = record { judged = sym f ∙ e; buffer = p.buffer }

pub name_kept : (before w : List ℕ) (used : ℕ) (j : Judged) (x : Fault) → j ≡ judge_name 32 (length before - used) (take used before) w → j ≡ Err x
    → Added before used w (Err x) before
name_kept before w used j x e f = record { judged = sym f ∙ e; buffer = refl }

-- as many bytes as are taken
pub counted : (l : List ℕ) (used : ℕ) → used ≤ length l → used ≡ length (take used l)
counted l used h = omega (arith, length-take used l)
