-- Laws of the check of the lent lists: what each test that fails, and what the last one, tells of the whole.
-- Assumes nothing.
use Prim.Native.Nat.{ℕ, ◌+◌, ◌*◌, ◌/◌, ◌%◌, ◌<◌}
use native.Mathlib.Omega.{arith}
use mathlib.Core.Path.{◌≡◌, refl, sym, ◌∙◌, ap}
use mathlib.Core.Bool.{Bool, true, false, and-false}
use mathlib.Core.List.{List}
use lib.ListN.{length, get_or}
use borrow.Author.Tests.{eq-eqb, ne_eqb}
use Rattle.model.specs.Words.{every}
use Rattle.model.proofs.Lists.{length_listed, get_or_listed}
use Rattle.records.specs.Bytes.{u32}
use Rattle.naming.specs.NameLists.{Lists, class_sets, records_in, record_right, none_twice, list_right, bits_named, lists_right, padded, number_in, listed_in}
use Rattle.lists.specs.Lent.{lent, name_record, found_from, sets_in, Count}
use Rattle.std.specs.Prelude.{Some, None}
use Rattle.lists.proofs.TableLaws.{left, left_all, found_at, found_nowhere}

-- one list
module _ (size : ℕ) (b : List ℕ) where
  pub part_record : (length b % size ≡ 0 → ⊥) → false ≡ list_right size b
  unfolding list_right
  part_record h = rw (ne_eqb (length b % size) 0 h)

  module _ (h : length b % size ≡ 0) where
    pub wrong_record : every record_right (records_in size b) ≡ false → false ≡ list_right size b
    unfolding list_right
    wrong_record e = rw (e, and-false)

    pub list_told : every record_right (records_in size b) ≡ true → (r : Bool) → r ≡ none_twice (records_in size b) → r ≡ list_right size b
    unfolding list_right
    list_told e r f = rw (f, eq-eqb (length b % size) 0 h, e)

-- the sets of the classes
abbrev pub set_in : List ℕ → ℕ → ℕ
set_in b i = u32 b (i * 36 + 32)

pub sets_left : (b : List ℕ) (n : ℕ) → Count b 36 n → sets_in b ≡ left (set_in b) n 0
unfolding sets_in
sets_left b n k = rw k.is (left_all (set_in b) (length b / 36))

pub set_read : (b : List ℕ) (n i : ℕ) → Count b 36 n → i < n → (x : ℕ) → x ≡ get_or (sets_in b) i 0 → (m : ℕ) (t : Bool) → t ≡ bits_named m x → bits_named m (set_in b i) ≡ t
unfolding sets_in
set_read b n i k l x e m t f =
    let h : i < length b / 36 = (let z = k.is in omega arith) in
    ap (bits_named m) (sym (e ∙ get_or_listed 0 (length b / 36) (set_in b) 0 i i h (omega arith))) ∙ sym f

-- the sets that the lists have are those of its classes
pub sets_of : (l : Lists) → class_sets l ≡ sets_in l.classes
unfolding class_sets sets_in
sets_of l = refl

-- all lists
module _ (a b c : List ℕ) where
  pub names_wrong : list_right 32 a ≡ false → false ≡ lists_right (lent a b c)
  unfolding lists_right
  names_wrong e = rw e

  module _ (p : list_right 32 a ≡ true) where
    pub commands_wrong : list_right 32 b ≡ false → false ≡ lists_right (lent a b c)
    unfolding lists_right
    commands_wrong e = rw (p, e)

    module _ (q : list_right 32 b ≡ true) where
      pub classes_wrong : list_right 36 c ≡ false → false ≡ lists_right (lent a b c)
      unfolding lists_right
      classes_wrong e = rw (p, q, e)

      pub lists_told : list_right 36 c ≡ true → (n : ℕ) → Count a 32 n → (r : Bool) → r ≡ every (bits_named n) (sets_in c) → r ≡ lists_right (lent a b c)
      unfolding lists_right class_sets sets_in records_in
      lists_told e n k r f = rw (f, k.is, p, q, e, length_listed 0 (length a / 32) (name_record 32 a))

-- what the number of a name, or that it has none, tells of the list
module _ (records : List (List ℕ)) (n : List ℕ) where
  pub number_listed : (i : ℕ) → found_from 0 records (padded n) ≡ Some i → (listed_in records n ≡ true) × (i ≡ number_in records n)
  unfolding listed_in number_in
  number_listed i e = let (l, h) = found_at 0 records (padded n) i e in (l, omega arith)

  pub number_missing : found_from 0 records (padded n) ≡ None → listed_in records n ≡ false
  unfolding listed_in number_in
  number_missing e = found_nowhere 0 records (padded n) e
