-- What follows of every answer: one for any input, each refusal exactly when its row says so, and what a text that was read has become.
-- Assumes nothing.
use Rattle.std.specs.Prelude.{ℕ, ◌*◌, ◌≡◌, true, false, map, ◌⊎◌, ◌↔◌, length, take, drop}
use Rattle.model.specs.Words.{Bytes}
use Rattle.model.specs.Tree.{Class}
use Rattle.model.specs.Replies.{Reply}
use Rattle.model.specs.Unique.{TellsApart}
use Rattle.grammar.specs.Grammar.{Text}
use Rattle.grammar.specs.Reading.{Says, WrongAt}
use Rattle.sheet.specs.Rules.{Accepted}
use Rattle.sheet.specs.Reading.{class_of}
use Rattle.sheet.specs.Asked.{on_sheet}
use Rattle.naming.specs.NameLists.{padded, records_in, list_right}
use Rattle.naming.specs.Naming.{own_names}
use Rattle.readings.specs.Readings.{Lent, wrong, refused, read, Outcome, class_for, sheet_for, own_states, known, within, room, Answers, reading_numbers}

-- ONE ANSWER: there is one for any input, and two are the same, with the same content of both buffers
pub record One : Type 0 where
  pub some_answer : (q : Lent) → (o : Outcome) × Answers q o
  pub one_answer : (q : Lent) (o p : Outcome) → Answers q o → Answers q p → o ≡ p
  pub numbers_tell : TellsApart reading_numbers

-- THE ROWS, of an outcome o
pub record Rows (q : Lent) (o : Outcome) : Type 0 where
  -- 16 with a place exactly when the text goes wrong there
  pub sixteen : (p : ℕ) → (o.reading ≡ wrong p) ↔ WrongAt q.text p
  -- where the text is that of a tree t:
  -- 17 exactly when the lists are not right or a name of the text is not known
  pub seventeen : (t : Text) → Says q.text t → (o.reading ≡ refused 17) ↔ (known q t ≡ false)
  -- 18 exactly when that is not so, and a limit is passed or a name set is empty
  pub eighteen : (t : Text) → Says q.text t → (o.reading ≡ refused 18) ↔ ((known q t ≡ true) × (within q t ≡ false))
  -- 15 exactly when neither is so, and a buffer is too short
  pub fifteen : (t : Text) → Says q.text t
      → (o.reading ≡ refused 15) ↔ ((known q t ≡ true) × (within q t ≡ true) × (room q t ≡ false))
  -- read exactly when none is so
  pub read_exactly : (t : Text) → Says q.text t
      → ((L S : ℕ) × (o.reading ≡ read L S)) ↔ ((known q t ≡ true) × (within q t ≡ true) × (room q t ≡ true))
  -- no other number is given
  pub no_other : (n : ℕ) → o.reading ≡ refused n → (n ≡ 17) ⊎ (n ≡ 18) ⊎ (n ≡ 15)
  -- a refusal writes nothing
  pub sixteen_keeps : (p : ℕ) → o.reading ≡ wrong p → (o.sheet ≡ q.sheet) × (o.table ≡ q.table)
  pub refused_keeps : (n : ℕ) → o.reading ≡ refused n → (o.sheet ≡ q.sheet) × (o.table ≡ q.table)

-- WHAT WAS READ, of an outcome o that says read L S, and of the text's tree t
pub record ReadRight (q : Lent) (o : Outcome) (L S : ℕ) (t : Text) : Type 1 where
  -- the text is that tree's, and no other's
  pub says : Says q.text t
  pub only : (u : Text) → Says q.text u → u ≡ t
  -- the first L bytes of the sheet's buffer are a sheet that the judge accepts, and stand for the text's class; the others are kept
  pub sheet : take L o.sheet ≡ sheet_for q t
  pub accepted : Accepted (take L o.sheet)
  pub stands : class_of (take L o.sheet) ≡ class_for q t
  pub sheet_kept : drop L o.sheet ≡ drop L q.sheet
  pub sheet_long : length o.sheet ≡ length q.sheet
  -- so whatever is asked of that sheet is asked of the text's class
  pub asked : {A : Type 0} (rest : Class → Reply A) → on_sheet (take L o.sheet) rest ≡ rest (class_for q t)
  -- S is the number of own states, and the first 32 S bytes of the table's buffer are their names' records; the others are kept
  pub states : S ≡ own_states t
  pub class_states : S ≡ length (class_for q t).states
  pub table : records_in 32 (take (32 * S) o.table) ≡ map padded (own_names t)
  pub table_right : list_right 32 (take (32 * S) o.table) ≡ true
  pub table_kept : drop (32 * S) o.table ≡ drop (32 * S) q.table
  pub table_long : length o.table ≡ length q.table

-- of every answer, where the child classes are lent as bytes
pub record Reads : Type 1 where
  pub one : One
  pub rows : (q : Lent) (o : Outcome) → Answers q o → Rows q o
  pub right : (q : Lent) (o : Outcome) → Bytes q.lists.classes → Answers q o → (L S : ℕ) → o.reading ≡ read L S → (t : Text) × ReadRight q o L S t
