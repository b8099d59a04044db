-- What follows of a class text that was written: it is read back with the same lists, as a sheet that has the same tree and so the same
-- answer to every question; a sheet that came from a text comes back byte for byte; and no quantifier is lost.
-- Assumes nothing.
use Rattle.std.specs.Prelude.{ℕ, ◌*◌, ◌≤◌, ◌≡◌, true, List, [], ◌∷◌, ◌++◌, length, take, Ok, Err}
use Rattle.model.specs.declared.Misread.TheVariants.{Refused}
use Rattle.model.specs.Answers.{JudgeAnswer, ProbeAnswer, PhaseAnswer, CommandAnswer, LoopAnswer, WriteAnswer, ReadAnswer}
use Rattle.model.specs.Words.{Bytes}
use Rattle.model.specs.Tree.{Kind, Guard, atom, both, either, opposite, Class}
use Rattle.model.specs.Replies.{written}
use Rattle.model.specs.declared.Refusal.TheVariants.{Room}
use Rattle.sheet.specs.Rules.{Accepted}
use Rattle.sheet.specs.Reading.{class_of}
use Rattle.encoding.specs.Encoding.{gathered, sheet_of}
use Rattle.encoding.specs.Limits.{guards_of}
use Rattle.readings.specs.Readings.{Lent}
use Rattle.readings.specs.Promise.{Answered}
use Rattle.writings.specs.Layout.{Named, class_text}
use Rattle.writings.specs.Missing.{names_right}
use Rattle.writings.specs.Writings.{guards_few}
use Rattle.bargewicker.specs.Questions.{judge, probe_in, phase_from, command_in, loop_with, text_of}
use Rattle.bargewicker.specs.Promises.{Promised}

-- a sheet that is accepted and whose text is written with these names, given room: neither 17 nor 19 applies
pub record Writable (b : List ℕ) (n : Named) : Type 0 where
  pub bytes : Bytes b
  pub accepted : Accepted b
  pub named : names_right n (class_of b) ≡ true
  pub few : guards_few (class_of b) ≡ true

-- the sheet that its text is read back as
abbrev pub sheet_back : List ℕ → List ℕ
sheet_back b = sheet_of (class_of b)

-- there is room for that sheet, and for the table
abbrev pub Roomy : List ℕ → Lent → Type 0
Roomy b q = (length (sheet_back b) ≤ length q.sheet) × (32 * length (class_of b).states ≤ length q.table)

-- READING BACK, with the same lists and any buffers: never 16, 17 or 18. With room the text is read: that sheet and the table as it was stand
-- at the heads of the buffers; without it is 15
pub record ReadsBack (b : List ℕ) (n : Named) (q : Lent) (r : ReadAnswer) (sheet table : List ℕ) : Type 0 where
  pub with_room : Roomy b q
      → (r ≡ Ok (length (sheet_back b), length (class_of b).states)) × (sheet ≡ written (sheet_back b) q.sheet) × (table ≡ written n.own_states q.table)
  pub without : (Roomy b q → ⊥) → (r ≡ Err (Refused Room)) × (sheet ≡ q.sheet) × (table ≡ q.table)

-- THE SAME ANSWERS: whatever is promised of the one sheet and of the other is the same verdict, the same numbers, the same buffer
pub record SameAnswers (b d : List ℕ) : Type 0 where
  pub judging : (r s : JudgeAnswer) (x y : List ℕ) → Promised (judge b) r x → Promised (judge d) s y → (r ≡ s) × (x ≡ y)
  pub probing : (l : List ℕ) (q : ℕ) (r s : ProbeAnswer) (x y : List ℕ) → Promised (probe_in b l q) r x → Promised (probe_in d l q) s y → (r ≡ s) × (x ≡ y)
  pub phasing : (l : List ℕ) (q : ℕ) (out : List ℕ) (r s : PhaseAnswer) (x y : List ℕ)
      → Promised (phase_from b l q out) r x → Promised (phase_from d l q out) s y → (r ≡ s) × (x ≡ y)
  pub commanding : (l : List ℕ) (q m : ℕ) (out : List ℕ) (r s : CommandAnswer) (x y : List ℕ)
      → Promised (command_in b l q m out) r x → Promised (command_in d l q m out) s y → (r ≡ s) × (x ≡ y)
  pub looping : (present : ℕ) (out : List ℕ) (r s : LoopAnswer) (x y : List ℕ)
      → Promised (loop_with b present out) r x → Promised (loop_with d present out) s y → (r ≡ s) × (x ≡ y)
  pub writing : (n : Named) (out : List ℕ) (r s : WriteAnswer) (x y : List ℕ)
      → Promised (text_of b n out) r x → Promised (text_of d n out) s y → (r ≡ s) × (x ≡ y)

-- the kinds of the atoms of a class, in the order of its text: ANY or ALL, in or not in
unfoldable pub kinds_in : Guard → List Kind
kinds_in (atom k p s) = k ∷ []
kinds_in (both g h) = kinds_in g ++ kinds_in h
kinds_in (either g h) = kinds_in g ++ kinds_in h
kinds_in (opposite g) = kinds_in g

abbrev pub kinds_of : Class → List Kind
kinds_of c = gathered kinds_in (guards_of c)

pub record WrittenBack : Type 1 where
  -- the written text is read back
  pub read_back : (b : List ℕ) (n : Named) → Writable b n → (q : Lent) → q.text ≡ class_text n (class_of b) → q.lists ≡ n.lists
      → (r : ReadAnswer) (sheet table : List ℕ) → Answered q r sheet table → ReadsBack b n q r sheet table
  -- the sheet read back is accepted and has the same tree, so it has the same answers, and writing it gives the same text
  pub same_tree : (b : List ℕ) (n : Named) → Writable b n → Accepted (sheet_back b) × (class_of (sheet_back b) ≡ class_of b)
  pub same_answers : (b : List ℕ) (n : Named) → Writable b n → SameAnswers b (sheet_back b)
  -- a sheet that came from a text is read back byte for byte
  pub from_text : (q : Lent) (length states : ℕ) (sheet table : List ℕ) → Bytes q.lists.classes → Answered q (Ok (length, states)) sheet table
      → sheet_back (take length sheet) ≡ take length sheet
  -- sheets whose texts are the same have the same tree; so sheets that differ in an atom's kind have different texts
  pub one_tree : (b d : List ℕ) (n : Named) → Writable b n → Writable d n → class_text n (class_of b) ≡ class_text n (class_of d) → class_of b ≡ class_of d
  pub quantifiers : (b d : List ℕ) (n : Named) → Writable b n → Writable d n → (kinds_of (class_of b) ≡ kinds_of (class_of d) → ⊥)
      → class_text n (class_of b) ≡ class_text n (class_of d) → ⊥
  -- no text is longer
  pub at_most : (b : List ℕ) (n : Named) → Writable b n → length (class_text n (class_of b)) ≤ 1259860
