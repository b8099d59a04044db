-- Reading a class text: which answer it gets, and what the two lent buffers hold afterwards.
-- Assumes nothing.
use Rattle.std.specs.Prelude.{ℕ, ◌*◌, ◌≡◌, Bool, ◌&&◌, List, [], ◌∷◌, ◌⊎◌, leb, length}
use Rattle.model.specs.Words.{choose}
use Rattle.model.specs.Replies.{written}
use Rattle.model.specs.Tree.{Class}
use Rattle.grammar.specs.Grammar.{Text}
use Rattle.grammar.specs.Reading.{Says, WrongAt}
use Rattle.naming.specs.NameLists.{Lists, lists_right, lists_within}
use Rattle.naming.specs.Naming.{own_names, class_in, table_of}
use Rattle.naming.specs.Known.{text_known}
use Rattle.encoding.specs.Encoding.{sheet_of}
use Rattle.encoding.specs.Limits.{within_limits}

-- what the caller lends: a text, the lists of names, a buffer for the sheet and one for the table of own states
pub record Lent : Type 0 where
  pub text : List ℕ
  pub lists : Lists
  pub sheet : List ℕ
  pub table : List ℕ

-- 16 with its place; another refusal, its number alone; or read, with the length of the sheet and the number of own states
pub data Reading : Type 0 where
  wrong : ℕ → Reading
  refused : ℕ → Reading
  read : ℕ → ℕ → Reading

-- an answer, and the two buffers after it
pub record Outcome : Type 0 where
  pub reading : Reading
  pub sheet : List ℕ
  pub table : List ℕ

-- an answer that writes nothing
abbrev pub unwritten : Lent → Reading → Outcome
unwritten q r = record { reading = r; sheet = q.sheet; table = q.table }

-- the class of the tree t, its sheet, and the number of its own states
abbrev pub class_for : Lent → Text → Class
class_for q t = class_in q.lists t

abbrev pub sheet_for : Lent → Text → List ℕ
sheet_for q t = sheet_of (class_for q t)

abbrev pub own_states : Text → ℕ
own_states t = length (own_names t)

-- 17: the lists are right, and the text's names are known
unfoldable pub known : Lent → Text → Bool
known q t = lists_right q.lists && text_known q.lists t

-- 18: no limit is passed, and no child class has an empty name set
unfoldable pub within : Lent → Text → Bool
within q t = lists_within q.lists && within_limits (class_for q t)

-- 15: there is room for the sheet, and for the table
unfoldable pub room : Lent → Text → Bool
room q t = leb (length (sheet_for q t)) (length q.sheet) && leb (32 * own_states t) (length q.table)

-- both are written at the heads of their buffers, and what stands behind them is kept
unfoldable pub filled : Lent → Text → Outcome
filled q t =
    record {
      reading = read (length (sheet_for q t)) (own_states t);
      sheet = written (sheet_for q t) q.sheet;
      table = written (table_of t) q.table;
    }

-- a check: its refusal, or what stands behind it, which is looked at only where it passed
abbrev pub check : Lent → Bool → ℕ → (Unit {0} → Outcome) → Outcome
check q ok n rest = choose ok rest (λ _. unwritten q (refused n))

-- what is answered to a text that is that of the tree t
unfoldable pub outcome : Lent → Text → Outcome
outcome q t = check q (known q t) 17 λ _. check q (within q t) 18 λ _. check q (room q t) 15 λ _. filled q t

-- THE ANSWER: 16 at the place where the text goes wrong, and nothing written; else what is answered to the text's tree
abbrev pub Answers : Lent → Outcome → Type 0
Answers q o = ((p : ℕ) × WrongAt q.text p × (o ≡ unwritten q (wrong p))) ⊎ ((t : Text) × Says q.text t × (o ≡ outcome q t))

-- the paper's numbers of an answer: 0 for no refusal, else the refusal, then the values
unfoldable pub reading_numbers : Reading → List ℕ
reading_numbers (wrong p) = 16 ∷ p ∷ []
reading_numbers (refused n) = n ∷ []
reading_numbers (read length states) = 0 ∷ length ∷ states ∷ []
