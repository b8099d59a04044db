-- What the program prints of a class file: the sheet of its class text, read with the lists of its head; nothing where either is refused.
-- Assumes nothing.
use Rattle.std.specs.Prelude.{ℕ, ◌<◌, ◌≤◌, ◌≡◌, List, length, replicate, Result, Ok, Err}
use Rattle.naming.specs.NameLists.{Lists}
use Rattle.readings.specs.Promise.{Answered}
use Rattle.classfile.specs.Heads as H
use Rattle.classfile.specs.Heads.{stretch, head_of, room}
use Rattle.saying.specs.declared.Why.{Why}
use Rattle.model.specs.declared.Misread.TheVariants.{Refused, WrongWord}
use Rattle.model.specs.Answers.{ReadAnswer}

-- how many bytes of the sheet are printed
abbrev pub size_of : Result ℕ Why → ℕ
size_of (Ok size) = size
size_of (Err why) = 0

abbrev pub size_read : ReadAnswer → ℕ
size_read (Ok (size, states)) = size
size_read (Err (WrongWord place)) = 0
size_read (Err (Refused x)) = 0

-- a class text is read with these lists, and its sheet is left in the buffer, of that many bytes
pub record TextRead (text : List ℕ) (l : Lists) (before : List ℕ) (size : ℕ) (after : List ℕ) : Type 0 where
  pub answer : ReadAnswer
  pub table : List ℕ
  pub answered : Answered (record { text = text; lists = l; sheet = before; table = replicate 1024 0 }) answer after table
  pub prints : size ≡ size_read answer

-- what comes of a head
abbrev pub Made : H.Outcome → List ℕ → List ℕ → ℕ → List ℕ → Type 0
Made (H.read l start) file before size after = TextRead (stretch file start (length file)) l before size after
Made (H.wrong x start end l) file before size after = (size ≡ 0) × (after ≡ before)

-- what comes of a file
pub record Converted (file before : List ℕ) (size : ℕ) (after : List ℕ) : Type 0 where
  pub long : 1310720 < length file → (size ≡ 0) × (after ≡ before)
  pub short : length file ≤ 1310720 → Made (head_of file room) file before size after
