-- What the program prints of two heads and a class sheet: the second head as it stands, and the text of the sheet's class. The class's own
-- name and states are those of the first head, the lists are those of the second; nothing is printed where something is refused.
-- Assumes nothing.
use Rattle.std.specs.Prelude.{ℕ, Result, Ok, Err, ◌+◌, ◌≤◌, ◌≡◌, Bool, ◌&&◌, List, [], ◌++◌, eqb, ltb, length, take}
use Rattle.model.specs.Words.{choose}
use Rattle.model.specs.Answers.{write_numbers, WriteAnswer}
use Rattle.model.specs.Replies.{Reply, refuse, give, Answered}
use Rattle.naming.specs.NameLists.{Lists}
use Rattle.sheet.specs.Asked.{on_sheet}
use Rattle.writings.specs.Layout.{Named}
use Rattle.writings.specs.Writings.{named, reply_text, text_values}
use Rattle.classfile.specs.Heads as H
use Rattle.classfile.specs.Heads.{stretch, head_of, room}
use Rattle.saying.specs.declared.Why.{Why}
use Rattle.writeclass.specs.declared.converting.ClassFile.{ClassFile}

-- the reply to a sheet with these names, where the text has this room: 1 to 9, 17, 19, 15, or the text
unfoldable pub text_reply : List ℕ → Named → List ℕ → Reply ℕ
text_reply b n out = on_sheet b λ c. reply_text n c out

abbrev pub Replied : List ℕ → Named → List ℕ → WriteAnswer → List ℕ → Type 0
Replied b n out r after = Answered text_values (text_reply b n out) out (write_numbers r) after

-- a head, and the text behind it
abbrev pub headed : List ℕ → Reply ℕ → List ℕ
headed head (refuse n) = []
headed head (give a text) = head ++ text

-- the lists of the first head: the records of one class, and no command
abbrev pub one_class : ℕ → ℕ → Bool
one_class classes commands = eqb classes 36 && eqb commands 0

module _ (file out : List ℕ) where
  -- the class file of the head that stands between two places, and the sheet behind it
  unfoldable pub text_file : Named → ℕ → ℕ → List ℕ
  text_file n from start = headed (stretch file from start) (text_reply (stretch file start (length file)) n out)

  -- that of the second head, which begins at a place, and the sheet behind it
  unfoldable pub second_file : List ℕ → List ℕ → ℕ → H.Outcome → List ℕ
  second_file own_name own_states from (H.read l size) = text_file (named own_name own_states l.names l.commands l.classes) from (from + size)
  second_file own_name own_states from (H.wrong x start end l) = []

  -- that of what stands behind the first head, which has these lists: its one class is the class itself, its names are the own states
  unfoldable pub opened : Lists → ℕ → List ℕ
  opened own from =
      choose (one_class (length own.classes) (length own.commands))
      (λ _. second_file (take 32 own.classes) own.names from (head_of (stretch file from (length file)) room))
      (λ _. [])

  unfoldable pub first_file : H.Outcome → List ℕ
  first_file (H.read own from) = opened own from
  first_file (H.wrong x start end l) = []

-- THE CLASS FILE of two heads and a sheet, where the text has this room; a file that is too long has none
unfoldable pub class_file : List ℕ → List ℕ → List ℕ
class_file file out = choose (ltb 262144 (length file)) (λ _. []) (λ _. first_file file out (head_of file room))

-- what comes of a file: which bytes of it, and how many bytes of the text; or why there are none
abbrev pub Outcome : Type 0
Outcome = Result ClassFile Why

abbrev pub made : ℕ → ℕ → ℕ → Outcome
made from to size = Ok (record { from = from; to = to; length = size })

-- what is printed of an outcome: bytes of the file, and bytes of the text
abbrev pub printed : List ℕ → Outcome → List ℕ → List ℕ
printed file (Ok m) text = stretch file m.from m.to ++ take m.length text
printed file (Err why) text = []

-- they are there
abbrev pub Inside : List ℕ → Outcome → List ℕ → Type 0
Inside file (Ok m) text = (m.from ≤ m.to) × (m.to ≤ length file) × (m.length ≤ length text)
Inside file (Err why) text = Unit {0}

pub record Prints (file want : List ℕ) (r : Outcome) (text : List ℕ) : Type 0 where
  pub inside : Inside file r text
  pub prints : printed file r text ≡ want

-- what comes of a file
abbrev pub Converted : List ℕ → List ℕ → Outcome → List ℕ → Type 0
Converted file before r after = Prints file (class_file file before) r after
