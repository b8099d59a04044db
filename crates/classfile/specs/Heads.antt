-- The head of a class file: lines of names, of commands and of child classes, up to an empty line. The lists that it gives are those that
-- the class text is read with.
-- Assumes nothing.
use Rattle.std.specs.Prelude.{ℕ, Result, Ok, Err, ◌-◌, ◌^◌, List, [], ◌∷◌, ◌++◌, eqb, ltb, length, take, drop}
use Rattle.std.specs.Int.Bits.{bit_or}
use Rattle.model.specs.Words.{choose, has}
use Rattle.grammar.specs.Words.{spelled, same, is_name}
use Rattle.naming.specs.NameLists.{Lists, padded, records_in, number_in, listed_in}
use Rattle.lists.specs.Lent.{lent}
use Rattle.laying.specs.Laying.{number_bytes}
use Rattle.classfile.specs.Fields.{Field, is_line_end, is_file_end, fields_from}
use Rattle.classfile.specs.declared.fields.Kind.{Kind}
use Rattle.classfile.specs.declared.parts.Fault.{Fault}
use Rattle.classfile.specs.declared.parts.Fault.TheVariants.{UnknownLine, LineTwice, NoName, NameTwice, TooMany, NotListed, NoClass, NoStates, NoEmptyLine}
use Rattle.classfile.specs.declared.heads.Line.{Line}
use Rattle.classfile.specs.declared.heads.Line.TheVariants.{Begins, Names, Commands, Class, States}

-- the bytes from a place to another
abbrev pub stretch : List ℕ → ℕ → ℕ → List ℕ
stretch file start end = take (end - start) (drop start file)

-- whether a word can stand in its list; a class's set with one state more; or what is wrong
abbrev pub Judged : Type 0
Judged = Result (Unit {0}) Fault

abbrev pub Grown : Type 0
Grown = Result ℕ Fault

-- whether a word can be the next name of a list, in records of that many bytes, where so many bytes are left for it
unfoldable pub judge_name : ℕ → ℕ → List ℕ → List ℕ → Judged
judge_name size left b w =
    choose (is_name w)
    (λ _. choose (listed_in (records_in size b) w) (λ _. Err NameTwice) λ _. choose (ltb left size) (λ _. Err TooMany) λ _. Ok tt)
    (λ _. Err NoName)

-- the set with that number, once
unfoldable pub with_number : ℕ → ℕ → Grown
with_number set n = choose (ltb 31 n) (λ _. Err TooMany) λ _. choose (has set n) (λ _. Err NameTwice) λ _. Ok (bit_or set (2 ^ n))

-- the set with the number that the word has among the names
unfoldable pub add_state : List ℕ → ℕ → List ℕ → Grown
add_state names set w = choose (listed_in (records_in 32 names) w) (λ _. with_number set (number_in (records_in 32 names) w)) (λ _. Err NotListed)

-- the record of a class: its name's, and its set
unfoldable pub class_record : List ℕ → ℕ → List ℕ
class_record name set = padded name ++ number_bytes set

-- what a field comes to: the head goes on in that line with these lists, it is over, or something is wrong
pub data Turn : Type 0 where
  on : Line → Lists → Turn
  over : Turn
  bad : Fault → Turn

abbrev pub judged : Judged → (Unit {0} → Turn) → Turn
judged (Ok tt) t = t tt
judged (Err x) t = bad x

abbrev pub grown : Grown → (ℕ → Turn) → Turn
grown (Ok set) t = t set
grown (Err x) t = bad x

-- a line that may stand once
unfoldable pub once : Line → List ℕ → Lists → Turn
once line b l = choose (ltb 0 (length b)) (λ _. bad LineTwice) (λ _. on line l)

-- the first word of a line
unfoldable pub first_turn : Lists → List ℕ → Turn
first_turn l w =
    choose (same (spelled "names") w) (λ _. once Names l.names l) λ _.
    choose (same (spelled "commands") w) (λ _. once Commands l.commands l) λ _.
    choose (same (spelled "class") w) (λ _. on Class l) λ _. bad UnknownLine

-- how many bytes there are for each list
pub record Rooms : Type 0 where
  pub names : ℕ
  pub commands : ℕ
  pub classes : ℕ

-- room for 32 names, 64 commands and 8 classes
abbrev pub room : Rooms
room = record { names = 1024; commands = 2048; classes = 288 }

module _ (file : List ℕ) (room : Rooms) where
  -- a word, which stands at a place
  unfoldable pub word_turn : ℕ → ℕ → Line → Lists → Turn
  word_turn start end Begins l = first_turn l (stretch file start end)
  word_turn start end Names l =
      judged (judge_name 32 (room.names - length l.names) l.names (stretch file start end)) λ _.
      on Names (lent (l.names ++ padded (stretch file start end)) l.commands l.classes)
  word_turn start end Commands l =
      judged (judge_name 32 (room.commands - length l.commands) l.commands (stretch file start end)) λ _.
      on Commands (lent l.names (l.commands ++ padded (stretch file start end)) l.classes)
  word_turn start end Class l =
      judged (judge_name 36 (room.classes - length l.classes) l.classes (stretch file start end)) λ _. on (States start end 0) l
  word_turn start end (States a b set) l = grown (add_state l.names set (stretch file start end)) λ more. on (States a b more) l

  -- the end of a line; that of an empty line ends the head
  unfoldable pub line_turn : Line → Lists → Turn
  line_turn Begins l = over
  line_turn Names l = on Begins l
  line_turn Commands l = on Begins l
  line_turn Class l = bad NoClass
  line_turn (States a b set) l =
      choose (eqb set 0) (λ _. bad NoStates) λ _. on Begins (lent l.names l.commands (l.classes ++ class_record (stretch file a b) set))

  unfoldable pub turn : Kind → ℕ → ℕ → Line → Lists → Turn
  turn kind start end line l = choose (is_line_end kind) (λ _. line_turn line l) (λ _. word_turn start end line l)

-- a head with its lists, and where the class text starts; or what is wrong, the place that shows it, and the lists so far
pub data Outcome : Type 0 where
  read : Lists → ℕ → Outcome
  wrong : Fault → ℕ → ℕ → Lists → Outcome

abbrev pub after : Turn → Lists → ℕ → ℕ → (Line → Lists → Outcome) → Outcome
after (on line m) l start end go = go line m
after over l start end go = read l end
after (bad x) l start end go = wrong x start end l

unfoldable pub reads : List ℕ → Rooms → Line → Lists → List Field → Outcome
reads file room line l [] = wrong NoEmptyLine 0 0 l
reads file room line l (f ∷ fs) =
    choose (is_file_end f.kind) (λ _. wrong NoEmptyLine f.start f.end l) λ _.
    after (turn file room f.kind f.start f.end line l) l f.start f.end (λ next m. reads file room next m fs)

-- the head of a file
unfoldable pub head_of : List ℕ → Rooms → Outcome
head_of file room = reads file room Begins (lent [] [] []) (fields_from file 0)
