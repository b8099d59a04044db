-- The lent lists: child state names, commands, child classes with their name sets, each in the order of its numbers.
-- Assumes nothing.
use Rattle.std.specs.Prelude.{ℕ, ◌+◌, ◌-◌, ◌*◌, ◌/◌, ◌%◌, Bool, true, ◌&&◌, ◌||◌, not, List, [], ◌∷◌, ◌++◌, eqb, leb, ltb, length, take, drop}
use Rattle.model.specs.Words.{choose, every, some_in, listed, each, has}
use Rattle.records.specs.Bytes.{u32}
use Rattle.grammar.specs.Words.{is_name, same, position}

-- what is lent: the bytes of the three lists
pub record Lists : Type 0 where
  pub names : List ℕ
  pub commands : List ℕ
  pub classes : List ℕ

-- a name's record: its characters, and zeros up to 32 bytes
unfoldable pub padded : List ℕ → List ℕ
padded n = n ++ listed 0 (32 - length n) (λ _. 0)

-- what stands before the first zero
unfoldable pub characters : List ℕ → List ℕ
characters [] = []
characters (b ∷ bs) = choose (eqb b 0) (λ _. []) (λ _. b ∷ characters bs)

-- a record is that of a name
unfoldable pub record_right : List ℕ → Bool
record_right r = is_name (characters r) && same r (padded (characters r))

-- the name records of a list whose records have that many bytes
unfoldable pub records_in : ℕ → List ℕ → List (List ℕ)
records_in size b = listed 0 (length b / size) (λ i. take 32 (drop (i * size) b))

-- no entry stands twice
unfoldable pub none_twice : List (List ℕ) → Bool
none_twice [] = true
none_twice (n ∷ ns) = not (some_in (same n) ns) && none_twice ns

-- whole records, each that of a name, and no name twice
unfoldable pub list_right : ℕ → List ℕ → Bool
list_right size b = eqb (length b % size) 0 && (every record_right (records_in size b) && none_twice (records_in size b))

abbrev pub child_names : Lists → List (List ℕ)
child_names l = records_in 32 l.names

abbrev pub command_names : Lists → List (List ℕ)
command_names l = records_in 32 l.commands

-- a class's record is 36 bytes: its name's, and its name set
abbrev pub class_names : Lists → List (List ℕ)
class_names l = records_in 36 l.classes

unfoldable pub class_sets : Lists → List ℕ
class_sets l = listed 0 (length l.classes / 36) (λ i. u32 l.classes (i * 36 + 32))

-- every bit of a name set has a name, where there are n names
unfoldable pub bits_named : ℕ → ℕ → Bool
bits_named n s = each 32 (λ i. not (has s i) || ltb i n)

-- 17, the lists: they are in order, used or not
unfoldable pub lists_right : Lists → Bool
lists_right l =
    list_right 32 l.names && (list_right 32 l.commands && (list_right 36 l.classes && every (bits_named (length (child_names l))) (class_sets l)))

-- 18, the lists: at most 32 child state names and 64 commands
unfoldable pub lists_within : Lists → Bool
lists_within l = leb (length (child_names l)) 32 && leb (length (command_names l)) 64

-- the number of a name in a list, and that it has one
unfoldable pub number_in : List (List ℕ) → List ℕ → ℕ
number_in records n = position records (padded n)

unfoldable pub listed_in : List (List ℕ) → List ℕ → Bool
listed_in records n = ltb (number_in records n) (length records)
