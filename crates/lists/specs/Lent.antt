-- What the functions over the lent lists promise.
-- Assumes nothing.
use Rattle.std.specs.Prelude.{ℕ, ◌+◌, ◌-◌, ◌*◌, ◌/◌, ◌≤◌, ◌≡◌, Bool, Option, Some, None, List, eqb, ltb, length, take, drop}
use Rattle.model.specs.Words.{choose, every, listed}
use Rattle.records.specs.Bytes.{u32}
use Rattle.grammar.specs.Words.{position}
use Rattle.naming.specs.NameLists.{Lists, characters}
use Rattle.lists.specs.declared.Lists as Code

-- the three lists, as they are lent
abbrev pub lent : List ℕ → List ℕ → List ℕ → Lists
lent names commands classes = record { names = names; commands = commands; classes = classes }

-- the three lists that the code's struct holds
abbrev pub lists_of : Code.Lists → Lists
lists_of l = lent l.names.now l.commands.now l.classes.now

-- the name record of record i of a list of records of that many bytes
abbrev pub name_record : ℕ → List ℕ → ℕ → List ℕ
name_record size b i = take 32 (drop (i * size) b)

-- the entries behind entry i of a table of n
unfoldable pub behind : (ℕ → List ℕ) → ℕ → ℕ → List (List ℕ)
behind f n i = listed (i + 1) (n - (i + 1)) f

-- the number of the first entry that is the word, where the first of all has the number n; or that none is
unfoldable pub found_from : ℕ → List (List ℕ) → List ℕ → Option ℕ
found_from n entries word = choose (ltb (position entries word) (length entries)) (λ _. Some (n + position entries word)) (λ _. None)

-- the name sets of a list of child classes
unfoldable pub sets_in : List ℕ → List ℕ
sets_in b = listed 0 (length b / 36) (λ i. u32 b (i * 36 + 32))

-- every byte is zero
unfoldable pub all_zero : List ℕ → Bool
all_zero b = every (λ x. eqb x 0) b

-- what stands before the first zero of a record is its first n bytes
pub record Characters (r : List ℕ) (n : ℕ) : Type 0 where
  pub inside : n ≤ length r
  pub whole : take n r ≡ characters r

-- how many records of that many bytes a list has
pub record Count (b : List ℕ) (size n : ℕ) : Type 0 where
  pub is : n ≡ length b / size
  pub small : n ≤ length b
