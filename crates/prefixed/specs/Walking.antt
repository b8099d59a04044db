-- How the tables of the code hold what is known on the way, and what its functions promise.
-- Assumes nothing.
use Rattle.std.specs.Prelude.{ℕ, zero, suc, ◌+◌, ◌-◌, ◌*◌, ◌≤◌, ◌≡◌, true, List, [], ◌∷◌, length, get_or, take}
use Rattle.grammar.specs.Grammar.{Text}
use Rattle.grammar.specs.Reading.{Says}
use Rattle.naming.specs.NameLists.{Lists, child_names, class_names}
use Rattle.naming.specs.Naming.{class_in}
use Rattle.naming.specs.Known.{text_known}
use Rattle.encoding.specs.Records.{eights}
use Rattle.encoding.specs.Encoding.{all_guards}
use Rattle.prefixed.specs.declared.walks.Stand.{Stand}
use Rattle.ordering.specs.Ordering.{Way, run}

-- n keys from a place on, the latest first
unfoldable pub latest : List ℕ → ℕ → ℕ → List ℕ
latest keys first zero = []
latest keys first (suc n) = get_or keys (first + n) 0 ∷ latest keys first n

-- the left operand of an operator of key k begins at record r, where count records stand and the guard's first is `first`
pub record LeftOperand (keys : List ℕ) (first count k r : ℕ) : Type 0 where
  pub inside : r ≤ count
  pub long : count - r ≡ run k (latest keys first (count - first))

-- the same stand with another number of open brackets
abbrev pub leveled : Stand → ℕ → Stand
leveled s n = record { level = n; first = s.first; count = s.count }

-- the records of the stand are inside the tables
pub record Safe (s : Stand) (keys bytes : List ℕ) : Type 0 where
  pub begun : s.first ≤ s.count
  pub held : s.count ≤ length keys
  pub room : s.count * 8 ≤ length bytes

-- the tables hold what is known
pub record Shows (s : Stand) (keys bytes : List ℕ) (w : Way) : Type 0 where
  pub level : w.level ≡ s.level
  pub latest_keys : w.keys ≡ latest keys s.first (s.count - s.first)
  pub count : length w.records ≡ s.count
  pub records : take (s.count * 8) bytes ≡ eights w.records

-- so many records have room in the tables
abbrev pub Fits : Way → List ℕ → List ℕ → Type 0
Fits w keys bytes = (length w.records ≤ length keys) × (length w.records * 8 ≤ length bytes)

-- from a stand and its tables to another: f is done to what they hold, if that has room
pub record Turned (s r : Stand) (keys bytes after_keys after_bytes : List ℕ) (f : Way → Way) : Type 0 where
  pub safe : Safe r after_keys after_bytes
  pub risen : r.level ≤ s.level + 1
  pub shows : (w : Way) → Shows s keys bytes w → Fits (f w) keys bytes → Shows r after_keys after_bytes (f w)

-- the guard records of a text that is known, in the sheet's order, if they have room
pub record Ordered (text names classes bytes : List ℕ) (count : ℕ) : Type 0 where
  pub room : count * 8 ≤ length bytes
  pub right : (l : Lists) (t : Text) → l.names ≡ names → l.classes ≡ classes → Says text t → text_known l t ≡ true
      → length (child_names l) ≤ 32 → length (class_names l) ≤ 8 → length (all_guards (class_in l t)) ≤ 1024 → length (all_guards (class_in l t)) * 8 ≤ length bytes
      → (count ≡ length (all_guards (class_in l t))) × (take (count * 8) bytes ≡ eights (all_guards (class_in l t)))
