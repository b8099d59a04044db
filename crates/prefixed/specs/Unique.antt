-- The promises of the public functions of this floor leave one answer, and one content of a lent table as far as it is told.
-- Assumes nothing.
use Rattle.std.specs.Prelude.{ℕ, ◌*◌, ◌≤◌, ◌≡◌, true, List, length, take}
use Rattle.grammar.specs.Grammar.{Text}
use Rattle.grammar.specs.Reading.{Says}
use Rattle.naming.specs.NameLists.{Lists, child_names, class_names}
use Rattle.naming.specs.Naming.{class_in}
use Rattle.naming.specs.Known.{text_known}
use Rattle.encoding.specs.Encoding.{all_guards}
use Rattle.prefixed.specs.Walking.{Ordered}

pub record Unique : Type 0 where
  -- the guard records of a text that is known, which have room in either table
  pub ordering : (l : Lists) (t : Text) (text : List ℕ) → Says text t → text_known l t ≡ true → length (child_names l) ≤ 32 → length (class_names l) ≤ 8
      → length (all_guards (class_in l t)) ≤ 1024 → (x y : List ℕ) → length (all_guards (class_in l t)) * 8 ≤ length x → length (all_guards (class_in l t)) * 8 ≤ length y
      → (m n : ℕ) → Ordered text l.names l.classes x m → Ordered text l.names l.classes y n → (m ≡ n) × (take (m * 8) x ≡ take (n * 8) y)
