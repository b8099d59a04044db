-- That what a function here promises of a text leaves one result and one content of the lent buffer. Its other promises are equations.
-- Assumes nothing.
use Rattle.std.specs.Prelude.{ℕ, ◌≡◌, List, Option}
use Rattle.texts.specs.Texts.{Appended}
use Rattle.texts.specs.Fields.{Finds, FindsNext, Decodes}

-- a text written, a field decoded, a byte found
pub record Unique : Type 0 where
  pub appended : (before x y : List ℕ) (at : ℕ) (text : List ℕ) (m n : ℕ) → Appended before x at text m → Appended before y at text n → (x ≡ y) × (m ≡ n)
  pub decoded : (field before x y : List ℕ) (r s : Option ℕ) → Decodes field before x r → Decodes field before y s → (x ≡ y) × (r ≡ s)
  pub found : (b : ℕ) (l : List ℕ) (at r s : ℕ) → Finds b l at r → Finds b l at s → r ≡ s
  pub next : (b : ℕ) (l : List ℕ) (at : ℕ) (r s : Option ℕ) → FindsNext b l at r → FindsNext b l at s → r ≡ s
