-- Each of the three records names the result and the content by equations.
-- Assumes nothing.
use mathlib.Core.Path.{◌≡◌, refl, sym, ◌∙◌, ap}
use Rattle.texts.specs.Unique.{Unique}
use native.Mathlib.Omega.{arith}
use Prim.Native.Nat.{ℕ}
use mathlib.Core.List.{List}
use Rattle.std.specs.Prelude.{Option, Some, None}
use Rattle.texts.specs.Fields.{FindsNext}

-- where a byte stands next, or that it does not
same_next : (b : ℕ) (l : List ℕ) (at : ℕ) (r s : Option ℕ) → FindsNext b l at r → FindsNext b l at s → r ≡ s
same_next b l at None None e f = refl
same_next b l at None (Some s) e f = absurd (omega (arith, e.place, f.0, f.1.place))
same_next b l at (Some r) None e f = absurd (omega (arith, f.place, e.0, e.1.place))
same_next b l at (Some r) (Some s) e f = ap Some (e.1.place ∙ sym f.1.place)

pub unique : Unique
unique =
    record {
      appended = λ before x y at text m n a b. (a.buffer ∙ sym b.buffer, a.place ∙ sym b.place);
      decoded = λ field before x y r s a b. (a.buffer ∙ sym b.buffer, a.result ∙ sym b.result);
      found = λ b l at r s e f. e.place ∙ sym f.place;
      next = same_next;
    }
