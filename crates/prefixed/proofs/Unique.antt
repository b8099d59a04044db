-- The promises of this floor leave one answer.
-- Assumes nothing.
use mathlib.Core.Path.{refl, sym, ◌∙◌}
use Rattle.prefixed.specs.Unique.{Unique}

pub unique : Unique
unique =
    record {
      ordering = λ l t text says k few fewer fits x y rx ry m n a b.
          let (p, q) = a.right l t refl refl says k few fewer fits rx in
          let (u, v) = b.right l t refl refl says k few fewer fits ry in
          (p ∙ sym u, q ∙ sym v);
    }
