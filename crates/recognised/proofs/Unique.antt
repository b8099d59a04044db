-- The promise leaves one answer.
-- Assumes nothing.
use mathlib.Core.Path.{refl, ap}
use Rattle.std.specs.Prelude.{Ok, Err}
use Rattle.grammar.proofs.OneWay.{one_way}
use Rattle.recognised.specs.Recognised.{Recognised, Unique}

pub unique : Unique
unfolding Recognised
unique text (Err p) (Err q) v w = ap Err (one_way.one_place text p q v w)
unique text (Err p) (Ok u) v (t, s) = absurd (one_way.never_both text t p s v)
unique text (Ok u) (Err q) (t, s) w = absurd (one_way.never_both text t q s w)
unique text (Ok u) (Ok x) v w = refl
