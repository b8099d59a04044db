-- The promises of this floor leave one answer.
-- Assumes nothing.
use Prim.Native.Nat.{ℕ}
use native.Mathlib.Omega.{arith}
use mathlib.Core.Path.{◌≡◌, sym, ap, ◌∙◌}
use mathlib.Core.List.{List}
use lib.ListN.{get_or}
use lib.Seq.{ext_get_or}
use Rattle.model.specs.Tree.{Child}
use Rattle.lanes.specs.Counting.{Counts}
use Rattle.lanes.specs.Unique.{Unique}
use Rattle.lanes.specs.declared.counting.Present.{Present}
use Rattle.lanes.proofs.LaneLaws.{lanes_one}

one_counting : (xs : List Child) (present : ℕ) (r s : Present) → Counts xs present r → Counts xs present s → r ≡ s
one_counting xs present r s g h =
    let a : r.classes ≡ s.classes = g.same ∙ sym h.same in
    let m : r.masks ≡ s.masks = ext_get_or 0 r.masks s.masks (g.masks_long ∙ sym h.masks_long) (λ i l. let z = g.masks_long in g.mask i (omega arith) ∙ sym (h.mask i (omega arith))) in
    let w : r.lows ≡ s.lows = ext_get_or 0 r.lows s.lows (g.lows_long ∙ sym h.lows_long) (λ i l. let z = g.lows_long in
    let e : get_or s.masks i 0 ≡ get_or r.masks i 0 = sym (ap (λ (x : List ℕ). get_or x i 0) m) in
    lanes_one (g.lows_right.low i (omega arith)) (rw e at (h.lows_right.low i (omega arith)))) in
    λ i. record { classes = a i; masks = m i; lows = w i }

pub unique : Unique
unique = record { words = λ f r s p q. lanes_one p q; present = one_counting }
