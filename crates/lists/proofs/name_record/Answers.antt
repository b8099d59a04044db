-- `name_record` cuts 32 bytes, from `size` times i on.
-- Assumes nothing.
use Prim.Native.Nat.{ℕ, ◌+◌, ◌-◌, ◌*◌}
use native.Mathlib.Omega.{arith}
use mathlib.Core.Path.{◌≡◌, ◌∙◌, ap}
use lib.ListN.{length, take, drop}
use borrow.Author.Rules.{rules}
use Rattle.lists.specs.Lent.{name_record}
use Rattle.lists.proofs.RecordLaws.{record_inside, record_length}
use Rattle.lists.proofs.name_record.Goals as goal

pub overflow_mul-from : goal.overflow_mul-from
overflow_mul-from c = let h = record_inside c.args.list.now c.args.size c.args.i c.requires.1 in record { fits = omega arith }

pub overflow_add-to : goal.overflow_add-to
overflow_add-to c = let h = record_inside c.args.list.now c.args.size c.args.i c.requires.1 in record { fits = omega arith }

pub slice_bounds-result-start : goal.slice_bounds-result-start
slice_bounds-result-start c = let h = record_inside c.args.list.now c.args.size c.args.i c.requires.1 in search rules

pub slice_bounds-result-end : goal.slice_bounds-result-end
slice_bounds-result-end c = let h = record_inside c.args.list.now c.args.size c.args.i c.requires.1 in search rules

pub returns : goal.returns
returns c =
    let a = c.args in
    let e : take (a.i * a.size + 32 - a.i * a.size) (drop (a.i * a.size) a.list.now) ≡ name_record a.size a.list.now a.i =
    ap (λ (n : ℕ). take n (drop (a.i * a.size) a.list.now)) (let z : a.i * a.size + 32 - a.i * a.size ≡ 32 = omega arith in z) in
    (e, ap length e ∙ record_length _ _ _ c.requires.0 c.requires.1)
