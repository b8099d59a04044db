-- `record_right` meets its contract.
-- Assumes nothing.
use Prim.Native.Nat.{◌-◌}
use mathlib.Core.Path.{refl, sym, ◌∙◌, ap}
use mathlib.Core.Bool.{◌&&◌}
use lib.ListN.{take, drop}
use Rattle.grammar.specs.Words.{same}
use Rattle.naming.specs.NameLists.{padded}
use Rattle.lists.proofs.RecordLaws.{right_told}
use Rattle.lent.proofs.record_right.Goals as goal

pub returns-then-is_name : goal.returns-then-is_name
returns-then-is_name c = ap (λ t. t && c.record_is.result) (sym c.if-is_name.true) ∙ right_told _ _ c.name_length-n.ensures _ _ c.is_name.ensures c.record_is.ensures

pub returns-else-is_name : goal.returns-else-is_name
returns-else-is_name c =
    let r = c.args.bytes.now in
    let is = same r (padded (take (c.name_length-n.result - 0) (drop 0 r))) in
    c.if-is_name.false ∙ ap (λ t. t && is) (sym c.if-is_name.false) ∙ right_told _ _ c.name_length-n.ensures _ is c.is_name.ensures refl
