-- `zeros_from` meets its contract: what `all` ran through, the bytes from the place on, is what `all_zero` runs through.
-- Assumes nothing.
use Prim.Native.Nat.{◌-◌}
use native.Mathlib.Omega.{arith}
use mathlib.Core.Path.{◌∙◌}
use lib.Dec.{eqb}
use lib.ListN.{length, drop, length-drop}
use lib.Seq.{take_all}
use borrow.Author.Rules.{rules}
use borrow.Author.Tests.{tests}
use Rattle.std.proofs.lemmas.Iterator.{YieldsList-from_slice}
use Rattle.std.proofs.lemmas.Iterator.Search.{all_from_yields_List}
use Rattle.model.proofs.Runs.{all_every}
use Rattle.lists.specs.Lent.{all_zero}
use Rattle.lists.proofs.zeros_from.Goals as goal

pub returns : goal.returns
unfolding all_zero
returns c =
    let bytes = c.args.bytes.now in
    let e = c.iter.ensures.rest ∙ take_all (length bytes - c.args.at) (drop c.args.at bytes) (simp length-drop (omega arith)) in
    all_from_yields_List (λ x. eqb x 0) _ _ _ c.all.ensures.ran (YieldsList-from_slice (drop c.args.at bytes) e) (λ x b q k. search (rules, tests))
    ∙ all_every (λ x. eqb x 0) (drop c.args.at bytes)
