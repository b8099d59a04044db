use borrow.Author.Rules.{rules}
use Rattle.std.proofs.lemmas.Iterator.{YieldsList-from_slice}
use Rattle.std.proofs.lemmas.Iterator.Search.{position_from_yields_List}
use Rattle.grammar.specs.Words.{same}
use Rattle.kinds.proofs.Laws.{placed}
use Rattle.kinds.proofs.number_among.Goals as goal

pub returns : goal.returns
returns c =
    placed _ c.args.table.now _
    (position_from_yields_List (λ t. same t.now c.args.word.now) _ _ _ c.position.ensures.ran (YieldsList-from_slice c.args.table.now c.iter.ensures.rest) (λ x b q k. search rules))
