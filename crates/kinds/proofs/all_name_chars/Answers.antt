use borrow.Author.Rules.{rules}
use mathlib.Core.Path.{◌∙◌}
use Rattle.std.proofs.lemmas.Iterator.{YieldsList-from_slice}
use Rattle.std.proofs.lemmas.Iterator.Search.{all_from_yields_List}
use Rattle.grammar.specs.Words.{name_char}
use Rattle.kinds.proofs.Laws.{every_is}
use Rattle.kinds.proofs.all_name_chars.Goals as goal

pub returns : goal.returns
returns c = all_from_yields_List name_char _ _ _ c.all.ensures.ran (YieldsList-from_slice c.args.word.now c.iter.ensures.rest) (λ x b q k. search rules) ∙ every_is _ _
