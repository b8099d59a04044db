-- `right_word`: the left operand's size is read before the word.
-- Assumes nothing.
use Rattle.truths.proofs.WordLaws.{word_there}
use Rattle.truths.proofs.filling.right_word.Goals as goal

pub returns : goal.returns
returns c = let a = c.args in word_there a.sizes.now a.words.now a.i _ _ c.size_at.ensures.0 c.word_at.ensures
