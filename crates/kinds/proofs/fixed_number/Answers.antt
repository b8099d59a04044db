use Rattle.model.specs.Words.{listed}
use Rattle.grammar.specs.Words.{spelled, fixed_words}
use Rattle.kinds.proofs.fixed_number.Goals as goal

pub returns : goal.returns
unfolding fixed_words spelled listed
returns c = c.number_among.ensures
