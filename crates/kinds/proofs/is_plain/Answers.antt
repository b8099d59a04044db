use Rattle.model.specs.Words.{listed}
use Rattle.grammar.specs.Words.{spelled, bare_runs}
use Rattle.kinds.proofs.Laws.{none_numbered}
use Rattle.kinds.proofs.is_plain.Goals as goal

pub returns : goal.returns
unfolding bare_runs spelled listed
returns c = none_numbered bare_runs _ _ _ c.number_among.ensures c.is_none.ensures
