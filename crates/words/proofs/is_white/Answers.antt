use mathlib.Core.Path.{refl}
use Rattle.grammar.specs.Words.{white}
use Rattle.words.proofs.is_white.Goals as goal

pub returns : goal.returns
unfolding white
returns c = refl
