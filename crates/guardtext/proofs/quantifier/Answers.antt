-- `quantifier` meets its contract, kind by kind.
-- Assumes nothing.
use mathlib.Core.Logic.{inl, inr}
use Rattle.model.specs.Words.{listed}
use Rattle.grammar.specs.Words.{spelled}
use Rattle.writings.specs.Layout.{quantifier_text}
use Rattle.guardtext.proofs.quantifier.Goals as goal

pub returns-in-AnyIn : goal.returns-in-AnyIn
unfolding quantifier_text spelled listed
returns-in-AnyIn c = elim c.in-AnyIn.is [ inl e ↦ rw e | inr e ↦ rw e ]

pub returns-in-AllIn : goal.returns-in-AllIn
unfolding quantifier_text spelled listed
returns-in-AllIn c = elim c.in-AllIn.is [ inl e ↦ rw e | inr e ↦ rw e ]
