-- `side` meets its contract, kind by kind.
-- Assumes nothing.
use mathlib.Core.Logic.{inl, inr}
use Rattle.model.specs.Words.{listed}
use Rattle.grammar.specs.Words.{spelled}
use Rattle.writings.specs.Layout.{side_text}
use Rattle.guardtext.proofs.side.Goals as goal

pub returns-in-AnyIn : goal.returns-in-AnyIn
unfolding side_text spelled listed
returns-in-AnyIn c = elim c.in-AnyIn.is [ inl e ↦ rw e | inr e ↦ rw e ]

pub returns-in-AnyNotIn : goal.returns-in-AnyNotIn
unfolding side_text spelled listed
returns-in-AnyNotIn c = elim c.in-AnyNotIn.is [ inl e ↦ rw e | inr e ↦ rw e ]
