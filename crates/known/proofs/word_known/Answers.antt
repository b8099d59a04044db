-- `word_known` meets its contract, test by test.
-- Assumes nothing.
use Rattle.model.proofs.Words.{passed, not_passed}
use Rattle.known.proofs.RoleLaws.{no_name, no_such_action, no_such_state, name_told}
use mathlib.Core.Path.{ap}
use mathlib.Core.Bool.{not}
use Rattle.known.proofs.word_known.Goals as goal

pub returns-then-kind-ne-NAME : goal.returns-then-kind-ne-NAME
returns-then-kind-ne-NAME c = no_name _ _ _ _ _ _ _ c.if-kind-ne-NAME.true

pub returns-then-not-action_for : goal.returns-then-not-action_for
returns-then-not-action_for c = no_such_action _ _ _ _ _ _ _ c.if-kind-ne-NAME.false (not_passed c.action_for.ensures (ap not c.if-not-action_for.true))

pub returns-then-not-own_for : goal.returns-then-not-own_for
returns-then-not-own_for c = no_such_state _ _ _ _ _ _ _ c.if-kind-ne-NAME.false (passed c.action_for.ensures (ap not c.if-not-action_for.false)) (not_passed c.own_for.ensures (ap not c.if-not-own_for.true))

pub returns : goal.returns
returns c = name_told _ _ _ _ _ _ _ c.if-kind-ne-NAME.false (passed c.action_for.ensures (ap not c.if-not-action_for.false)) (passed c.own_for.ensures (ap not c.if-not-own_for.false)) _ c.listed_for.ensures
