-- `text_known` meets its contract, for every tree that the text says.
-- Assumes nothing.
use Rattle.model.proofs.Words.{passed, not_passed}
use Rattle.own.proofs.HeldLaws.{filled_holds}
use Rattle.known.proofs.RoleLaws.{told_twice, told_known}
use mathlib.Core.Path.{ap}
use mathlib.Core.Bool.{not}
use Rattle.known.proofs.text_known.Goals as goal

pub returns-then-not-all_differ : goal.returns-then-not-all_differ
returns-then-not-all_differ c = λ t s. told_twice _ _ t s (not_passed c.all_differ.ensures (ap not c.if-not-all_differ.true))

pub words_known-requires : goal.words_known-requires
words_known-requires c = filled_holds _ _ _ _ _ _ _ c.hold-held.ensures

pub returns : goal.returns
returns c = λ t s. told_known _ _ t s (passed c.all_differ.ensures (ap not c.if-not-all_differ.false)) _ _ _ c.hold-held.ensures _ c.words_known.ensures
