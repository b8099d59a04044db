-- `read_text` meets its contract: by the lists, by the text's names, or as `read_known` answers.
-- Assumes nothing.
use Rattle.model.proofs.Words.{passed, not_passed}
use Rattle.reading.proofs.Answering.{wrong_lists, unknown_name, names_known}
use mathlib.Core.Path.{ap}
use mathlib.Core.Bool.{not}
use Rattle.reading.proofs.read_text.Goals as goal

pub returns-then-not-lists_right : goal.returns-then-not-lists_right
returns-then-not-lists_right c = wrong_lists _ (not_passed c.lists_right.ensures (ap not c.if-not-lists_right.true))

pub returns-then-not-text_known : goal.returns-then-not-text_known
returns-then-not-text_known c = unknown_name _ _ c.text_known.ensures (c.if-not-text_known.true)

pub returns : goal.returns
returns c = names_known _ _ c.read_known.result _ _ (passed c.lists_right.ensures (ap not c.if-not-lists_right.false)) c.text_known.ensures (c.if-not-text_known.false) c.read_known.ensures
