-- The answer, the children behind a loop, and the line feed.
-- Assumes nothing.
use mathlib.Core.Path.{sym, ◌∙◌}
use mathlib.Core.List.{append-nil}
use Rattle.texts.proofs.Appending.{appended_then}
use Rattle.loopline.proofs.loopcheck_line.Goals as goal

pub returns-then-is_loop : goal.returns-then-is_loop
returns-then-is_loop c =
    let text = appended_then _ _ _ _ _ _ _ _ c.looping_line-end.ensures c.append_children-last.ensures in
    rw (sym c.is_loop.ensures ∙ c.if-is_loop.true) (appended_then _ _ _ _ _ _ _ _ text c.append_byte.ensures)

pub returns : goal.returns
returns c = rw (sym c.is_loop.ensures ∙ c.if-is_loop.false, append-nil) (appended_then _ _ _ _ _ _ _ _ c.looping_line-end.ensures c.append_byte-2.ensures)
