-- The invariant: what is left has the answer. A turn looks at one byte.
-- Assumes nothing.
use mathlib.Core.Path.{sym}
use Rattle.texts.proofs.HexLaws.{figure_value, no_figure, hex_on, hex_broken, hex_end}
use Rattle.texts.proofs.reading.all_hex.Goals as goal

pub returns-then-is_none : goal.returns-then-is_none
returns-then-is_none c = sym (hex_broken _ _ _ c.loop-x-test.true c.loop-x.invariant (no_figure _ _ c.hex_value.ensures c.if-is_none.ensures))

pub loop-x-preserved : goal.loop-x-preserved
loop-x-preserved c = hex_on _ _ _ c.loop-x-test.true c.loop-x.invariant (figure_value _ _ c.hex_value.ensures c.if-is_none.ensures)

pub returns : goal.returns
returns c = sym (hex_end _ _ _ c.loop-x-test.false c.loop-x.invariant)
