-- The lines of the examples, computed from their bytes.
-- Assumes nothing.
use mathlib.Core.Path.{refl}
use Rattle.loops.proofs.Computing.{computing}
use Rattle.texts.specs.Texts.{decimal_of, decimal_text}
use Rattle.lines.specs.Lines.{said, text_of, child_fields}
use Rattle.loopcheck.specs.Line.{all_present, loop_reply, line}
use Rattle.loopcheck.specs.Examples.{Examples}

pub examples : Examples
unfolding computing decimal_of decimal_text said text_of child_fields all_present loop_reply line
examples = record { of_A = refl; of_B = refl; of_nothing = refl }
