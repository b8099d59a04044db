-- One name that opens every definition of the loop question on a sheet, and what it rests on, so that a closed question computes: `unfolding computing`.
-- Assumes nothing.
use Rattle.loops.specs.LoopQuestion.{bits_below, present_right, bytes_of_loops, reply_loop}
use Rattle.sheet.proofs.Computing.{computing as computing_sheet}
use Rattle.children.proofs.Computing.{computing as computing_children}
use Rattle.configurations.proofs.Computing.{computing as computing_configurations}

unfoldable pub computing : Unit {0}
unfolding bits_below present_right bytes_of_loops reply_loop computing_sheet computing_children computing_configurations
computing = tt
