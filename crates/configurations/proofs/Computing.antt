-- One name that opens every definition of the loop question, and what it rests on, so that a closed question computes: `unfolding computing`.
-- Assumes nothing.
use Rattle.configurations.specs.Configurations.{cell, cells, chosen, list_of}
use Rattle.configurations.specs.LoopAnswer.{returning, counts, has_loop, longest, longest_in, loop_answer}
use Rattle.model.proofs.Computing.{computing as computing_model}

unfoldable pub computing : Unit {0}
unfolding cell cells chosen list_of returning counts has_loop longest longest_in loop_answer computing_model
computing = tt
