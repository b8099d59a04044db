-- One name that opens every definition of the questions, and what it rests on, so that a closed question computes: `unfolding computing`.
-- Assumes nothing.
use Rattle.commands.specs.Handling.{bytes_of_handling, handling_values, bytes_of_commanded, reply_commanded, commanded_values}
use Rattle.phases.specs.Phasing.{bytes_of_phase, reply_phase, phasing_values}
use Rattle.bargewicker.specs.Questions.{placed, reply_command, reply}
use Rattle.bargewicker.specs.Numbers.{values}
use Rattle.bargewicker.specs.Placing.{placed_refusal}
use Rattle.bargewicker.specs.Cases.{given}
use Rattle.bargewicker.specs.Table.{first_failed, body_checks, sheet_checks, place_checks, phase_checks, command_checks, loop_checks, text_checks, table}
use Rattle.model.proofs.Computing.{computing as computing_model}
use Rattle.sheet.proofs.Computing.{computing as computing_sheet}
use Rattle.children.proofs.Computing.{computing as computing_children}
use Rattle.loops.proofs.Computing.{computing as computing_loops}
use Rattle.writings.proofs.Computing.{computing as computing_writings}

unfoldable pub computing : Unit {0}
unfolding placed bytes_of_phase reply_phase phasing_values bytes_of_handling bytes_of_commanded reply_commanded reply_command reply handling_values commanded_values values placed_refusal given first_failed body_checks sheet_checks place_checks phase_checks command_checks loop_checks text_checks table computing_model computing_sheet computing_children computing_loops computing_writings
computing = tt
