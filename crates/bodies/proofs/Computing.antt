-- One name that opens every definition of the bodies, and what it rests on, so that a closed question computes: `unfolding computing`.
-- Assumes nothing.
use Rattle.bodies.specs.StatementRecords.{if_from, statement_from, part_with, part_at}
use Rattle.bodies.specs.StatementReaders.{statement_record}
use Rattle.bodies.specs.PartChecks.{part_right, parts_of, statement_right}
use Rattle.bodies.specs.Clauses.{count_sum, referrer_of, statements_of, body_of}
use Rattle.bodies.specs.BodyRules.{classes_right, counts_right, records_right, guards_right, state_targets_right, targets_right, actions_plain, new_command, none_twice, commands_apart, actions_right, statements_right}
use Rattle.records.proofs.Computing.{computing as computing_records}

unfoldable pub computing : Unit {0}
unfolding if_from statement_from part_with part_at statement_record part_right parts_of statement_right count_sum referrer_of statements_of body_of classes_right counts_right records_right guards_right state_targets_right targets_right actions_plain new_command none_twice commands_apart actions_right statements_right computing_records
computing = tt
