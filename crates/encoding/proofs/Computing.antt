-- One name that opens every definition of the encoding, and what it rests on, so that a closed question computes: `unfolding computing`.
-- Assumes nothing.
use Rattle.encoding.specs.Records.{fours, eights}
use Rattle.encoding.specs.Encoding.{kind_number, guard_records, part_guards, part_records, gathered, placed, state_records, contents, sheet_of}
use Rattle.encoding.specs.Limits.{operators, part_depth, part_guards_of, counts_within, sets_within, guards_within, depths_within, within_limits}
use Rattle.sheet.proofs.Computing.{computing as computing_sheet}

unfoldable pub computing : Unit {0}
unfolding fours eights kind_number guard_records part_guards part_records gathered placed state_records contents sheet_of operators part_depth part_guards_of counts_within sets_within guards_within depths_within within_limits computing_sheet
computing = tt
