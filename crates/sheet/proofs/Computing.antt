-- One name that opens every definition of the sheet, and what it rests on, so that a closed question computes: `unfolding computing`.
-- Assumes nothing.
use Rattle.sheet.specs.Contents.{body, length_right, bodies_follow, counts_in_range, contents_right, bodies}
use Rattle.sheet.specs.Rules.{refusal_in, refusal}
use Rattle.sheet.specs.Reading.{guard_in, when_in, action_in, state_in, class_in, class_of}
use Rattle.sheet.specs.Verdict.{verdict}
use Rattle.sheet.specs.Asked.{on_sheet}
use Rattle.bodies.proofs.Computing.{computing as computing_bodies}

unfoldable pub computing : Unit {0}
unfolding body length_right bodies_follow counts_in_range contents_right bodies refusal_in refusal guard_in when_in action_in state_in class_in class_of verdict on_sheet computing_bodies
computing = tt
