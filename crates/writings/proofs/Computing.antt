-- One name that opens every definition of the text of a class, and what it rests on, so that a closed text computes: `unfolding computing`.
-- Assumes nothing.
use Rattle.sheet.proofs.Computing.{computing as computing_sheet}
use Rattle.naming.proofs.Computing.{computing as computing_naming}
use Rattle.writings.specs.Layout.{name_at, indent, line, names_of, commas, set_text, quantifier_text, side_text, kin_text, guard_text, own_text, command_text, part_text, referrer_text, when_text, action_text, state_text, states_text, class_text}
use Rattle.writings.specs.Missing.{guard_named, part_named, action_named, state_named, class_named, own_right, lent_right, names_right}
use Rattle.writings.specs.Writings.{guards_few, reply_text}

unfoldable pub computing : Unit {0}
unfolding computing_sheet computing_naming name_at indent line names_of commas set_text quantifier_text side_text kin_text guard_text own_text command_text part_text referrer_text when_text action_text state_text states_text class_text guard_named part_named action_named state_named class_named own_right lent_right names_right guards_few reply_text
computing = tt
