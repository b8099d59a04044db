-- The command's own part, a space, and the phase.
-- Assumes nothing.
use Rattle.texts.proofs.Appending.{appended_then, appended_same}
use Rattle.lines.proofs.LineLaws.{command_given}
use Rattle.lines.proofs.answers.given_line.Goals as goal

pub returns : goal.returns
returns c =
    let a = c.args in
    appended_same _ _ _ _ _ _ (command_given a.handling a.phase) (appended_then _ _ _ _ _ _ _ _ c.handled_line-end.ensures (appended_then _ _ _ _ _ _ _ _ c.append_byte-next.ensures c.append_phase.ensures))
