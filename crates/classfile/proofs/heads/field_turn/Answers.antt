use Rattle.classfile.proofs.TurnLaws.{line_turned, word_turned}
use Rattle.classfile.proofs.heads.field_turn.Goals as goal

pub returns-in-LineEnd : goal.returns-in-LineEnd
returns-in-LineEnd c = line_turned _ _ _ _ _ c.requires.fits _ _ _ _ _ _ c.in-LineEnd.is c.requires.stands c.line_turn.ensures

pub returns : goal.returns
returns c = word_turned _ _ _ _ _ c.args.used _ _ _ _ _ _ c.in_default.not-LineEnd c.word_turn.ensures
