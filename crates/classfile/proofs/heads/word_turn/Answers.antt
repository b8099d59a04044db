use Rattle.classfile.proofs.TurnLaws.{first_turned, name_turned, command_turned, class_turned, state_turned}
use Rattle.classfile.proofs.heads.word_turn.Goals as goal

pub returns-in-Begins : goal.returns-in-Begins
returns-in-Begins c = first_turned _ _ _ _ _ c.requires.fits _ _ _ _ c.in-Begins.is c.first_word.ensures

pub returns-in-Names : goal.returns-in-Names
returns-in-Names c = name_turned _ _ _ _ _ c.requires.fits _ _ _ _ _ c.in-Names.is c.name_word.ensures

pub returns-in-Commands : goal.returns-in-Commands
returns-in-Commands c = command_turned _ _ _ _ _ c.requires.fits _ _ _ _ _ c.in-Commands.is c.command_word.ensures

pub returns-in-Class : goal.returns-in-Class
returns-in-Class c = class_turned _ _ _ _ _ c.requires.fits _ _ _ _ c.requires.start_le_end.0 c.requires.start_le_end.1 c.in-Class.is c.class_word.ensures

pub returns-in-States : goal.returns-in-States
returns-in-States c = state_turned _ _ _ _ _ c.requires.fits _ _ _ _ _ _ _ c.in-States.is c.requires.stands c.state_word.ensures
