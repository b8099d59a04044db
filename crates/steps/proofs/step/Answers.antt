-- each arm by the turns of what is wanted there
use mathlib.Core.Path.{refl}
use Rattle.steps.proofs.Going.{link, arm}
use Rattle.steps.specs.Going.{going}
use Rattle.steps.specs.Turns.{turns}
use Rattle.steps.proofs.step.Goals as goal

pub returns-in-Start : goal.returns-in-Start
unfolding going turns
returns-in-Start c = arm _ _ _ _ _ _ _ _ c.in-Start.is c.on.ensures

pub returns-in-ClassRead : goal.returns-in-ClassRead
unfolding going turns
returns-in-ClassRead c = arm _ _ _ _ _ _ _ _ c.in-ClassRead.is c.on-in-ClassRead.ensures

pub returns-in-TopRead : goal.returns-in-TopRead
unfolding going turns
returns-in-TopRead c = arm _ _ _ _ _ _ _ _ c.in-TopRead.is c.on-in-TopRead.ensures

pub returns-in-ClassNamed : goal.returns-in-ClassNamed
unfolding going turns
returns-in-ClassNamed c = arm _ _ _ _ _ _ _ _ c.in-ClassNamed.is c.on-in-ClassNamed.ensures

pub returns-in-StateRead : goal.returns-in-StateRead
unfolding going turns
returns-in-StateRead c = arm _ _ _ _ _ _ _ _ c.in-StateRead.is c.on-in-StateRead.ensures

pub returns-in-InWhens : goal.returns-in-InWhens
unfolding going turns
returns-in-InWhens c = arm _ _ _ _ _ _ _ _ c.in-InWhens.is c.whens.ensures

pub returns-in-OperandWanted : goal.returns-in-OperandWanted
unfolding going turns
returns-in-OperandWanted c = arm _ _ _ _ _ _ _ _ c.in-OperandWanted.is c.operand.ensures

pub returns-in-KinWanted : goal.returns-in-KinWanted
unfolding going turns
returns-in-KinWanted c = arm _ _ _ _ _ _ _ _ c.in-KinWanted.is c.either.ensures

pub returns-in-SideWanted : goal.returns-in-SideWanted
unfolding going turns
returns-in-SideWanted c = arm _ _ _ _ _ _ _ _ c.in-SideWanted.is c.either-in-SideWanted.ensures

pub returns-in-SetWanted : goal.returns-in-SetWanted
unfolding going turns
returns-in-SetWanted c = arm _ _ _ _ _ _ _ _ c.in-SetWanted.is c.either-in-SetWanted.ensures

pub returns-in-LeftRead : goal.returns-in-LeftRead
unfolding going turns
returns-in-LeftRead c = arm _ _ _ _ _ _ _ _ c.in-LeftRead.is c.on-in-LeftRead.ensures

pub returns-in-CommaRead : goal.returns-in-CommaRead
unfolding going turns
returns-in-CommaRead c = arm _ _ _ _ _ _ _ _ c.in-CommaRead.is c.on-in-CommaRead.ensures

pub returns-in-NamesRead : goal.returns-in-NamesRead
unfolding going turns
returns-in-NamesRead c = arm _ _ _ _ _ _ _ _ c.in-NamesRead.is c.either-in-NamesRead.ensures

pub returns-in-OperandRead : goal.returns-in-OperandRead
unfolding going turns
returns-in-OperandRead c = arm _ _ _ _ _ _ _ _ c.in-OperandRead.is c.operators.ensures

pub returns-in-MoveRead : goal.returns-in-MoveRead
unfolding going turns
returns-in-MoveRead c = arm _ _ _ _ _ _ _ _ c.in-MoveRead.is c.on-in-MoveRead.ensures

pub returns-in-DoRead : goal.returns-in-DoRead
unfolding going turns
returns-in-DoRead c = arm _ _ _ _ _ _ _ _ c.in-DoRead.is c.on-in-DoRead.ensures

pub returns-in-StayRead : goal.returns-in-StayRead
unfolding going turns
returns-in-StayRead c = arm _ _ _ _ _ _ _ _ c.in-StayRead.is (link _ _ _ _ _ c.on-in-StayRead.ensures c.whens-in-StayRead.ensures)

pub returns-in-ActionRead : goal.returns-in-ActionRead
unfolding going turns
returns-in-ActionRead c = arm _ _ _ _ _ _ _ _ c.in-ActionRead.is c.on-in-ActionRead.ensures

pub returns-in-Statements : goal.returns-in-Statements
unfolding going turns
returns-in-Statements c = arm _ _ _ _ _ _ _ _ c.in-Statements.is c.statement.ensures

pub returns-in-SendRead : goal.returns-in-SendRead
unfolding going turns
returns-in-SendRead c = arm _ _ _ _ _ _ _ _ c.in-SendRead.is c.on-in-SendRead.ensures

pub returns-in-CommandRead : goal.returns-in-CommandRead
unfolding going turns
returns-in-CommandRead c = arm _ _ _ _ _ _ _ _ c.in-CommandRead.is c.on-in-CommandRead.ensures

pub returns-in-SendAllRead : goal.returns-in-SendAllRead
unfolding going turns
returns-in-SendAllRead c = arm _ _ _ _ _ _ _ _ c.in-SendAllRead.is c.either-in-SendAllRead.ensures

pub returns-in-GoRead : goal.returns-in-GoRead
unfolding going turns
returns-in-GoRead c = arm _ _ _ _ _ _ _ _ c.in-GoRead.is c.on-in-GoRead.ensures

pub returns-in-Finished : goal.returns-in-Finished
unfolding going turns
returns-in-Finished c = arm _ _ _ _ _ _ _ _ c.in-Finished.is refl
