-- `turn_from`: a law for each answer of the probe.
-- Assumes nothing.
use Rattle.children.specs.ChildList.{children_of}
use Rattle.sheet.proofs.Rules.{accepted_right}
use Rattle.phases.proofs.TurnLaws.{do_there, found_do, turns_none, turns_moves, turns_stay, turns_do}
use Rattle.phases.proofs.turn_from.Goals as goal

pub returns-in_default : goal.returns-in_default
returns-in_default c = turns_none _ (accepted_right _ c.args.sheet.stands.accepted) _ _ _ c.args.crew.runnable.crewed _ c.probe.ensures _ _ c.in_default.is

pub run_do-requires : goal.run_do-requires
run_do-requires c = let right = accepted_right _ c.args.sheet.stands.accepted in (do_there _ right _ _ _ _ (found_do _ right _ _ (children_of c.args.crew.list.now) _ c.probe.ensures c.args.crew.runnable.crewed _ _ _ c.in-Some.is c.in-Do.is), c.requires)

pub returns-in-MoveTo : goal.returns-in-MoveTo
returns-in-MoveTo c = turns_moves _ (accepted_right _ c.args.sheet.stands.accepted) _ _ _ c.args.crew.runnable.crewed _ c.probe.ensures _ _ _ _ c.in-Some.is _ c.in-MoveTo.is

pub returns-in-Do : goal.returns-in-Do
returns-in-Do c = turns_do _ (accepted_right _ c.args.sheet.stands.accepted) _ _ _ c.args.crew.runnable.crewed _ c.probe.ensures _ _ _ _ c.in-Some.is _ c.in-Do.is _ _ c.run_do.ensures

pub returns-in-Stay : goal.returns-in-Stay
returns-in-Stay c = turns_stay _ (accepted_right _ c.args.sheet.stands.accepted) _ _ _ c.args.crew.runnable.crewed _ c.probe.ensures _ _ _ _ c.in-Some.is c.in-Stay.is
