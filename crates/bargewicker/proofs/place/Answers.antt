-- `place`: the checks of the child list and of the asked state are the paper's 10 and 11.
-- Assumes nothing.
use Rattle.bargewicker.proofs.PlacingLaws.{classes_short, place_10, place_11, place_0}
use mathlib.Core.Path.{ap}
use mathlib.Core.Bool.{not}
use Rattle.bargewicker.proofs.place.Goals as goal

pub list_ok-requires : goal.list_ok-requires
list_ok-requires c = classes_short _ _ c.args.sheet.stands _ c.body.ensures

pub returns-then-not-list_ok : goal.returns-then-not-list_ok
returns-then-not-list_ok c = place_10 _ _ c.args.sheet.stands _ _ c.body.ensures _ c.list_ok.ensures _ (ap not c.if-not-list_ok.true)

pub returns-then-state_count-state : goal.returns-then-state_count-state
returns-then-state_count-state c = place_11 _ _ c.args.sheet.stands _ _ c.body.ensures _ c.list_ok.ensures _ (ap not c.if-not-list_ok.false) _ c.state_count.ensures.0 c.if-state_count-state.true

pub returns : goal.returns
returns c = place_0 _ _ c.args.sheet.stands _ _ c.body.ensures _ c.list_ok.ensures _ (ap not c.if-not-list_ok.false) _ c.state_count.ensures.0 c.if-state_count-state.false
