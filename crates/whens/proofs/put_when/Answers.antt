-- By the referrer that is ahead; its name stands in the text.
-- Assumes nothing.
use native.Mathlib.Omega.{arith}
use Rattle.whens.proofs.AheadLaws.{move_stands, do_stands, put_move, put_do, put_stay}
use Rattle.whens.proofs.put_when.Goals as goal

pub slice_bounds-own_number-count : goal.slice_bounds-own_number-count
slice_bounds-own_number-count c = (move_stands _ _ 0 _ c.referrer_ahead-to.ensures _ c.in-MoveTo.is).ordered

pub slice_bounds-own_number-start : goal.slice_bounds-own_number-start
slice_bounds-own_number-start c =
    let s = move_stands _ _ 0 _ c.referrer_ahead-to.ensures _ c.in-MoveTo.is in
    omega arith

pub slice_bounds-own_number-end : goal.slice_bounds-own_number-end
slice_bounds-own_number-end c =
    let s = move_stands _ _ 0 _ c.referrer_ahead-to.ensures _ c.in-MoveTo.is in
    omega arith

pub slice_bounds-action_number-count : goal.slice_bounds-action_number-count
slice_bounds-action_number-count c = (do_stands _ _ 0 _ c.referrer_ahead-to.ensures _ c.in-Do.is).ordered

pub slice_bounds-action_number-start : goal.slice_bounds-action_number-start
slice_bounds-action_number-start c =
    let s = do_stands _ _ 0 _ c.referrer_ahead-to.ensures _ c.in-Do.is in
    omega arith

pub slice_bounds-action_number-end : goal.slice_bounds-action_number-end
slice_bounds-action_number-end c =
    let s = do_stands _ _ 0 _ c.referrer_ahead-to.ensures _ c.in-Do.is in
    omega arith

pub returns-in-MoveTo : goal.returns-in-MoveTo
returns-in-MoveTo c = put_move _ _ _ _ c.referrer_ahead-to.ensures _ _ _ _ _ c.in-MoveTo.is _ c.own_number-state.ensures c.put_record.ensures

pub returns-in-Do : goal.returns-in-Do
returns-in-Do c = put_do _ _ _ _ c.referrer_ahead-to.ensures _ _ _ _ _ c.in-Do.is _ c.action_number-action.ensures c.put_record-in-Do.ensures

pub returns-in-Stay : goal.returns-in-Stay
returns-in-Stay c = put_stay _ _ _ _ c.referrer_ahead-to.ensures _ _ _ _ c.in-Stay.is c.put_record-in-Stay.ensures
