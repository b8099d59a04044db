-- `phase_from`: 10 and 11, then what the phase comes to on the children of the list.
-- Assumes nothing.
use native.Mathlib.Omega.{arith}
use mathlib.Core.Path.{◌≡◌, refl}
use Rattle.std.proofs.lemmas.Result.{err_from_is_err_and}
use lib.ListN.{length}
use Rattle.children.proofs.ListLaws.{list_short}
use Rattle.bargewicker.specs.Questions.{phase_from, reply}
use Rattle.bargewicker.proofs.PlacingLaws.{not_fitting, fitting, right_list, asked_low, crew}
use Rattle.bargewicker.proofs.PromiseLaws.{refused_so, phased_so}
use Rattle.bargewicker.proofs.phase_from.Goals as goal

pub returns-in_err-place : goal.returns-in_err-place
unfolding reply
returns-in_err-place c =
    let a = c.args in
    let p = err_from_is_err_and c.from_residual.result c.from_residual.ensures.1 in
    rw (p.1, p.2) (refused_so (phase_from a.sheet.bytes.now a.children.now a.state a.out.now) _
    (not_fitting _ _ c.args.sheet.stands _ _ _ c.place.ensures _ c.in_err-place.was _) _ refl)

pub invariant_of-crew : goal.invariant_of-crew
invariant_of-crew c =
    let s = c.args.sheet.stands in
    let e = c.place.ensures in
    let t = c.in_ok-place.was in
    let n : length c.occupy.result ≡ 8 = omega arith in
    record { runnable = record { crewed = crew _ _ s _ _ _ e _ t _ n c.occupy.ensures; short = list_short _ s.accepted _ (right_list _ _ s _ _ _ e _ t) } }

pub when_phase-requires : goal.when_phase-requires
when_phase-requires c = asked_low _ _ c.args.sheet.stands _ _ _ c.place.ensures _ c.in_ok-place.was

pub returns : goal.returns
returns c = phased_so _ _ _ (fitting _ _ c.args.sheet.stands _ _ _ c.place.ensures _ c.in_ok-place.was) _ c.when_phase.result _ c.when_phase.ensures
