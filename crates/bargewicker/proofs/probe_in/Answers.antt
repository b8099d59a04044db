-- `probe_in`: where the list and the state are right, the answer is the tree's on the children that the sets show.
-- Assumes nothing.
-- the sets show the children of the list
use native.Mathlib.Omega.{arith}
use mathlib.Core.Path.{◌≡◌, refl}
use Rattle.std.proofs.lemmas.Result.{err_from_is_err_and}
use lib.ListN.{length}
use Rattle.bargewicker.specs.Questions.{probe_in, reply}
use Rattle.bargewicker.proofs.PlacingLaws.{not_fitting, fitting, crew}
use Rattle.bargewicker.proofs.PromiseLaws.{refused_so, probed_so}
use Rattle.bargewicker.proofs.probe_in.Goals as goal

pub returns-in_err-place : goal.returns-in_err-place
unfolding reply
returns-in_err-place c =
    let a = c.args in
    let p = err_from_is_err_and c.from_residual.result c.from_residual.ensures.1 in
    rw (p.1, p.2) (refused_so (probe_in a.sheet.bytes.now a.children.now a.state) _
    (not_fitting _ _ c.args.sheet.stands _ _ _ c.place.ensures _ c.in_err-place.was _) _ refl)

pub returns : goal.returns
returns c =
    let s = c.args.sheet.stands in
    let e = c.place.ensures in
    let t = c.in_ok-place.was in
    let n : length c.occupy.result ≡ 8 = omega arith in
    probed_so _ _ _ (fitting _ _ s _ _ _ e _ t) c.probe.result (c.probe.ensures _ (crew _ _ s _ _ _ e _ t _ n c.occupy.ensures))
