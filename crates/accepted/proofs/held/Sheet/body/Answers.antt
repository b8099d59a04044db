-- `body` goes from a body's place to the next, which is where it ends.
-- Assumes nothing.
use native.Mathlib.Omega.{arith}
use Rattle.accepted.proofs.ReaderLaws.{body_starts, body_ends, body_fits, body_cut}
use Rattle.accepted.proofs.held.Sheet.body.Goals as goal

-- the first place is before the second, and that is in the sheet
pub slice_bounds-result-count : goal.slice_bounds-result-count
slice_bounds-result-count c =
    let s = c.args.self in
    let x = body_starts s.bytes.now s.places s.stands c.args.k c.requires in
    let y = body_ends s.bytes.now s.places s.stands c.args.k c.requires in
    let z = body_fits s.bytes.now s.places s.stands c.args.k c.requires in
    omega arith

pub slice_bounds-result-start : goal.slice_bounds-result-start
slice_bounds-result-start c =
    let s = c.args.self in
    let x = body_starts s.bytes.now s.places s.stands c.args.k c.requires in
    let y = body_ends s.bytes.now s.places s.stands c.args.k c.requires in
    let z = body_fits s.bytes.now s.places s.stands c.args.k c.requires in
    omega arith

pub slice_bounds-result-end : goal.slice_bounds-result-end
slice_bounds-result-end c =
    let s = c.args.self in
    let x = body_starts s.bytes.now s.places s.stands c.args.k c.requires in
    let y = body_ends s.bytes.now s.places s.stands c.args.k c.requires in
    let z = body_fits s.bytes.now s.places s.stands c.args.k c.requires in
    omega arith

pub returns : goal.returns
returns c = body_cut _ _ c.args.self.stands _ c.requires _ _ c.place.ensures c.place-2.ensures
