-- What was read is rendered; the line lies within its buffer.
-- Assumes nothing.
use Rattle.loopcheck.proofs.Printing.{printed_fits}
use Rattle.loopcheck.proofs.main.Goals as goal

pub slice_bounds-out-end : goal.slice_bounds-out-end
slice_bounds-out-end c = (printed_fits _ _ _ _ c.render-r.ensures).0

pub slice_bounds-write_all-end : goal.slice_bounds-write_all-end
slice_bounds-write_all-end c = (printed_fits _ _ _ _ c.render-r.ensures).1
