-- `loop_with`: 13, 14 and 15, then the search's answer, and its list in the buffer.
-- Assumes nothing.
use native.Mathlib.Omega.{arith}
use Rattle.loops.proofs.LoopQuestionLaws.{bit_refused, bits_right, CellsRead, many_refused, short_refused, cells_known, found_free, found_loop}
use Prim.Native.Nat.{ℕ, ◌<◌}
use mathlib.Core.Path.{◌≡◌, ap}
use mathlib.Core.Bool.{Bool, true, not}
use mathlib.Core.List.{List}
use Rattle.records.specs.Bytes.{in_fours}
use Rattle.sheet.specs.Contents.{body}
use Rattle.sheet.specs.Verdict.{Stands}
use Rattle.sheet.specs.declared.judging.Places.{Places}
use Rattle.configurations.specs.Cells.{first_twenty}
use Rattle.configurations.specs.declared.Cells.{Cells}
use Rattle.loops.specs.Cells.{present_cells}
use Rattle.loops.specs.LoopQuestion.{bits_below}
use Rattle.loops.proofs.asked.loop_with.Goals as goal

-- what is known once the cells are read
cells_read : (sheet : List ℕ) (p : Places) → Stands sheet p → (present : ℕ) → present < 256 → (n : ℕ) → n ≡ in_fours (body sheet 0) → (ok : Bool) → ok ≡ bits_below present n → ok ≡ true
    → (classes : List ℕ) → classes ≡ body sheet 0 → (cells : Cells) → cells ≡ first_twenty (present_cells classes present) → CellsRead sheet p present cells
cells_read sheet p s present b n e ok o t classes c cells r =
    record { stands = s; byte = b; right = bits_right sheet p s present n e ok o (ap not t); read = rw c at r }

pub returns-then-not-present_ok : goal.returns-then-not-present_ok
returns-then-not-present_ok c = bit_refused _ _ c.args.sheet.stands _ _ c.class_count.ensures.0 _ c.present_ok.ensures (ap not c.if-not-present_ok.true) _

pub returns-then-n-gt20 : goal.returns-then-n-gt20
returns-then-n-gt20 c =
    let known = cells_read _ _ c.args.sheet.stands _ (omega arith) _ c.class_count.ensures.0 _ c.present_ok.ensures c.if-not-present_ok.false _ c.body.ensures _ c.read_cells-cells.ensures in
    many_refused _ _ _ _ known _ c.if-n-gt20.true

pub returns-then-out-n : goal.returns-then-out-n
returns-then-out-n c =
    let known = cells_read _ _ c.args.sheet.stands _ (omega arith) _ c.class_count.ensures.0 _ c.present_ok.ensures c.if-not-present_ok.false _ c.body.ensures _ c.read_cells-cells.ensures in
    short_refused _ _ _ _ known _ c.if-n-gt20.false c.if-out-n.true

pub search-requires : goal.search-requires
search-requires c =
    let known = cells_read _ _ c.args.sheet.stands _ (omega arith) _ c.class_count.ensures.0 _ c.present_ok.ensures c.if-not-present_ok.false _ c.body.ensures _ c.read_cells-cells.ensures in
    cells_known _ _ _ _ known c.if-n-gt20.false

pub returning_in-q-requires : goal.returning_in-q-requires
returning_in-q-requires c =
    let known = cells_read _ _ c.args.sheet.stands _ (omega arith) _ c.class_count.ensures.0 _ c.present_ok.ensures c.if-not-present_ok.false _ c.body.ensures _ c.read_cells-cells.ensures in
    (c.if-n-gt20.false, (cells_known _ _ _ _ known c.if-n-gt20.false).small)

pub returns-in-Err : goal.returns-in-Err
returns-in-Err c =
    let known = cells_read _ _ c.args.sheet.stands _ (omega arith) _ c.class_count.ensures.0 _ c.present_ok.ensures c.if-not-present_ok.false _ c.body.ensures _ c.read_cells-cells.ensures in
    found_loop _ _ _ _ known _ c.if-n-gt20.false c.if-out-n.false _ c.search.ensures _ c.in-Err.is _ c.returning_in-q.ensures _ c.write_list.ensures.0

pub returns-in-Ok : goal.returns-in-Ok
returns-in-Ok c =
    let known = cells_read _ _ c.args.sheet.stands _ (omega arith) _ c.class_count.ensures.0 _ c.present_ok.ensures c.if-not-present_ok.false _ c.body.ensures _ c.read_cells-cells.ensures in
    found_free _ _ _ _ known _ c.if-n-gt20.false c.if-out-n.false _ c.search.ensures _ c.in-Ok.is
