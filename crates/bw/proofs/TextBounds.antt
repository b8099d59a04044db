-- How much room is enough for the text of a class.
-- Assumes nothing.
use native.Mathlib.Omega.{arith}
use lib.ListN.{length}
use borrow.Author.Tests.{le-leb}
use Rattle.sheet.specs.Reading.{class_of}
use Rattle.writings.specs.Layout.{class_text}
use Rattle.writings.specs.Missing.{names_right}
use Rattle.writings.specs.Writings.{guards_few, reply_text}
use Rattle.bargewicker.specs.Questions.{wrote, reply}
use Rattle.bargewicker.proofs.WrittenBack.{written_back}
use Rattle.bw.specs.Packed.{WriteRoomEnough}
use Rattle.bw.proofs.Checks.{told_case, by_sheet, Roomy, other_refusal, answered}

pub write_room_enough : WriteRoomEnough
unfolding reply reply_text
write_room_enough b n out h room =
    by_sheet Roomy 9 (λ m low high. other_refusal m (λ e. omega arith)) b _ (omega arith) λ a.
    told_case Roomy wrote (names_right n (class_of b)) 17 _ (other_refusal 17 (λ e. omega arith)) λ named.
    told_case Roomy wrote (guards_few (class_of b)) 19 _ (other_refusal 19 (λ e. omega arith)) λ few.
    let short = written_back.at_most b n (record { bytes = h; accepted = a; named = named; few = few }) in
    rw (le-leb (length (class_text n (class_of b))) (length out) (omega arith)) answered
