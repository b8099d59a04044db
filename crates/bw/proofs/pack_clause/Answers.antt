-- `pack_clause`: each referrer has its word.
-- Assumes nothing.
use native.Mathlib.Omega.{arith}
use Rattle.bw.proofs.PackedLaws.{word_move, word_do, word_stay}
use Rattle.bw.proofs.pack_clause.Goals as goal

pub returns-in-MoveTo : goal.returns-in-MoveTo
returns-in-MoveTo c = word_move _ _ _ c.in-MoveTo.is (omega arith)

pub returns-in-Do : goal.returns-in-Do
returns-in-Do c = word_do _ _ _ c.in-Do.is (omega arith)

pub returns-in-Stay : goal.returns-in-Stay
returns-in-Stay c = word_stay _ _ c.in-Stay.is
