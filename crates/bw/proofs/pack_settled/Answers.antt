-- `pack_settled`: each ending has its word.
-- Assumes nothing.
use native.Mathlib.Omega.{arith}
use Rattle.bw.proofs.PackedLaws.{word_by_none, word_by_stay, word_by_do}
use Rattle.bw.proofs.pack_settled.Goals as goal

pub returns-in-ByNone : goal.returns-in-ByNone
returns-in-ByNone c = word_by_none _ _ (omega arith) _ _ c.in-ByNone.is

pub returns-in-ByStay : goal.returns-in-ByStay
returns-in-ByStay c = word_by_stay _ _ (omega arith) _ _ c.in-ByStay.is

pub returns-in-ByDo : goal.returns-in-ByDo
returns-in-ByDo c = word_by_do _ _ (omega arith) _ _ _ c.in-ByDo.is (omega arith)
