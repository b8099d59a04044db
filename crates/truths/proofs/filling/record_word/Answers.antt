-- `record_word`: one answer for each way that a word is made.
-- Assumes nothing.
use native.Mathlib.Omega.{arith}
use Rattle.truths.proofs.WordLaws.{word_met, word_unmet, word_both, word_either, word_opposite}
use Rattle.truths.proofs.filling.record_word.Goals as goal

pub returns-in-0 : goal.returns-in-0
returns-in-0 c = word_met _ _ _ _ _ _ _ _ (omega arith) c.block_word.ensures

pub returns-in-1 : goal.returns-in-1
returns-in-1 c = word_unmet _ _ _ _ _ _ _ _ (omega arith) c.block_word-in-1.ensures

pub returns-in-2 : goal.returns-in-2
returns-in-2 c = word_both _ _ _ _ _ _ _ _ _ (omega arith) c.word_at.ensures c.right_word.ensures

pub returns-in-3 : goal.returns-in-3
returns-in-3 c = word_either _ _ _ _ _ _ _ _ _ (omega arith) c.word_at-in-3.ensures c.right_word-in-3.ensures

pub returns-in_default : goal.returns-in_default
returns-in_default c = word_opposite _ _ _ _ _ _ _ _ (λ z. omega arith) (λ z. omega arith) (λ z. omega arith) (λ z. omega arith) c.word_at-in_default.ensures
