-- Guard records that stand one behind the other, and whether each guard can be read: it has at most 16 operators on a path.
-- Assumes nothing.
use Rattle.std.specs.Prelude.{ℕ, zero, suc, ◌/◌, Bool, true, false, List, ltb, length}
use Rattle.model.specs.Words.{choose}
use Rattle.records.specs.GuardRecords.{guard_from, by_read}

-- every guard from record i on is read, each where the one before it ended, of at most n guards
unfoldable pub all_read : ℕ → List ℕ → ℕ → Bool
all_read zero b i = true
all_read (suc n) b i = choose (ltb i (length b / 8)) (λ _. by_read (guard_from b i) (λ _. false) (λ g e. all_read n b e)) (λ _. true)

-- every guard of a body is read
unfoldable pub shallow : List ℕ → Bool
shallow b = all_read (length b / 8) b 0
