-- Laws about specs/Words.antt: the word of a record, by how it is made, and a record more.
-- Assumes nothing.
use Prim.Native.Nat.{ℕ, zero, suc, ◌+◌, ◌<◌, ◌≤◌}
use native.Mathlib.Omega.{arith}
use mathlib.Core.Path.{◌≡◌, refl, sym, ap, ◌∙◌}
use mathlib.Core.List.{List}
use mathlib.Core.Logic.{◌⊎◌, inl, inr}
use lib.ListN.{length, get_or, set, length-set}
use lib.Bits.{bit_and, bit_or}
use lib.Seq.{get_or-set_same}
use Rattle.model.proofs.Words.{lt_or_le}
use Rattle.lanes.specs.Lanes.{opposite}
use Rattle.lanes.specs.Masks.{block_word}
use Rattle.truths.specs.Plans.{right_of}
use Rattle.truths.specs.Words.{word_of, Filled}
use Rattle.truths.proofs.PlanLaws.{behind}

-- the word behind a guard of a size that was read
pub word_there : (sizes words : List ℕ) (i s w : ℕ) → s ≡ get_or sizes i 0 → w ≡ get_or words (i + s) 0 → w ≡ get_or words (i + get_or sizes i 0) 0
word_there sizes words i s w e f = f ∙ ap (λ (n : ℕ). get_or words (i + n) 0) e

-- the word of a record, for each way that it is made
module _ (mask low base i : ℕ) (sizes words : List ℕ) (k : ℕ) where
  pub word_met : (w : ℕ) → k ≡ 0 → w ≡ block_word mask low base → w ≡ word_of k mask low base i sizes words
  unfolding word_of
  word_met w e h = rw (e, h)

  pub word_unmet : (w : ℕ) → k ≡ 1 → w ≡ block_word mask low base → opposite w ≡ word_of k mask low base i sizes words
  unfolding word_of
  word_unmet w e h = rw (e, h)

  pub word_both : (x y : ℕ) → k ≡ 2 → x ≡ get_or words (i + 1) 0 → y ≡ get_or words (right_of i sizes) 0 → bit_and x y ≡ word_of k mask low base i sizes words
  unfolding word_of
  word_both x y e h g = rw (e, h, g)

  pub word_either : (x y : ℕ) → k ≡ 3 → x ≡ get_or words (i + 1) 0 → y ≡ get_or words (right_of i sizes) 0 → bit_or x y ≡ word_of k mask low base i sizes words
  unfolding word_of
  word_either x y e h g = rw (e, h, g)

  pub word_opposite : (x : ℕ) → (k ≡ 0 → ⊥) → (k ≡ 1 → ⊥) → (k ≡ 2 → ⊥) → (k ≡ 3 → ⊥) → x ≡ get_or words (i + 1) 0 → opposite x ≡ word_of k mask low base i sizes words
  unfolding word_of
  word_opposite x a b c d h = rw h (go k a b c d)
    where
      go : (k : ℕ) → (k ≡ 0 → ⊥) → (k ≡ 1 → ⊥) → (k ≡ 2 → ⊥) → (k ≡ 3 → ⊥) → opposite (get_or words (i + 1) 0) ≡ word_of k mask low base i sizes words
      go zero a b c d = absurd (a refl)
      go (suc zero) a b c d = absurd (b refl)
      go (suc (suc zero)) a b c d = absurd (c refl)
      go (suc (suc (suc zero))) a b c d = absurd (d refl)
      go (suc (suc (suc (suc k)))) a b c d = refl

-- it goes by the words behind it
pub word_behind : (k mask low base i j v : ℕ) (sizes words : List ℕ) → i ≤ j → word_of k mask low base j sizes (set words i v) ≡ word_of k mask low base j sizes words
unfolding word_of
word_behind k mask low base i j v sizes words l = rw (behind words i v (j + 1) (omega arith), behind words i v (right_of j sizes) (omega arith))

pub filled_start : (n : ℕ) (kinds sizes masks lows : List ℕ) (base : ℕ) (words : List ℕ) → Filled n n kinds sizes masks lows base words words
filled_start n kinds sizes masks lows base words = record { long = refl; word = λ j a b. absurd (omega arith); kept = λ j a. refl }

pub filled_more : (i m n : ℕ) → m ≡ i + 1 → (kinds sizes masks lows : List ℕ) (base : ℕ) (before words : List ℕ) (v : ℕ) → Filled m n kinds sizes masks lows base before words → i < n → i < length words
    → v ≡ word_of (get_or kinds i 0) (get_or masks i 0) (get_or lows i 0) base i sizes words → Filled i n kinds sizes masks lows base before (set words i v)
filled_more i m n next kinds sizes masks lows base before words v F l u e =
    record {
      long = length-set words i v ∙ F.long;
      word = λ j a b. at j a b (lt_or_le i j);
      kept = λ j a. behind words i v j (omega arith) ∙ F.kept j a;
    }
  where
    at : (j : ℕ) → i ≤ j → j < n → (i < j) ⊎ (j ≤ i) → get_or (set words i v) j 0 ≡ word_of (get_or kinds j 0) (get_or masks j 0) (get_or lows j 0) base j sizes (set words i v)
    at j a b (inl u) = behind words i v j u ∙ F.word j (omega arith) b ∙ sym (word_behind (get_or kinds j 0) (get_or masks j 0) (get_or lows j 0) base i j v sizes words a)
    at j a b (inr y) =
        let z : j ≡ i = omega arith in
        rw z (get_or-set_same words i v 0 u ∙ e ∙ sym (word_behind (get_or kinds i 0) (get_or masks i 0) (get_or lows i 0) base i i v sizes words (omega arith)))

pub filled_all : (i n : ℕ) (kinds sizes masks lows : List ℕ) (base : ℕ) (before words : List ℕ) → Filled i n kinds sizes masks lows base before words → i ≤ 0
    → Filled 0 n kinds sizes masks lows base before words
filled_all i n kinds sizes masks lows base before words F l = record { long = F.long; word = λ j a b. F.word j (omega arith) b; kept = F.kept }
