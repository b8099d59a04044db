-- One word for each guard record in a block.
-- Assumes nothing.
use Rattle.std.specs.Prelude.{ℕ, ◌+◌, ◌<◌, ◌≤◌, ◌≡◌, List, [], ◌∷◌, length, get_or}
use Rattle.std.specs.Int.Bits.{bit_and, bit_or}
use Rattle.lanes.specs.Lanes.{opposite}
use Rattle.lanes.specs.Masks.{block_word}
use Rattle.truths.specs.Plans.{right_of}

-- the word of record i in the block at base, by how it is made, from the words behind it
unfoldable pub word_of : ℕ → ℕ → ℕ → ℕ → ℕ → List ℕ → List ℕ → ℕ
word_of number mask low base i sizes words =
    get_or
    (block_word mask low base
    ∷ opposite (block_word mask low base)
    ∷ bit_and (get_or words (i + 1) 0) (get_or words (right_of i sizes) 0)
    ∷ bit_or (get_or words (i + 1) 0) (get_or words (right_of i sizes) 0)
    ∷ [])
    number
    (opposite (get_or words (i + 1) 0))

-- from record i to n each word is made of the words behind it; behind the last the words are as before
pub record Filled (i n : ℕ) (kinds sizes masks lows : List ℕ) (base : ℕ) (before words : List ℕ) : Type 0 where
  pub long : length words ≡ length before
  pub word : (j : ℕ) → i ≤ j → j < n → get_or words j 0 ≡ word_of (get_or kinds j 0) (get_or masks j 0) (get_or lows j 0) base j sizes words
  pub kept : (j : ℕ) → n ≤ j → get_or words j 0 ≡ get_or before j 0

-- the tables that are lent have room for n records
pub record Lent (n : ℕ) (kinds masks lows words : List ℕ) : Type 0 where
  pub few : n ≤ 1024
  pub of_kinds : length kinds ≡ 1024
  pub of_masks : length masks ≡ 1024
  pub of_lows : length lows ≡ 1024
  pub of_words : length words ≡ 1024
