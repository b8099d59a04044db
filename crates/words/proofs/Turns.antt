-- One turn of a loop over the words of a text: what is left is the word found and what stands behind it.
-- Assumes nothing.
use Prim.Native.Nat.{ℕ, zero, suc, ◌-◌}
use native.Mathlib.Omega.{arith}
use mathlib.Core.Path.{◌≡◌, refl, sym, ◌∙◌, ap, subst}
use mathlib.Core.List.{List, [], ◌∷◌}
use borrow.Author.Tests.{ne_eqb}
use Rattle.grammar.specs.Grammar.{fixed, name, end_word}
use Rattle.grammar.specs.Words.{tokens}
use Rattle.grammar.specs.Kinds.{kind_of, bytes_of, token_as}
use Rattle.words.specs.Scanning.{words_from, tokens_from, stretch, end_kind, behind, Next}

-- a word that is not the end
pub turn : (text : List ℕ) (at kind start end : ℕ) → Next text at kind start end → (kind ≡ end_kind → ⊥)
    → tokens_from text at ≡ token_as kind (stretch text start end) ∷ tokens_from text end
unfolding tokens_from tokens
turn text at kind start end n h = ap tokens n.words ∙ rest
  where
    rest : tokens (record { start = start; end = end; token = token_as kind (stretch text start end) } ∷ behind text kind end)
        ≡ token_as kind (stretch text start end) ∷ tokens (words_from text end)
    rest = rw (ne_eqb kind end_kind h) refl

-- the end
pub last : (text : List ℕ) (at kind start end : ℕ) → Next text at kind start end → kind ≡ end_kind → tokens_from text at ≡ fixed end_word ∷ []
unfolding tokens_from tokens token_as
last text at kind start end n h =
    ap tokens n.words
    ∙ subst (λ (k : ℕ). tokens (record { start = start; end = end; token = token_as k (stretch text start end) } ∷ behind text k end) ≡ fixed end_word ∷ []) (sym h) refl

-- the kind and the bytes of what was found
pub kind_as : (k : ℕ) (b : List ℕ) → kind_of (token_as k b) ≡ k
unfolding kind_of token_as
kind_as zero b = refl
kind_as (suc k) b = rw (ne_eqb (suc k) 0 (λ e. omega arith)) (let z : suc (suc k - 1) ≡ suc k = omega arith in z)

pub bytes_as : (k : ℕ) (b : List ℕ) → k ≡ 0 → bytes_of (token_as k b) ≡ b
unfolding bytes_of token_as
bytes_as k b h = subst (λ (n : ℕ). bytes_of (token_as n b) ≡ b) (sym h) refl

-- as a token: a name, or a fixed word
pub a_name : (k : ℕ) (b : List ℕ) → k ≡ 0 → token_as k b ≡ name b
unfolding token_as
a_name k b h = subst (λ (n : ℕ). token_as n b ≡ name b) (sym h) refl

pub a_fixed : (k n : ℕ) (b : List ℕ) → k ≡ suc n → token_as k b ≡ fixed n
unfolding token_as
a_fixed k n b h =
    subst (λ (m : ℕ). token_as m b ≡ fixed n) (sym h) (rw (ne_eqb (suc n) 0 (λ e. omega arith)) (ap fixed (let z : suc n - 1 ≡ n = omega arith in z)))
