-- The words that bytes are cut into: the law of a blank, of a word, of a name, and of bytes behind bytes.
-- Assumes nothing.
use Prim.Native.Nat.{ℕ, zero, suc, ◌-◌, ◌≤◌}
use native.Mathlib.Omega.{arith}
use mathlib.Core.Path.{◌≡◌, refl, sym, ◌∙◌, ap, subst}
use mathlib.Core.Bool.{Bool, true, false, ◌&&◌, ◌||◌, not, and-false}
use mathlib.Core.Logic.{◌⊎◌, inl, inr}
use mathlib.Core.List.{List, [], ◌∷◌, ◌++◌, append_assoc}
use lib.Dec.{eqb}
use lib.ListN.{length, get_or, take, drop}
use lib.Seq.{take_at, drop_at}
use borrow.Author.Tests.{not-true, eqb-true}
use Rattle.model.specs.Words.{choose, every}
use Rattle.model.proofs.Words.{true_not_false, and_left, and_right, or_either, not_not_true}
use Rattle.grammar.specs.Grammar.{Token, fixed, end_word}
use Rattle.grammar.specs.Words.{white, name_char, run_length, run_end, word_length, token_of, word_at, end_at, cut, words, tokens}
use Rattle.grammar.proofs.Words.{cut_white, cut_word}

-- no run goes on here, and no colon stands here
unfoldable pub stops : List ℕ → Bool
stops [] = true
stops (b ∷ bs) = not (name_char b) && not (eqb b 58)

-- the bytes are cut into these words
pub record Cut (l : List ℕ) (ts : List Token) : Type 0 where
  pub told : tokens (words l) ≡ ts

-- in front of any bytes, these bytes are these words in front of theirs
pub record Closed (a : List ℕ) (f : List Token → List Token) : Type 0 where
  pub before : (rest : List ℕ) (ts : List Token) → Cut rest ts → Cut (a ++ rest) (f ts)

-- the same in front of bytes that do not go on with their last word
pub record Open (a : List ℕ) (f : List Token → List Token) : Type 0 where
  pub before : (rest : List ℕ) (ts : List Token) → stops rest ≡ true → Cut rest ts → Cut (a ++ rest) (f ts)

-- bytes that do not go on with the word before them, whatever stands behind them
abbrev pub Parting : List ℕ → Type 0
Parting a = (rest : List ℕ) → stops (a ++ rest) ≡ true

-- where the bytes stand makes no difference
elsewhere : (l : List ℕ) (k at to : ℕ) → tokens (cut k at l) ≡ tokens (cut k to l)
unfolding cut tokens end_at word_at
elsewhere [] k at to = refl
elsewhere (b ∷ bs) (suc k) at to = elsewhere bs k (suc at) (suc to)
elsewhere (b ∷ bs) zero at to = go (white b) (elsewhere bs zero (suc at) (suc to)) (elsewhere bs (word_length (b ∷ bs) - 1) (suc at) (suc to))
  where
    go : (t : Bool) → tokens (cut 0 (suc at) bs) ≡ tokens (cut 0 (suc to) bs)
        → tokens (cut (word_length (b ∷ bs) - 1) (suc at) bs) ≡ tokens (cut (word_length (b ∷ bs) - 1) (suc to) bs)
        → tokens (choose t (λ _. cut 0 (suc at) bs) (λ _. word_at at (b ∷ bs) (word_length (b ∷ bs)) ∷ cut (word_length (b ∷ bs) - 1) (suc at) bs))
        ≡ tokens (choose t (λ _. cut 0 (suc to) bs) (λ _. word_at to (b ∷ bs) (word_length (b ∷ bs)) ∷ cut (word_length (b ∷ bs) - 1) (suc to) bs))
    go true p q = p
    go false p q = ap (◌∷◌ (token_of (take (word_length (b ∷ bs)) (b ∷ bs)))) q

-- the end of the text
pub at_end : Cut [] (fixed end_word ∷ [])
unfolding words cut tokens end_at
at_end = record { told = refl }

-- bytes that compute: their words, and the place behind them
pub closed_by : (a : List ℕ) (f : List Token → List Token) (at : ℕ) → ((rest : List ℕ) → tokens (words (a ++ rest)) ≡ f (tokens (cut 0 at rest))) → Closed a f
unfolding words
closed_by a f at h = record { before = λ rest ts s. record { told = h rest ∙ ap f (elsewhere rest 0 at 0 ∙ s.told) } }

-- nothing, and bytes behind bytes
pub closed_none : Closed [] (λ ts. ts)
closed_none = record { before = λ rest ts s. s }

module _ {a b : List ℕ} {f g : List Token → List Token} where
  pub closed_closed : Closed a f → Closed b g → Closed (a ++ b) (λ ts. f (g ts))
  closed_closed p q =
      record { before = λ rest ts s. subst (λ (l : List ℕ). Cut l (f (g ts))) (sym (append_assoc a b rest)) (p.before (b ++ rest) (g ts) (q.before rest ts s)) }

  pub closed_open : Closed a f → Open b g → Open (a ++ b) (λ ts. f (g ts))
  closed_open p q =
      record { before = λ rest ts e s. subst (λ (l : List ℕ). Cut l (f (g ts))) (sym (append_assoc a b rest)) (p.before (b ++ rest) (g ts) (q.before rest ts e s)) }

  pub open_closed : Open a f → Parting b → Closed b g → Closed (a ++ b) (λ ts. f (g ts))
  open_closed p e q =
      record { before = λ rest ts s. subst (λ (l : List ℕ). Cut l (f (g ts))) (sym (append_assoc a b rest)) (p.before (b ++ rest) (g ts) (e rest) (q.before rest ts s)) }

  pub open_open : Open a f → Parting b → Open b g → Open (a ++ b) (λ ts. f (g ts))
  open_open p e q =
      record { before = λ rest ts d s. subst (λ (l : List ℕ). Cut l (f (g ts))) (sym (append_assoc a b rest)) (p.before (b ++ rest) (g ts) (e rest) (q.before rest ts d s)) }

pub closed_is_open : {a : List ℕ} {f : List Token → List Token} → Closed a f → Open a f
closed_is_open p = record { before = λ rest ts e s. p.before rest ts s }

-- the same words, said otherwise
pub closed_as : {a : List ℕ} {f : List Token → List Token} (g : List Token → List Token) → ((ts : List Token) → f ts ≡ g ts) → Closed a f → Closed a g
closed_as {a} g e p = record { before = λ rest ts s. subst (Cut (a ++ rest)) (e ts) (p.before rest ts s) }

-- a blank or a line feed in front
behind_white : {bs : List ℕ} {ts : List Token} (b : ℕ) → white b ≡ true → Cut bs ts → Cut (b ∷ bs) ts
unfolding words
behind_white {bs} b w s = record { told = ap tokens (cut_white b bs 0 w) ∙ (elsewhere bs 0 1 0 ∙ s.told) }

pub closed_white : {a : List ℕ} {f : List Token → List Token} (b : ℕ) → white b ≡ true → Closed a f → Closed (b ∷ a) f
closed_white b w p = record { before = λ rest ts s. behind_white b w (p.before rest ts s) }

pub open_white : {a : List ℕ} {f : List Token → List Token} (b : ℕ) → white b ≡ true → Open a f → Open (b ∷ a) f
open_white b w p = record { before = λ rest ts e s. behind_white b w (p.before rest ts e s) }

-- a word whose length is found, and what is behind it
next_word : {rest : List ℕ} {ts : List Token} (b : ℕ) (bs : List ℕ) (t : Token) → white b ≡ false → word_length (b ∷ (bs ++ rest)) ≡ suc (length bs)
    → token_of (b ∷ bs) ≡ t → Cut rest ts → Cut (b ∷ (bs ++ rest)) (t ∷ ts)
unfolding words tokens word_at
next_word {rest} {ts} b bs t w n e s =
    record {
      told =
          ap tokens (cut_word b (bs ++ rest) 0 (word_length (b ∷ (bs ++ rest))) w (omega arith))
          ∙ (λ j. (ap (λ (k : ℕ). token_of (take k (b ∷ (bs ++ rest)))) n ∙ (ap token_of (take_at (b ∷ bs) rest (suc (length bs)) refl) ∙ e)) j
          ∷ (ap (λ (k : ℕ). tokens (cut 0 k (drop k (b ∷ (bs ++ rest))))) n
          ∙ (ap (λ (x : List ℕ). tokens (cut 0 (suc (length bs)) x)) (drop_at (b ∷ bs) rest (suc (length bs)) refl)
          ∙ (elsewhere rest 0 (suc (length bs)) 0 ∙ s.told))) j);
    }

-- a run of name characters goes as far as they do
run_front : (w rest : List ℕ) → every name_char w ≡ true → run_length rest ≡ 0 → run_length (w ++ rest) ≡ length w
unfolding run_length every
run_front [] rest h z = z
run_front (b ∷ bs) rest h z =
    rw (and_left (name_char b) (every name_char bs) h) (ap suc (run_front bs rest (and_right (name_char b) (every name_char bs) h) z))

no_run : (l : List ℕ) → stops l ≡ true → run_length l ≡ 0
unfolding stops run_length
no_run [] h = refl
no_run (b ∷ bs) h = rw (not-true (name_char b) (and_left (not (name_char b)) (not (eqb b 58)) h))

no_colon : (w l : List ℕ) → stops l ≡ true → eqb (get_or (w ++ l) (length w) 0) 58 ≡ false
unfolding stops
no_colon [] [] h = refl
no_colon [] (b ∷ bs) h = not-true (eqb b 58) (and_right (not (name_char b)) (not (eqb b 58)) h)
no_colon (x ∷ w) l h = no_colon w l h

plain_end : (l : List ℕ) (n : ℕ) → eqb (get_or l n 0) 58 ≡ false → run_end l n ≡ n
unfolding run_end
plain_end l n h = rw (h, and-false)

run_whole : (b : ℕ) (bs rest : List ℕ) → every name_char (b ∷ bs) ≡ true → stops rest ≡ true → word_length (b ∷ (bs ++ rest)) ≡ suc (length bs)
unfolding word_length every
run_whole b bs rest h s =
    rw (and_left (name_char b) (every name_char bs) h)
    (ap (run_end (b ∷ (bs ++ rest))) (run_front (b ∷ bs) rest h (no_run rest s)) ∙ plain_end (b ∷ (bs ++ rest)) (suc (length bs)) (no_colon (b ∷ bs) rest s))

-- a name character is not white
name_not_white : (b : ℕ) → name_char b ≡ true → white b ≡ false
unfolding white name_char
name_not_white b h =
    not_not_true (white b) (λ e. at (or_either (eqb b 32) (eqb b 9 || (eqb b 10 || eqb b 13)) e))
  where
    is : (k : ℕ) → eqb b k ≡ true → name_char k ≡ false → ⊥
    is k e f = true_not_false h (ap name_char (eqb-true b k e) ∙ f)

    last : (eqb b 10 ≡ true) ⊎ (eqb b 13 ≡ true) → ⊥
    last (inl x) = is 10 x refl
    last (inr x) = is 13 x refl

    next : (eqb b 9 ≡ true) ⊎ ((eqb b 10 || eqb b 13) ≡ true) → ⊥
    next (inl x) = is 9 x refl
    next (inr y) = last (or_either (eqb b 10) (eqb b 13) y)

    at : (eqb b 32 ≡ true) ⊎ ((eqb b 9 || (eqb b 10 || eqb b 13)) ≡ true) → ⊥
    at (inl x) = is 32 x refl
    at (inr y) = next (or_either (eqb b 9) (eqb b 10 || eqb b 13) y)

-- a run of name characters is one word
pub open_run : (w : List ℕ) (t : Token) → every name_char w ≡ true → 1 ≤ length w → token_of w ≡ t → Open w (◌∷◌ t)
unfolding every
open_run [] t h l e = absurd (omega arith)
open_run (b ∷ bs) t h l e =
    record { before = λ rest ts p s. next_word b bs t (name_not_white b (and_left (name_char b) (every name_char bs) h)) (run_whole b bs rest h p) e s }
