-- The loop over the words: what is counted and what is left come to what is counted of all.
-- Assumes nothing.
use Prim.Native.Nat.{ℕ, ◌+◌, ◌<◌, ◌≤◌}
use native.Mathlib.Omega.{arith}
use mathlib.Core.Path.{◌≡◌, refl, sym, ◌∙◌, ap}
use mathlib.Core.Bool.{Bool, true, false, ◌&&◌}
use mathlib.Core.List.{List}
use lib.ListN.{length}
use Rattle.grammar.specs.Grammar.{state_word, action_word, when_word, if_word, endif_word}
use Rattle.grammar.specs.Words.{words, tokens}
use Rattle.grammar.specs.Kinds.{kind_of}
use Rattle.words.specs.Scanning.{words_from, tokens_from, stretch, end_kind, Next}
use Rattle.words.proofs.Turns.{turn, last, kind_as}
use Rattle.sizes.specs.Counting.{is, tick, untick, raised, of_guard, of_statement, acting_after, open_after, counted, tally, nothing_yet, Below}
use Rattle.sizes.specs.declared.Sizes.{Sizes}

-- what the words of a text come to
abbrev pub all_counted : List ℕ → Sizes
all_counted text = tally nothing_yet false 0 (tokens (words text))

pub record Counting (text : List ℕ) (n : Sizes) (acting : Bool) (ifs at : ℕ) : Type 0 where
  pub inside : at ≤ length text
  pub left : tally n acting ifs (tokens_from text at) ≡ all_counted text
  pub below : Below n at
  pub few : ifs ≤ at

pub counting_start : (text : List ℕ) → Counting text nothing_yet false 0 0
unfolding tokens_from words_from words
counting_start text =
    record {
      inside = omega arith;
      left = refl;
      below = record { states = omega arith; whens = omega arith; guards = omega arith; actions = omega arith; statements = omega arith };
      few = omega arith;
    }

-- a number that is counted on stays below the place
tick_le : (b : Bool) (x m k : ℕ) → x ≤ m → m < k → tick b x ≤ k
tick_le true x m k h l = let z : x + 1 ≤ k = omega arith in z
tick_le false x m k h l = let z : x ≤ k = omega arith in z

untick_le : (b : Bool) (x k : ℕ) → x ≤ k → untick b x ≤ k
untick_le true x k h = omega arith
untick_le false x k h = h

below_next : (n : Sizes) (a : Bool) (o kind m k : ℕ) → Below n m → m < k → Below (counted n a o kind) k
unfolding counted
below_next n a o kind m k b l =
    record {
      states = tick_le (is state_word kind) n.states m k b.states l;
      whens = tick_le (is when_word kind) n.whens m k b.whens l;
      guards = tick_le (of_guard kind) n.guards m k b.guards l;
      actions = tick_le (is action_word kind) n.actions m k b.actions l;
      statements = tick_le (of_statement kind && a) n.statements m k b.statements l;
    }

-- one word counted, number by number
pub counted_is : (n : Sizes) (a : Bool) (o kind : ℕ) {p q : Bool} {s w g x t d : ℕ} → s ≡ tick (is state_word kind) n.states → w ≡ tick (is when_word kind) n.whens → p ≡ of_guard kind
    → g ≡ tick p n.guards → x ≡ tick (is action_word kind) n.actions → q ≡ of_statement kind → t ≡ tick (q && a) n.statements → d ≡ raised (is if_word kind) n.deepest o
    → record { states = s; whens = w; guards = g; actions = x; statements = t; deepest = d } ≡ counted n a o kind
unfolding counted
counted_is n a o kind es ew ep eg ex eq et ed = rw (es, ew, eg, ep, ex, et, eq, ed)

-- a turn
module _ {text : List ℕ} {n : Sizes} {acting : Bool} {ifs at : ℕ} (c : Counting text n acting ifs at) {kind start end : ℕ} (w : Next text at kind start end) where
  pub counting_small : (kind ≡ end_kind → ⊥) → at < length text
  counting_small h = omega (arith, w.onward, w.moves h, w.inside h)

  pub counting_below : (m : ℕ) → (kind ≡ end_kind → ⊥) → length text ≤ m + 1 → Below n m
  counting_below m h l =
      let s = counting_small h in
      record {
        states = omega (arith, c.below.states);
        whens = omega (arith, c.below.whens);
        guards = omega (arith, c.below.guards);
        actions = omega (arith, c.below.actions);
        statements = omega (arith, c.below.statements);
      }

  tallied : (kind ≡ end_kind → ⊥)
      → tally n acting ifs (tokens_from text at) ≡ tally (counted n (acting_after acting kind) (open_after ifs kind) kind) (acting_after acting kind) (open_after ifs kind) (tokens_from text end)
  unfolding tally
  tallied h =
      ap (tally n acting ifs) (turn text at kind start end w h)
      ∙ ap (λ (k : ℕ). tally (counted n (acting_after acting k) (open_after ifs k) k) (acting_after acting k) (open_after ifs k) (tokens_from text end)) (kind_as kind (stretch text start end))

  pub counting_more : (kind ≡ end_kind → ⊥) → {a : Bool} → a ≡ acting_after acting kind → {o : ℕ} → o ≡ open_after ifs kind → {m : Sizes} → m ≡ counted n a o kind → Counting text m a o end
  counting_more h {a} ea {o} eo {m} em =
      let l : at < end = omega (arith, w.onward, w.moves h) in
      record {
        inside = w.inside h;
        left = rw (em, ea, eo) (sym (tallied h) ∙ c.left);
        below = rw em (below_next n a o kind at end c.below l);
        few = rw eo (untick_le (is endif_word kind) (tick (is if_word kind) ifs) end (tick_le (is if_word kind) ifs at end c.few l));
      }

  pub counting_end : kind ≡ end_kind → n ≡ all_counted text
  unfolding tally counted kind_of
  counting_end h = rw (last text at kind start end w h) at c.left
