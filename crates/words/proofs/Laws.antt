-- The turns of the loops that find words.
-- Assumes nothing.
use Prim.Native.Nat.{ℕ, suc, ◌+◌, ◌-◌, ◌<◌, ◌≤◌}
use native.Mathlib.Omega.{arith}
use native.Mathlib.Numerals.{add-one}
use mathlib.Core.Path.{◌≡◌, refl, sym, ◌∙◌, ap, subst}
use mathlib.Core.Bool.{Bool, true, false, ◌||◌, and-false}
use mathlib.Core.List.{List, [], ◌∷◌}
use lib.Dec.{eqb}
use lib.ListN.{length, get_or, take, drop, length-drop, get_or-eq_default, drop_of_length-le}
use lib.Seq.{drop-cons, drop-length, drop-drop, get_or-drop}
use borrow.Author.Tests.{eq-eqb, ne_eqb}
use Rattle.grammar.specs.Grammar.{fixed, end_word}
use Rattle.grammar.specs.Words.{Word, white, name_char, same, run_length, begins, colon_run, run_end, dollar_length, spelled, cut, word_at, end_at, word_length}
use Rattle.grammar.proofs.Words.{cut_white, cut_word, word_fits, Fits}
use Rattle.words.specs.Scanning.{words_from, Skipped, Next, behind, RunEnds}
use Rattle.kinds.specs.Kind.{OfKind}
use Rattle.grammar.specs.Kinds.{token_as}

pub record Skipping (text : List ℕ) (at i : ℕ) : Type 0 where
  pub words : words_from text at ≡ words_from text i
  pub onward : at ≤ i
  pub inside : i ≤ length text

pub skip_none : (text : List ℕ) (at : ℕ) → at ≤ length text → Skipping text at at
skip_none text at h = record { words = refl; onward = (omega arith); inside = h }

pub skip_on : (text : List ℕ) (at i : ℕ) → Skipping text at i → i < length text → white (get_or text i 0) ≡ true → Skipping text at (i + 1)
unfolding words_from cut
skip_on text at i s l w =
    record { words = s.words ∙ step; onward = (let h = s.onward in omega arith); inside = omega arith }
  where
    step : words_from text i ≡ words_from text (i + 1)
    step = rw (add-one i) (ap (cut 0 i) (drop-cons text i 0 l) ∙ cut_white (get_or text i 0) (drop (suc i) text) i w)

pub skip_found : (text : List ℕ) (at i : ℕ) → Skipping text at i → white (get_or text i 0) ≡ false → Skipped text at i
skip_found text at i s w = record { words = s.words; onward = s.onward; inside = s.inside; seen = λ _. w }

pub skip_end : (text : List ℕ) (at i : ℕ) → Skipping text at i → length text ≤ i → Skipped text at (length text)
skip_end text at i s h =
    let n : i ≡ length text = (let z = s.inside in omega arith) in
    subst (Skipped text at) n (record { words = s.words; onward = s.onward; inside = s.inside; seen = λ l. absurd (omega arith) })

-- the run goes on
pub record Running (text : List ℕ) (at i : ℕ) : Type 0 where
  pub run : at + run_length (drop at text) ≡ i + run_length (drop i text)
  pub onward : at ≤ i
  pub inside : i ≤ length text

pub run_none : (text : List ℕ) (at : ℕ) → at ≤ length text → Running text at at
run_none text at h = record { run = refl; onward = (omega arith); inside = h }

run_more : (b : ℕ) (bs : List ℕ) → name_char b ≡ true → run_length (b ∷ bs) ≡ suc (run_length bs)
unfolding run_length
run_more b bs h = rw h

run_stop : (b : ℕ) (bs : List ℕ) → name_char b ≡ false → run_length (b ∷ bs) ≡ 0
unfolding run_length
run_stop b bs h = rw h

pub run_on : (text : List ℕ) (at i : ℕ) → Running text at i → i < length text → name_char (get_or text i 0) ≡ true → Running text at (i + 1)
run_on text at i s l w =
    record { run = s.run ∙ step; onward = (let h = s.onward in omega arith); inside = omega arith }
  where
    step : i + run_length (drop i text) ≡ i + 1 + run_length (drop (i + 1) text)
    step =
        rw (add-one i)
        (let e : run_length (drop i text) ≡ suc (run_length (drop (suc i) text)) = ap run_length (drop-cons text i 0 l) ∙ run_more (get_or text i 0) (drop (suc i) text) w in
        omega arith)

pub run_found : (text : List ℕ) (at i : ℕ) → Running text at i → i < length text → name_char (get_or text i 0) ≡ false → RunEnds text at i
run_found text at i s l w =
    let e : run_length (drop i text) ≡ 0 = ap run_length (drop-cons text i 0 l) ∙ run_stop (get_or text i 0) (drop (suc i) text) w in
    record { run = omega (arith, s.run); onward = s.onward; inside = s.inside }

nil_run : run_length [] ≡ 0
unfolding run_length
nil_run = refl

pub run_over : (text : List ℕ) (at i : ℕ) → Running text at i → length text ≤ i → RunEnds text at (length text)
run_over text at i s h =
    let n : i ≡ length text = (let z = s.inside in omega arith) in
    let e : run_length (drop i text) ≡ 0 = ap (λ (j : ℕ). run_length (drop j text)) n ∙ (ap run_length (drop-length text) ∙ nil_run) in
    subst (RunEnds text at) n (record { run = omega (arith, s.run); onward = s.onward; inside = s.inside })

-- the end of a word, by its first byte
by_name : (b : ℕ) (bs : List ℕ) → name_char b ≡ true → word_length (b ∷ bs) ≡ run_end (b ∷ bs) (run_length (b ∷ bs))
unfolding word_length
by_name b bs h = rw h

by_dollar : (b : ℕ) (bs : List ℕ) → name_char b ≡ false → eqb b 36 ≡ true → word_length (b ∷ bs) ≡ dollar_length (b ∷ bs)
unfolding word_length
by_dollar b bs h e = rw (h, e)

by_other : (b : ℕ) (bs : List ℕ) → name_char b ≡ false → eqb b 36 ≡ false → word_length (b ∷ bs) ≡ 1
unfolding word_length
by_other b bs h e = rw (h, e)

pub end_name : (text : List ℕ) (at end r : ℕ) → at < length text → name_char (get_or text at 0) ≡ true → end ≡ at + run_length (drop at text)
    → r ≡ at + run_end (drop at text) (end - at) → r ≡ at + word_length (drop at text)
end_name text at end r l h e f =
    let n : end - at ≡ run_length (drop at text) = omega arith in
    let w : word_length (drop at text) ≡ run_end (drop at text) (run_length (drop at text)) =
    subst (λ (x : List ℕ). word_length x ≡ run_end x (run_length x)) (sym (drop-cons text at 0 l)) (by_name (get_or text at 0) (drop (suc at) text) h) in
    f ∙ (ap (λ (k : ℕ). at + run_end (drop at text) k) n ∙ ap (λ (k : ℕ). at + k) (sym w))

pub end_other : (text : List ℕ) (at : ℕ) → at < length text → name_char (get_or text at 0) ≡ false → (get_or text at 0 ≡ 36 → ⊥) → at + 1 ≡ at + word_length (drop at text)
end_other text at l h e =
    let w : word_length (drop at text) ≡ 1 =
    subst (λ (x : List ℕ). word_length x ≡ 1) (sym (drop-cons text at 0 l)) (by_other (get_or text at 0) (drop (suc at) text) h (ne_eqb (get_or text at 0) 36 e)) in
    ap (λ (k : ℕ). at + k) (sym w)

end_dollar : (text : List ℕ) (at : ℕ) → at < length text → name_char (get_or text at 0) ≡ false → get_or text at 0 ≡ 36
    → word_length (drop at text) ≡ dollar_length (drop at text)
end_dollar text at l h e =
    subst (λ (x : List ℕ). word_length x ≡ dollar_length x) (sym (drop-cons text at 0 l)) (by_dollar (get_or text at 0) (drop (suc at) text) h (eq-eqb (get_or text at 0) 36 e))

dollar_top : (l : List ℕ) → begins (spelled "$FWPART_$TOP$") l ≡ true → dollar_length l ≡ 13
unfolding dollar_length
dollar_top l h = rw h

dollar_five : (l : List ℕ) → begins (spelled "$FWPART_$TOP$") l ≡ false → (begins (spelled "$ANY$") l || begins (spelled "$ALL$") l) ≡ true → dollar_length l ≡ 5
unfolding dollar_length
dollar_five l h e = rw (h, e)

dollar_one : (l : List ℕ) → begins (spelled "$FWPART_$TOP$") l ≡ false → (begins (spelled "$ANY$") l || begins (spelled "$ALL$") l) ≡ false → dollar_length l ≡ 1
unfolding dollar_length
dollar_one l h e = rw (h, e)

module _ (text : List ℕ) (at : ℕ) (l : at < length text) (h : name_char (get_or text at 0) ≡ false) (e : get_or text at 0 ≡ 36) where
  pub end_top : begins (spelled "$FWPART_$TOP$") (drop at text) ≡ true → at + 13 ≡ at + word_length (drop at text)
  end_top t = ap (λ (k : ℕ). at + k) (sym (end_dollar text at l h e ∙ dollar_top (drop at text) t))

  pub end_five : begins (spelled "$FWPART_$TOP$") (drop at text) ≡ false → (begins (spelled "$ANY$") (drop at text) || begins (spelled "$ALL$") (drop at text)) ≡ true
      → at + 5 ≡ at + word_length (drop at text)
  end_five t u = ap (λ (k : ℕ). at + k) (sym (end_dollar text at l h e ∙ dollar_five (drop at text) t u))

  pub end_one : begins (spelled "$FWPART_$TOP$") (drop at text) ≡ false → (begins (spelled "$ANY$") (drop at text) || begins (spelled "$ALL$") (drop at text)) ≡ false
      → at + 1 ≡ at + word_length (drop at text)
  end_one t u = ap (λ (k : ℕ). at + k) (sym (end_dollar text at l h e ∙ dollar_one (drop at text) t u))

-- a run with or without its colon
no_colon : (l : List ℕ) (n : ℕ) → eqb (get_or l n 0) 58 ≡ false → run_end l n ≡ n
unfolding run_end
no_colon l n h = rw (h, and-false)

with_colon : (l : List ℕ) (n : ℕ) → eqb (get_or l n 0) 58 ≡ true → colon_run (take n l) ≡ true → run_end l n ≡ suc n
unfolding run_end
with_colon l n h e = rw (h, e)

not_colon : (l : List ℕ) (n : ℕ) → colon_run (take n l) ≡ false → run_end l n ≡ n
unfolding run_end
not_colon l n e = rw e

pub colon_of : (w : List ℕ) (x y z b : Bool) → x ≡ same (spelled "class") w → y ≡ same (spelled "state") w → z ≡ same (spelled "action") w → (x || (y || z)) ≡ b → colon_run w ≡ b
unfolding colon_run
colon_of w x y z b p q r e = (λ j. sym p j || (sym q j || sym r j)) ∙ e

pub or_of : (x y u v b : Bool) → x ≡ u → y ≡ v → (x || y) ≡ b → (u || v) ≡ b
or_of x y u v b p q e = (λ j. sym p j || sym q j) ∙ e

at_place : (text : List ℕ) (at end : ℕ) → at ≤ end → get_or (drop at text) (end - at) 0 ≡ get_or text end 0
at_place text at end h = get_or-drop at text (end - at) 0 ∙ ap (λ (k : ℕ). get_or text k 0) (let z : at + (end - at) ≡ end = omega arith in z)

pub run_past : (text : List ℕ) (at end : ℕ) → at ≤ end → length text ≤ end → end ≡ at + run_end (drop at text) (end - at)
run_past text at end h l =
    let p : get_or text end 0 ≡ 0 = get_or-eq_default text 0 l in
    let q : eqb (get_or (drop at text) (end - at) 0) 58 ≡ false = ne_eqb (get_or (drop at text) (end - at) 0) 58 (λ e. let z = at_place text at end h in omega (arith, z, p, e)) in
    let r = no_colon (drop at text) (end - at) q in
    omega (arith, r)

pub run_plain : (text : List ℕ) (at end : ℕ) → at ≤ end → (get_or text end 0 ≡ 58 → ⊥) → end ≡ at + run_end (drop at text) (end - at)
run_plain text at end h n =
    let q : eqb (get_or (drop at text) (end - at) 0) 58 ≡ false = ne_eqb (get_or (drop at text) (end - at) 0) 58 (λ e. n (sym (at_place text at end h) ∙ e)) in
    let r = no_colon (drop at text) (end - at) q in
    omega (arith, r)

pub run_colon : (text : List ℕ) (at end : ℕ) → at ≤ end → get_or text end 0 ≡ 58 → colon_run (take (end - at) (drop at text)) ≡ true
    → end + 1 ≡ at + run_end (drop at text) (end - at)
run_colon text at end h n c =
    let r = with_colon (drop at text) (end - at) (eq-eqb (get_or (drop at text) (end - at) 0) 58 (at_place text at end h ∙ n)) c in
    omega (arith, r)

pub run_bare : (text : List ℕ) (at end : ℕ) → at ≤ end → colon_run (take (end - at) (drop at text)) ≡ false → end ≡ at + run_end (drop at text) (end - at)
run_bare text at end h c = let r = not_colon (drop at text) (end - at) c in omega (arith, r)

-- the next word
cut_nil : (at : ℕ) → cut 0 at [] ≡ end_at at ∷ []
unfolding cut
cut_nil at = refl

-- at the end of the text
pub next_end : (text : List ℕ) (at r kind start end : ℕ) → words_from text at ≡ words_from text r → at ≤ r → length text ≤ r → (kind ≡ 26) × ((start ≡ r) × (end ≡ r))
    → Next text at kind start end
unfolding words_from end_at token_as
next_end text at r kind start end e o l (k, (s, f)) =
    record {
      words =
          e ∙ (ap (cut 0 r) (drop_of_length-le text l) ∙ (cut_nil r ∙ (λ j. record { start = sym s j; end = sym f j; token = fixed end_word } ∷ []))) ∙ subst (λ (n : ℕ). ◌≡◌ {A = List Word} (record { start = start; end = end; token = fixed end_word } ∷ []) (record { start = start; end = end; token = token_as n (take (end - start) (drop start text)) } ∷ behind text n end)) (sym k) refl;
      onward = omega (arith, s);
      moves = (λ m. absurd (m k));
      inside = (λ m. absurd (m k));
      of_a_kind = omega (arith, k);
    }

-- a word ends inside the text
pub word_inside : (text : List ℕ) (start end : ℕ) → start < length text → end ≡ start + word_length (drop start text) → (start ≤ end) × (end ≤ length text)
word_inside text start end l e =
    let d : drop start text ≡ get_or text start 0 ∷ drop (suc start) text = drop-cons text start 0 l in
    let f : Fits (word_length (drop start text)) (drop start text) = subst (λ (x : List ℕ). Fits (word_length x) x) (sym d) (word_fits (get_or text start 0) (drop (suc start) text)) in
    (omega arith, (let a = f.inside in let b = length-drop start text in omega (arith, a, b)))

pub next_found : (text : List ℕ) (at start end kind : ℕ) → Skipped text at start → start < length text → end ≡ start + word_length (drop start text)
    → OfKind (take (end - start) (drop start text)) kind → Next text at kind start end
unfolding words_from word_at
next_found text at start end kind s l e o =
    record {
      words = s.words ∙ (first ∙ last);
      onward = s.onward;
      moves = (λ _. let a = fits.some_byte in omega arith);
      inside = (λ _. let a = fits.inside in let b = length-drop start text in omega (arith, a, b));
      of_a_kind = o.of_a_kind;
    }
  where
    d : drop start text ≡ get_or text start 0 ∷ drop (suc start) text
    d = drop-cons text start 0 l

    fits : Fits (word_length (drop start text)) (drop start text)
    fits = subst (λ (x : List ℕ). Fits (word_length x) x) (sym d) (word_fits (get_or text start 0) (drop (suc start) text))

    n : word_length (drop start text) ≡ end - start
    n = omega arith

    tail : drop (word_length (drop start text)) (drop start text) ≡ drop end text
    tail = drop-drop (word_length (drop start text)) start text ∙ ap (λ (j : ℕ). drop j text) (sym e)

    first : words_from text start ≡ word_at start (drop start text) (end - start) ∷ words_from text end
    first =
        subst (λ (x : List ℕ). cut 0 start x ≡ word_at start x (word_length x) ∷ cut 0 (start + word_length x) (drop (word_length x) x)) (sym d)
        (cut_word (get_or text start 0) (drop (suc start) text) start (start + word_length (get_or text start 0 ∷ drop (suc start) text)) (s.seen l) refl)
        ∙ (λ j. word_at start (drop start text) (n j) ∷ cut 0 (sym e j) (tail j))

    ends : start + (end - start) ≡ end
    ends = let a = fits.some_byte in omega arith

    last : word_at start (drop start text) (end - start) ∷ words_from text end
        ≡ record { start = start; end = end; token = token_as kind (take (end - start) (drop start text)) } ∷ behind text kind end
    last =
        rw (ne_eqb kind 26 o.not_end)
        (λ j. record { start = start; end = ends j; token = o.token j } ∷ words_from text end)
