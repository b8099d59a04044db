-- The turns of the loops that find fields.
-- Assumes nothing.
use Prim.Native.Nat.{ℕ, zero, suc, ◌+◌, ◌<◌, ◌≤◌}
use native.Mathlib.Omega.{arith}
use native.Mathlib.Numerals.{add-one}
use mathlib.Core.Path.{◌≡◌, refl, sym, ◌∙◌, ap}
use mathlib.Core.Bool.{true, false}
use mathlib.Core.List.{List, [], ◌∷◌}
use lib.Dec.{eqb}
use lib.ListN.{length, get_or, drop, length-drop, drop_of_length-le}
use lib.Seq.{drop-cons, drop-drop}
use borrow.Author.Tests.{eq-eqb, ne_eqb}
use Rattle.classfile.specs.declared.fields.Kind.{Kind}
use Rattle.classfile.specs.declared.fields.Kind.TheVariants.{Word, LineEnd, FileEnd}
use Rattle.classfile.specs.Fields.{is_line_end, is_file_end, field, blank, white, run, cut, fields_from, Next, Blanks, WordEnds}

-- a field is the end of a line, or of the file, or not
pub line_end : (kind : Kind) → kind ≡ LineEnd → is_line_end kind ≡ true
line_end kind e = ap is_line_end e

pub no_line_end : (kind : Kind) → (kind ≡ LineEnd → ⊥) → is_line_end kind ≡ false
no_line_end Word h = refl
no_line_end LineEnd h = absurd (h refl)
no_line_end FileEnd h = refl

pub file_end : (kind : Kind) → kind ≡ FileEnd → is_file_end kind ≡ true
file_end kind e = ap is_file_end e

pub no_file_end : (kind : Kind) → (kind ≡ FileEnd → ⊥) → is_file_end kind ≡ false
no_file_end Word h = refl
no_file_end LineEnd h = refl
no_file_end FileEnd h = absurd (h refl)

cut_blank : (b : ℕ) (bs : List ℕ) (at : ℕ) → blank b ≡ true → cut 0 at (b ∷ bs) ≡ cut 0 (suc at) bs
unfolding cut
cut_blank b bs at h = rw h

cut_line : (b : ℕ) (bs : List ℕ) (at : ℕ) → blank b ≡ false → eqb b 10 ≡ true → cut 0 at (b ∷ bs) ≡ field LineEnd at (suc at) ∷ cut 0 (suc at) bs
unfolding cut
cut_line b bs at h e = rw (h, e)

cut_word : (b : ℕ) (bs : List ℕ) (at : ℕ) → blank b ≡ false → eqb b 10 ≡ false
    → cut 0 at (b ∷ bs) ≡ field Word at (suc at + run bs) ∷ cut (run bs) (suc at) bs
unfolding cut
cut_word b bs at h e = rw (h, e)

-- what is passed over
cut_skip : (l : List ℕ) (k at to : ℕ) → k ≤ length l → to ≡ at + k → cut k at l ≡ cut 0 to (drop k l)
unfolding cut
cut_skip [] zero at to h e = ap (λ (n : ℕ). field FileEnd n n ∷ []) (let z : at ≡ to = omega arith in z)
cut_skip [] (suc k) at to h e = absurd (omega arith)
cut_skip (b ∷ bs) zero at to h e = ap (λ (n : ℕ). cut 0 n (b ∷ bs)) (let z : at ≡ to = omega arith in z)
cut_skip (b ∷ bs) (suc k) at to h e = cut_skip bs k (suc at) to (omega arith) (omega arith)

cut_nil : (at : ℕ) → cut 0 at [] ≡ field FileEnd at at ∷ []
unfolding cut
cut_nil at = refl

-- blanks are passed over, as far as here
pub record Skipping (file : List ℕ) (at i : ℕ) : Type 0 where
  pub fields : fields_from file at ≡ fields_from file i
  pub onward : at ≤ i
  pub inside : i ≤ length file

pub skip_none : (file : List ℕ) (at : ℕ) → at ≤ length file → Skipping file at at
skip_none file at h = record { fields = refl; onward = (omega arith); inside = h }

pub skip_on : (file : List ℕ) (at i : ℕ) → Skipping file at i → i < length file → blank (get_or file i 0) ≡ true → Skipping file at (i + 1)
unfolding fields_from
skip_on file at i s l w =
    record { fields = s.fields ∙ step; onward = (let h = s.onward in omega arith); inside = omega arith }
  where
    step : fields_from file i ≡ fields_from file (i + 1)
    step = rw (add-one i) (ap (cut 0 i) (drop-cons file i 0 l) ∙ cut_blank (get_or file i 0) (drop (suc i) file) i w)

pub skip_found : (file : List ℕ) (at i : ℕ) → Skipping file at i → blank (get_or file i 0) ≡ false → Blanks file at i
skip_found file at i s w = record { fields = s.fields; onward = s.onward; inside = s.inside; seen = λ _. w }

pub skip_end : (file : List ℕ) (at i : ℕ) → Skipping file at i → length file ≤ i → Blanks file at (length file)
skip_end file at i s h =
    let e : length file ≡ i = omega (arith, s.inside) in
    rw e (record { fields = s.fields; onward = s.onward; inside = s.inside; seen = λ l. absurd (omega arith) })

-- the word goes on, as far as here
pub record Running (file : List ℕ) (at i : ℕ) : Type 0 where
  pub is : suc at + run (drop (suc at) file) ≡ i + run (drop i file)
  pub onward : at < i
  pub inside : i ≤ length file

pub run_none : (file : List ℕ) (at : ℕ) → at < length file → Running file at (at + 1)
run_none file at h = rw (add-one at) (record { is = refl; onward = (omega arith); inside = omega arith })

run_more : (b : ℕ) (bs : List ℕ) → white b ≡ false → run (b ∷ bs) ≡ suc (run bs)
unfolding run
run_more b bs h = rw h

run_stop : (b : ℕ) (bs : List ℕ) → white b ≡ true → run (b ∷ bs) ≡ 0
unfolding run
run_stop b bs h = rw h

run_nil : run [] ≡ 0
unfolding run
run_nil = refl

pub run_on : (file : List ℕ) (at i : ℕ) → Running file at i → i < length file → white (get_or file i 0) ≡ false → Running file at (i + 1)
run_on file at i s l w =
    record { is = s.is ∙ step; onward = (let h = s.onward in omega arith); inside = omega arith }
  where
    step : i + run (drop i file) ≡ i + 1 + run (drop (i + 1) file)
    step =
        rw (add-one i)
        (let e : run (drop i file) ≡ suc (run (drop (suc i) file)) = ap run (drop-cons file i 0 l) ∙ run_more (get_or file i 0) (drop (suc i) file) w in
        omega arith)

pub run_found : (file : List ℕ) (at i : ℕ) → Running file at i → i < length file → white (get_or file i 0) ≡ true → WordEnds file at i
run_found file at i s l w =
    let e : run (drop i file) ≡ 0 = ap run (drop-cons file i 0 l) ∙ run_stop (get_or file i 0) (drop (suc i) file) w in
    record { is = omega (arith, s.is); onward = s.onward; inside = s.inside }

pub run_over : (file : List ℕ) (at i : ℕ) → Running file at i → length file ≤ i → WordEnds file at (length file)
run_over file at i s h =
    let e : run (drop i file) ≡ 0 = ap run (drop_of_length-le file h) ∙ run_nil in
    let l : length file ≡ i = omega (arith, s.inside) in
    rw l (record { is = omega (arith, s.is); onward = s.onward; inside = s.inside })

-- the next field is the end of the file
pub next_file : (file : List ℕ) (at start : ℕ) → Blanks file at start → length file ≤ start → Next file at FileEnd start start
unfolding fields_from
next_file file at start b h =
    record {
      fields = b.fields ∙ (ap (cut 0 start) (drop_of_length-le file h) ∙ cut_nil start);
      onward = b.onward;
      order = (omega arith);
      inside = b.inside;
      moves = λ m. absurd (m refl);
    }

-- the end of a line
pub next_line : (file : List ℕ) (at start : ℕ) → Blanks file at start → start < length file → get_or file start 0 ≡ 10 → Next file at LineEnd start (start + 1)
unfolding fields_from
next_line file at start b l e =
    rw (add-one start)
    (record {
      fields = b.fields ∙ (ap (cut 0 start) (drop-cons file start 0 l) ∙ cut_line (get_or file start 0) (drop (suc start) file) start (b.seen l) (eq-eqb (get_or file start 0) 10 e));
      onward = b.onward;
      order = (omega arith);
      inside = (omega arith);
      moves = λ m. (let l : start < suc start = omega arith in l);
    })

-- a word
pub next_found : (file : List ℕ) (at start end : ℕ) → Blanks file at start → start < length file → (get_or file start 0 ≡ 10 → ⊥) → WordEnds file start end
    → Next file at Word start end
unfolding fields_from
next_found file at start end b l n w =
    record {
      fields =
          b.fields
          ∙ (ap (cut 0 start) (drop-cons file start 0 l)
          ∙ (cut_word (get_or file start 0) (drop (suc start) file) start (b.seen l) (ne_eqb (get_or file start 0) 10 n)
          ∙ (λ j. field Word start (sym w.is j) ∷ rest j)));
      onward = b.onward;
      order = (let z = w.onward in omega arith);
      inside = w.inside;
      moves = λ m. w.onward;
    }
  where
    tail : drop (run (drop (suc start) file)) (drop (suc start) file) ≡ drop end file
    tail = drop-drop (run (drop (suc start) file)) (suc start) file ∙ ap (λ (j : ℕ). drop j file) (sym w.is)

    rest : cut (run (drop (suc start) file)) (suc start) (drop (suc start) file) ≡ cut 0 end (drop end file)
    rest =
        cut_skip (drop (suc start) file) (run (drop (suc start) file)) (suc start) end
        (let a = length-drop (suc start) file in let z = w.inside in omega (arith, a, w.is)) w.is
        ∙ ap (cut 0 end) tail
