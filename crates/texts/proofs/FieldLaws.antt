-- Laws about the fields of a line and the numbers in them: one for each turn and return of the code in reading.rt.
-- Assumes nothing.
use Prim.Native.Nat.{ℕ, suc, ◌+◌, ◌-◌, ◌*◌, ◌%◌, ◌<◌, ◌≤◌, max}
use native.Mathlib.Omega.{arith}
use native.Mathlib.Numerals.{add-one}
use mathlib.Core.Path.{◌≡◌, refl, sym, ◌∙◌, ap}
use mathlib.Core.Bool.{Bool, true, false, cond, ◌||◌}
use mathlib.Core.List.{List, [], ◌∷◌}
use mathlib.Core.Logic.{◌⊎◌, inl, inr}
use lib.Dec.{eqb, ltb}
use lib.ListN.{length, take, drop, get_or, length-drop, drop_of_length-le}
use lib.Seq.{drop-cons, take_all}
use borrow.Author.Tests.{eq-eqb, ne_eqb, le-ltb, ltb-false}
use Rattle.std.specs.Prelude.{Option, Some, None}
use Rattle.texts.specs.Fields.{until, Finds, FindsNext, occurs, before, behind, digit_value, picked, number_from, number_of}

-- the first byte b at the head, and behind it
until_here : (b : ℕ) (l : List ℕ) (i : ℕ) → i < length l → get_or l i 0 ≡ b → until b (drop i l) ≡ 0
unfolding until
until_here b l i h e = rw (drop-cons l i 0 h, eq-eqb (get_or l i 0) b e)

until_on : (b : ℕ) (l : List ℕ) (i : ℕ) → i < length l → (get_or l i 0 ≡ b → ⊥) → until b (drop i l) ≡ suc (until b (drop (i + 1) l))
unfolding until
until_on b l i h e = rw (add-one, drop-cons l i 0 h, ne_eqb (get_or l i 0) b e)

until_end : (b : ℕ) (l : List ℕ) (i : ℕ) → length l ≤ i → until b (drop i l) ≡ 0
unfolding until
until_end b l i h = rw (drop_of_length-le l h)

-- a search that has come from a place to another without meeting the byte
pub record Seeking (b : ℕ) (l : List ℕ) (from at : ℕ) : Type 0 where
  pub same : at + until b (drop at l) ≡ from + until b (drop from l)
  pub onward : from ≤ at
  pub within : at ≤ max from (length l)

pub seek_on : (b : ℕ) (l : List ℕ) (from at : ℕ) → Seeking b l from at → at < length l → (get_or l at 0 ≡ b → ⊥) → Seeking b l from (at + 1)
seek_on b l from at s h e = record { same = omega (arith, until_on b l at h e, s.same); onward = omega (arith, s.onward); within = omega (arith, s.within) }

pub seek_found : (b : ℕ) (l : List ℕ) (from at : ℕ) → Seeking b l from at → at < length l → get_or l at 0 ≡ b → FindsNext b l from (Some at)
seek_found b l from at s h e = (h, record { place = omega (arith, until_here b l at h e, s.same); onward = s.onward; within = s.within })

pub seek_end : (b : ℕ) (l : List ℕ) (from at : ℕ) → Seeking b l from at → length l ≤ at → FindsNext b l from None
seek_end b l from at s h = record { place = omega (arith, until_end b l at h, s.same, s.onward, s.within); onward = omega arith; within = omega arith }

-- the first part of a line and the rest, by the place of the first byte b
before_taken : (b : ℕ) (l : List ℕ) → take (until b l) l ≡ before b l
unfolding until before
before_taken b [] = refl
before_taken b (x ∷ xs) = go (eqb x b) (before_taken b xs)
  where
    go : (t : Bool) → take (until b xs) xs ≡ before b xs → take (cond t 0 (suc (until b xs))) (x ∷ xs) ≡ cond t [] (x ∷ before b xs)
    go true r = refl
    go false r = ap (λ (m : List ℕ). x ∷ m) r

behind_dropped : (b : ℕ) (l : List ℕ) → drop (suc (until b l)) l ≡ behind b l
unfolding until behind
behind_dropped b [] = refl
behind_dropped b (x ∷ xs) = go (eqb x b) (behind_dropped b xs)
  where
    go : (t : Bool) → drop (suc (until b xs)) xs ≡ behind b xs → drop (suc (cond t 0 (suc (until b xs)))) (x ∷ xs) ≡ cond t xs (behind b xs)
    go true r = refl
    go false r = r

pub first_part : (b : ℕ) (l : List ℕ) (e : ℕ) → Finds b l 0 e → take e l ≡ before b l
first_part b l e f = let h : e ≡ until b l = omega (arith, f.place) in rw h (before_taken b l)

pub first_alone : (b : ℕ) (l : List ℕ) → Finds b l 0 (max 0 (length l)) → l ≡ before b l
first_alone b l f =
    let h : max 0 (length l) ≡ until b l = omega (arith, f.place) in
    let k : length l ≤ max 0 (length l) = omega arith in
    sym (take_all (max 0 (length l)) l k) ∙ ap (λ (j : ℕ). take j l) h ∙ before_taken b l

pub rest_part : (b : ℕ) (l : List ℕ) (e : ℕ) → Finds b l 0 e → take (length l - (e + 1)) (drop (e + 1) l) ≡ behind b l
rest_part b l e f =
    let h : e + 1 ≡ suc (until b l) = omega (arith, f.place) in
    let k : length (drop (e + 1) l) ≤ length l - (e + 1) = omega (arith, length-drop (e + 1) l) in
    take_all (length l - (e + 1)) (drop (e + 1) l) k ∙ ap (λ (j : ℕ). drop j l) h ∙ behind_dropped b l

pub no_rest : (b : ℕ) (l : List ℕ) → Finds b l 0 (max 0 (length l)) → [] ≡ behind b l
no_rest b l f =
    let k : length l ≤ suc (max 0 (length l)) = omega arith in
    let m : suc (max 0 (length l)) ≡ suc (until b l) = omega (arith, f.place) in
    sym (drop_of_length-le l k) ∙ ap (λ (j : ℕ). drop j l) m ∙ behind_dropped b l

-- occurrences counted up to a place, and those that are left
pub count_hit : (b : ℕ) (l : List ℕ) (i n m t : ℕ) → i < length l → n + occurs b (drop i l) ≡ t → get_or l i 0 ≡ b → m ≡ n + 1 → m + occurs b (drop (i + 1) l) ≡ t
unfolding occurs
count_hit b l i n m t h s e f =
    let x : eqb (get_or l i 0) b ≡ true = eq-eqb (get_or l i 0) b e in
    let u : occurs b (drop i l) ≡ 1 + occurs b (drop (suc i) l) = rw (drop-cons l i 0 h, x) in
    rw (add-one i) (omega arith)

pub count_miss : (b : ℕ) (l : List ℕ) (i n m t : ℕ) → i < length l → n + occurs b (drop i l) ≡ t → (get_or l i 0 ≡ b → ⊥) → m ≡ n → m + occurs b (drop (i + 1) l) ≡ t
unfolding occurs
count_miss b l i n m t h s e f =
    let x : eqb (get_or l i 0) b ≡ false = ne_eqb (get_or l i 0) b e in
    let u : occurs b (drop i l) ≡ 0 + occurs b (drop (suc i) l) = rw (drop-cons l i 0 h, x) in
    rw (add-one i) (omega arith)

pub count_end : (b : ℕ) (l : List ℕ) (i n t : ℕ) → length l ≤ i → n + occurs b (drop i l) ≡ t → n ≡ t
unfolding occurs
count_end b l i n t h s = let u : occurs b (drop i l) ≡ 0 = rw (drop_of_length-le l h) in omega arith

-- a number of three digits by its value, and with one that is no digit
number_valued : (x y z least v : ℕ) → x < 10 → y < 10 → z < 10 → v ≡ x * 100 + y * 10 + z → picked (ltb v least || ltb 255 v) None (Some v) ≡ number_from x y z least
number_valued x y z least v a b c e =
    let f : x ≤ 9 = omega arith in
    let g : y ≤ 9 = omega arith in
    let h : z ≤ 9 = omega arith in
    rw (le-ltb 9 x f, le-ltb 9 y g, le-ltb 9 z h, ← e) (go (ltb v least) (ltb 255 v) refl)
  where
    go : (s t : Bool) → ltb 255 v ≡ t → picked (s || t) None (Some v) ≡ picked (s || t) None (Some (v % 256))
    go true t p = refl
    go false true p = refl
    go false false p = let k : v ≤ 255 = ltb-false 255 v p in let w : v ≡ v % 256 = omega arith in ap Some w

number_first : (y z least : ℕ) → None ≡ number_from 10 y z least
number_first y z least = refl

number_second : (x z least : ℕ) → None ≡ number_from x 10 z least
number_second x z least = go (ltb 9 x)
  where
    go : (t : Bool) → None ≡ picked (t || true) None (Some ((x * 100 + 10 * 10 + z) % 256))
    go true = refl
    go false = refl

number_third : (x y least : ℕ) → None ≡ number_from x y 10 least
number_third x y least = go (ltb 9 x) (ltb 9 y)
  where
    go : (t u : Bool) → None ≡ picked (t || (u || true)) None (Some ((x * 100 + y * 10 + 10) % 256))
    go true u = refl
    go false true = refl
    go false false = refl

-- a field of one byte, a digit or not
pub number_one : (l : List ℕ) (z : ℕ) (r : Option ℕ) → length l ≡ 1 → z < 10 → z ≡ digit_value (get_or l 0 0)
    → r ≡ picked (ltb z 0 || ltb 255 z) None (Some z) → r ≡ number_of l
unfolding number_of
number_one [] z r h k e f = absurd (omega arith)
number_one (a ∷ []) z r h k e f = f ∙ number_valued 0 0 z 0 z (omega arith) (omega arith) k (omega arith) ∙ ap (λ (w : ℕ). number_from 0 0 w 0) e
number_one (a ∷ b ∷ l) z r h k e f = absurd (omega arith)

pub one_wrong : (l : List ℕ) (r : Option ℕ) → length l ≡ 1 → digit_value (get_or l 0 0) ≡ 10 → r ≡ None → r ≡ number_of l
unfolding number_of
one_wrong [] r h e f = absurd (omega arith)
one_wrong (a ∷ []) r h e f = f ∙ number_third 0 0 0 ∙ ap (λ (w : ℕ). number_from 0 0 w 0) (sym e)
one_wrong (a ∷ b ∷ l) r h e f = absurd (omega arith)

-- a field of two, both digits, or one of them not
pub number_two : (l : List ℕ) (y z : ℕ) (r : Option ℕ) → length l ≡ 2 → y < 10 → y ≡ digit_value (get_or l 0 0) → z < 10 → z ≡ digit_value (get_or l 1 0)
    → r ≡ picked (ltb (10 * y + z) 10 || ltb 255 (10 * y + z)) None (Some (10 * y + z)) → r ≡ number_of l
unfolding number_of
number_two [] y z r h i d k e f = absurd (omega arith)
number_two (a ∷ []) y z r h i d k e f = absurd (omega arith)
number_two (a ∷ b ∷ []) y z r h i d k e f =
    f ∙ number_valued 0 y z 10 (10 * y + z) (omega arith) i k (omega arith) ∙ ap (λ (w : ℕ). number_from 0 w z 10) d ∙ ap (λ (w : ℕ). number_from 0 (digit_value a) w 10) e
number_two (a ∷ b ∷ c ∷ l) y z r h i d k e f = absurd (omega arith)

pub two_wrong : (l : List ℕ) (r : Option ℕ) → length l ≡ 2 → (digit_value (get_or l 0 0) ≡ 10) ⊎ (digit_value (get_or l 1 0) ≡ 10) → r ≡ None → r ≡ number_of l
unfolding number_of
two_wrong [] r h e f = absurd (omega arith)
two_wrong (a ∷ []) r h e f = absurd (omega arith)
two_wrong (a ∷ b ∷ []) r h (inl e) f = f ∙ number_second 0 (digit_value b) 10 ∙ ap (λ (w : ℕ). number_from 0 w (digit_value b) 10) (sym e)
two_wrong (a ∷ b ∷ []) r h (inr e) f = f ∙ number_third 0 (digit_value a) 10 ∙ ap (λ (w : ℕ). number_from 0 (digit_value a) w 10) (sym e)
two_wrong (a ∷ b ∷ c ∷ l) r h e f = absurd (omega arith)

-- a field of three, all digits, or one of them not
pub number_three : (l : List ℕ) (x y z : ℕ) (r : Option ℕ) → length l ≡ 3 → x < 10 → x ≡ digit_value (get_or l 0 0) → y < 10 → y ≡ digit_value (get_or l 1 0)
    → z < 10 → z ≡ digit_value (get_or l 2 0)
    → r ≡ picked (ltb (100 * x + 10 * y + z) 100 || ltb 255 (100 * x + 10 * y + z)) None (Some (100 * x + 10 * y + z)) → r ≡ number_of l
unfolding number_of
number_three [] x y z r h j g i d k e f = absurd (omega arith)
number_three (a ∷ []) x y z r h j g i d k e f = absurd (omega arith)
number_three (a ∷ b ∷ []) x y z r h j g i d k e f = absurd (omega arith)
number_three (a ∷ b ∷ c ∷ []) x y z r h j g i d k e f =
    f ∙ number_valued x y z 100 (100 * x + 10 * y + z) j i k (omega arith) ∙ ap (λ (w : ℕ). number_from w y z 100) g
    ∙ ap (λ (w : ℕ). number_from (digit_value a) w z 100) d ∙ ap (λ (w : ℕ). number_from (digit_value a) (digit_value b) w 100) e
number_three (a ∷ b ∷ c ∷ k ∷ l) x y z r h j g i d m e f = absurd (omega arith)

pub three_wrong : (l : List ℕ) (r : Option ℕ) → length l ≡ 3
    → (digit_value (get_or l 0 0) ≡ 10) ⊎ ((digit_value (get_or l 1 0) ≡ 10) ⊎ (digit_value (get_or l 2 0) ≡ 10)) → r ≡ None → r ≡ number_of l
unfolding number_of
three_wrong [] r h e f = absurd (omega arith)
three_wrong (a ∷ []) r h e f = absurd (omega arith)
three_wrong (a ∷ b ∷ []) r h e f = absurd (omega arith)
three_wrong (a ∷ b ∷ c ∷ []) r h (inl e) f =
    f ∙ number_first (digit_value b) (digit_value c) 100 ∙ ap (λ (w : ℕ). number_from w (digit_value b) (digit_value c) 100) (sym e)
three_wrong (a ∷ b ∷ c ∷ []) r h (inr (inl e)) f =
    f ∙ number_second (digit_value a) (digit_value c) 100 ∙ ap (λ (w : ℕ). number_from (digit_value a) w (digit_value c) 100) (sym e)
three_wrong (a ∷ b ∷ c ∷ []) r h (inr (inr e)) f =
    f ∙ number_third (digit_value a) (digit_value b) 100 ∙ ap (λ (w : ℕ). number_from (digit_value a) (digit_value b) w 100) (sym e)
three_wrong (a ∷ b ∷ c ∷ k ∷ l) r h e f = absurd (omega arith)

-- of any other number of bytes
pub number_none : (l : List ℕ) → (length l ≡ 1 → ⊥) → (length l ≡ 2 → ⊥) → (length l ≡ 3 → ⊥) → number_of l ≡ None
unfolding number_of
number_none [] f g h = refl
number_none (a ∷ []) f g h = absurd (f refl)
number_none (a ∷ b ∷ []) f g h = absurd (g refl)
number_none (a ∷ b ∷ c ∷ []) f g h = absurd (h refl)
number_none (a ∷ b ∷ c ∷ d ∷ l) f g h = refl
