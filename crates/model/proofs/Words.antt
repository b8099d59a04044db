-- Laws about the words of specs/Words.antt: tests, and the numbers below a bound.
-- Assumes nothing.
use Prim.Native.Nat.{ℕ, zero, suc, ◌+◌, ◌<◌, ◌≤◌, max}
use native.Mathlib.Omega.{arith}
use native.Mathlib.Numerals.{add-one}
use mathlib.Core.Path.{◌≡◌, refl, sym, ◌∙◌, ap}
use mathlib.Core.Bool.{Bool, true, false, ◌&&◌, ◌||◌, not, or-true}
use mathlib.Core.Logic.{◌⊎◌, inl, inr}
use mathlib.Core.Option.{Option, none, some}
use lib.Dec.{ltb}
use borrow.Author.Tests.{ltb-true, ltb-false, not-true, not-false}
use Rattle.model.specs.Words.{choose, maybe, each, some_below, least, greatest}

-- two constructors that meet: `clash (cc)` reads the hypotheses
pub clash : ◌≡◌ {A = ℕ} 0 1 → ⊥
clash z = omega arith

pub true_not_false : {a : Bool} → a ≡ true → a ≡ false → ⊥
true_not_false {a} t f = clash (cc)

-- two tests are equal if each follows from the other
pub both_ways : (a b : Bool) → (a ≡ true → b ≡ true) → (b ≡ true → a ≡ true) → a ≡ b
both_ways true b f g = sym (f refl)
both_ways false true f g = g refl
both_ways false false f g = refl

pub and_left : (a b : Bool) → (a && b) ≡ true → a ≡ true
and_left true b h = refl
and_left false b h = h

pub and_right : (a b : Bool) → (a && b) ≡ true → b ≡ true
and_right true b h = h
and_right false b h = absurd (clash (cc))

pub and_both : (a b : Bool) → a ≡ true → b ≡ true → (a && b) ≡ true
and_both a b p q = rw (p, q)

pub or_either : (a b : Bool) → (a || b) ≡ true → (a ≡ true) ⊎ (b ≡ true)
or_either true b h = inl refl
or_either false b h = inr h

pub or_first : (a b : Bool) → a ≡ true → (a || b) ≡ true
or_first a b p = rw p

pub or_second : (a b : Bool) → b ≡ true → (a || b) ≡ true
or_second a b p = rw (p, or-true)

pub not_not_true : (a : Bool) → (a ≡ true → ⊥) → a ≡ false
not_not_true true h = absurd (h refl)
not_not_true false h = refl

pub lt_or_le : (a b : ℕ) → (a < b) ⊎ (b ≤ a)
lt_or_le a b = go (ltb a b) refl
  where
    go : (t : Bool) → ltb a b ≡ t → (a < b) ⊎ (b ≤ a)
    go true e = inl (ltb-true a b e)
    go false e = inr (ltb-false a b e)

-- what holds below n and at n holds below n + 1
pub below_next {ℓ} : (P : ℕ → Type ℓ) (n : ℕ) → ((j : ℕ) → j < n → P j) → P n → (j : ℕ) → j < suc n → P j
below_next P n h p j l = go (lt_or_le j n)
  where
    go : (j < n) ⊎ (n ≤ j) → P j
    go (inl b) = h j b
    go (inr e) = let e : n ≡ j = omega arith in rw (← e) p

pub each_intro : (n : ℕ) (f : ℕ → Bool) → ((j : ℕ) → j < n → f j ≡ true) → each n f ≡ true
unfolding each
each_intro zero f h = refl
each_intro (suc n) f h = and_both (each n f) (f n) (each_intro n f (λ j l. h j (omega arith))) (h n (omega arith))

pub each_elim : (n : ℕ) (f : ℕ → Bool) → each n f ≡ true → (j : ℕ) → j < n → f j ≡ true
unfolding each
each_elim zero f h j l = absurd (omega arith)
each_elim (suc n) f h j l = below_next (λ j. f j ≡ true) n (each_elim n f (and_left (each n f) (f n) h)) (and_right (each n f) (f n) h) j l

-- a loop over `each`: before it, after a turn that passed, after all turns, and after one that did not pass
pub each_none : (f : ℕ → Bool) → each 0 f ≡ true
unfolding each
each_none f = refl

pub each_so_far : (i : ℕ) (f : ℕ → Bool) → each i f ≡ true → f i ≡ true → each (i + 1) f ≡ true
unfolding each
each_so_far i f h t = rw add-one (and_both (each i f) (f i) h t)

pub each_all : (n i : ℕ) (f : ℕ → Bool) → i ≤ n → n ≤ i → each i f ≡ true → each n f ≡ true
each_all n i f l m h = let e : n ≡ i = omega arith in rw e h

pub each_broken : (n i : ℕ) (f : ℕ → Bool) → i < n → f i ≡ false → each n f ≡ false
each_broken n i f l h = not_not_true (each n f) (λ e. true_not_false (each_elim n f e i l) h)

-- what a turn of such a loop learns from `if !r`, where r is the test
pub passed : {r t : Bool} → r ≡ t → not r ≡ false → t ≡ true
passed {r} e h = sym e ∙ not-false r h

pub not_passed : {r t : Bool} → r ≡ t → not r ≡ true → t ≡ false
not_passed {r} e h = sym e ∙ not-true r h

pub some_below_intro : (n : ℕ) (f : ℕ → Bool) (j : ℕ) → j < n → f j ≡ true → some_below n f ≡ true
unfolding some_below
some_below_intro zero f j l t = absurd (omega arith)
some_below_intro (suc n) f j l t = go (lt_or_le j n) (λ b. some_below_intro n f j b t)
  where
    go : (j < n) ⊎ (n ≤ j) → (j < n → some_below n f ≡ true) → (some_below n f || f n) ≡ true
    go (inl b) h = or_first (some_below n f) (f n) (h b)
    go (inr b) h = let e : j ≡ n = omega arith in or_second (some_below n f) (f n) (rw e at t)

pub some_below_elim : (n : ℕ) (f : ℕ → Bool) → some_below n f ≡ true → (j : ℕ) × (j < n) × (f j ≡ true)
unfolding some_below
some_below_elim zero f h = absurd (clash (cc))
some_below_elim (suc n) f h = go (or_either (some_below n f) (f n) h) (some_below_elim n f)
  where
    go : (some_below n f ≡ true) ⊎ (f n ≡ true) → (some_below n f ≡ true → (j : ℕ) × (j < n) × (f j ≡ true)) → (j : ℕ) × (j < suc n) × (f j ≡ true)
    go (inl a) r = let (j, l, t) = r a in (j, (omega arith), t)
    go (inr b) r = (n, (omega arith), b)

-- what the smallest number below n that passes f is, and when there is none
pub Least : ℕ → (ℕ → Bool) → Option ℕ → Type 0
Least n f none = (j : ℕ) → j < n → f j ≡ false
Least n f (some k) = (k < n) × (f k ≡ true) × ((j : ℕ) → j < k → f j ≡ false)

pub least_is : (n : ℕ) (f : ℕ → Bool) → Least n f (least n f)
unfolding least Least
least_is zero f = λ j l. absurd (omega arith)
least_is (suc n) f = go (least n f) (least_is n f)
  where
    at_n : (b : Bool) → f n ≡ b → ((j : ℕ) → j < n → f j ≡ false) → Least (suc n) f (choose b (λ _. some n) (λ _. none))
    at_n true e r = ((omega arith), e, r)
    at_n false e r = below_next (λ j. f j ≡ false) n r e

    go : (o : Option ℕ) → Least n f o → Least (suc n) f (maybe o (λ _. choose (f n) (λ _. some n) (λ _. none)) some)
    go none r = at_n (f n) refl r
    go (some k) r = ((let (l, t, s) = r in omega arith), r.1, r.2)

pub least_some : (n : ℕ) (f : ℕ → Bool) (k : ℕ) → least n f ≡ some k → (k < n) × (f k ≡ true) × ((j : ℕ) → j < k → f j ≡ false)
unfolding Least
least_some n f k e = rw e at (least_is n f)

pub least_none : (n : ℕ) (f : ℕ → Bool) → least n f ≡ none → (j : ℕ) → j < n → f j ≡ false
unfolding Least
least_none n f e = rw e at (least_is n f)

-- the number that passes the test where none below it does is the least
pub least_found : (n : ℕ) (f : ℕ → Bool) (k : ℕ) → k < n → f k ≡ true → ((j : ℕ) → j < k → f j ≡ false) → least n f ≡ some k
least_found n f k l t h = go (least n f) refl
  where
    go : (o : Option ℕ) → least n f ≡ o → o ≡ some k
    go none e = absurd (true_not_false t (least_none n f e k l))
    go (some j) e = ap some (let z : j ≡ k = at (lt_or_le j k) (lt_or_le k j) in z)
      where
        at : (j < k) ⊎ (k ≤ j) → (k < j) ⊎ (j ≤ k) → j ≡ k
        at (inl a) w = absurd (true_not_false (least_some n f j e).1 (h j a))
        at (inr a) (inl b) = absurd (true_not_false t ((least_some n f j e).2 k b))
        at (inr a) (inr b) = omega arith

-- where none passes there is none
pub least_not : (n : ℕ) (f : ℕ → Bool) → ((j : ℕ) → j < n → f j ≡ false) → least n f ≡ none
least_not n f h = go (least n f) refl
  where
    go : (o : Option ℕ) → least n f ≡ o → o ≡ none
    go none e = refl
    go (some j) e = let (l, t, r) = least_some n f j e in absurd (true_not_false t (h j l))

-- the number that was found tells whether there is a least
pub least_told : (n : ℕ) (f : ℕ → Bool) (r : ℕ) → r ≡ maybe (least n f) (λ _. n) (λ i. i) → (r ≡ n → least n f ≡ none) × ((r ≡ n → ⊥) → least n f ≡ some r)
least_told n f r = go (least n f) refl
  where
    go : (o : Option ℕ) → least n f ≡ o → r ≡ maybe o (λ _. n) (λ i. i) → (r ≡ n → o ≡ none) × ((r ≡ n → ⊥) → o ≡ some r)
    go none w e = (λ _. refl, λ ne. absurd (ne e))
    go (some k) w e = (λ z. let (l, t, h) = least_some n f k w in absurd (let a : k ≡ n = sym e ∙ z in omega arith), λ _. ap some (sym e))

pub greatest_above : (n : ℕ) (f : ℕ → ℕ) (j : ℕ) → j < n → f j ≤ greatest n f
unfolding greatest
greatest_above zero f j l = absurd (omega arith)
greatest_above (suc n) f j l =
    below_next (λ j. f j ≤ max (greatest n f) (f n)) n
    (λ j l. let h = greatest_above n f j l in omega arith)
    (omega arith)
    j
    l

pub greatest_at : (n : ℕ) (f : ℕ → ℕ) → 0 < n → (j : ℕ) × (j < n) × (f j ≡ greatest n f)
unfolding greatest
greatest_at zero f l = absurd (omega arith)
greatest_at (suc zero) f l = (0, (omega arith), (omega arith))
greatest_at (suc (suc n)) f l = go (lt_or_le (f (suc n)) (greatest (suc n) f)) (greatest_at (suc n) f (omega arith))
  where
    go : (f (suc n) < greatest (suc n) f) ⊎ (greatest (suc n) f ≤ f (suc n)) → (j : ℕ) × (j < suc n) × (f j ≡ greatest (suc n) f)
        → (j : ℕ) × (j < suc (suc n)) × (f j ≡ max (greatest (suc n) f) (f (suc n)))
    go (inl b) (j, k, e) = (j, (omega arith), (omega arith))
    go (inr b) (j, k, e) = (suc n, (omega arith), (omega arith))

-- what holds of both branches holds of the one chosen; each branch may use its test
pub choose_case {ℓ κ} : {A : Type ℓ} (P : A → Type κ) (t : Bool) (x y : Unit {0} → A) → (t ≡ true → P (x tt)) → (t ≡ false → P (y tt)) → P (choose t x y)
choose_case P true x y p q = p refl
choose_case P false x y p q = q refl

-- the same where there may be a value
pub maybe_case {ℓ κ μ} : {A : Type ℓ} {B : Type κ} (P : B → Type μ) (o : Option A) (x : Unit {0} → B) (f : A → B)
    → (o ≡ none → P (x tt)) → ((a : A) → o ≡ some a → P (f a)) → P (maybe o x f)
maybe_case P none x f p q = p refl
maybe_case P (some a) x f p q = q a refl
