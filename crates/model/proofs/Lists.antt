-- Laws about the lists of specs/Words.antt: what is listed, kept, in a list.
-- Assumes nothing.
use Prim.Native.Nat.{ℕ, zero, suc, ◌+◌, ◌<◌, ◌≤◌}
use native.Mathlib.Omega.{arith}
use mathlib.Core.Path.{◌≡◌, refl, ◌∙◌, ap}
use mathlib.Core.Bool.{Bool, true, false, ◌||◌}
use mathlib.Core.List.Memᴰ
use mathlib.Core.List.{List, [], ◌∷◌, ◌++◌, Memᴰ}
use mathlib.Core.Logic.{◌⊎◌, inl, inr}
use lib.ListN.{length, get_or, replicate}
use Rattle.model.specs.Words.{kept, keep, every, some_in, listed}
use Rattle.model.proofs.Words.{clash, true_not_false, and_left, and_right, and_both, or_either, or_first, or_second}

pub length_listed {ℓ} : {A : Type ℓ} (i n : ℕ) (f : ℕ → A) → length (listed i n f) ≡ n
unfolding listed
length_listed i zero f = refl
length_listed i (suc n) f = ap suc (length_listed (suc i) n f)

-- entry j of f i, f (i + 1), ..
pub get_or_listed {ℓ} : {A : Type ℓ} (i n : ℕ) (f : ℕ → A) (d : A) (j a : ℕ) → j < n → a ≡ i + j → get_or (listed i n f) j d ≡ f a
unfolding listed
get_or_listed i zero f d j a l e = absurd (omega arith)
get_or_listed i (suc n) f d zero a l e = ap f (let h : i ≡ a = omega arith in h)
get_or_listed i (suc n) f d (suc j) a l e = get_or_listed (suc i) n f d j a (omega arith) (omega arith)

pub get_or_past {ℓ} : {A : Type ℓ} (i n : ℕ) (f : ℕ → A) (d : A) (j : ℕ) → n ≤ j → get_or (listed i n f) j d ≡ d
unfolding listed
get_or_past i zero f d zero l = refl
get_or_past i zero f d (suc j) l = refl
get_or_past i (suc n) f d zero l = absurd (omega arith)
get_or_past i (suc n) f d (suc j) l = get_or_past (suc i) n f d j (omega arith)

pub listed_mem {ℓ} : {A : Type ℓ} (i n : ℕ) (f : ℕ → A) (j a : ℕ) → j < n → a ≡ i + j → Memᴰ (f a) (listed i n f)
unfolding listed
listed_mem i zero f j a l e = absurd (omega arith)
listed_mem i (suc n) f zero a l e = Memᴰ.head (ap f (let h : a ≡ i = omega arith in h))
listed_mem i (suc n) f (suc j) a l e = Memᴰ.tail (listed_mem (suc i) n f j a (omega arith) (omega arith))

pub mem_listed {ℓ} : {A : Type ℓ} (i n : ℕ) (f : ℕ → A) (x : A) → Memᴰ x (listed i n f) → (a : ℕ) × (i ≤ a) × (a < i + n) × (x ≡ f a)
unfolding listed
mem_listed i zero f x m = absurd (Memᴰ.not-nil m)
mem_listed i (suc n) f x m = go (Memᴰ.cases_cons m) (mem_listed (suc i) n f x)
  where
    go : (x ≡ f i) ⊎ Memᴰ x (listed (suc i) n f) → (Memᴰ x (listed (suc i) n f) → (a : ℕ) × (suc i ≤ a) × (a < suc i + n) × (x ≡ f a))
        → (a : ℕ) × (i ≤ a) × (a < i + suc n) × (x ≡ f a)
    go (inl e) r = (i, (omega arith), (omega arith), e)
    go (inr t) r = let (a, l, u, e) = r t in (a, (omega arith), (omega arith), e)

module _ {ℓ} {A : Type ℓ} (f : A → Bool) where
  pub every_elim : (xs : List A) → every f xs ≡ true → (x : A) → Memᴰ x xs → f x ≡ true
  unfolding every
  every_elim [] h x m = absurd (Memᴰ.not-nil m)
  every_elim (y ∷ ys) h x m = go (Memᴰ.cases_cons m) (every_elim ys (and_right (f y) (every f ys) h) x)
    where
      go : (x ≡ y) ⊎ Memᴰ x ys → (Memᴰ x ys → f x ≡ true) → f x ≡ true
      go (inl e) r = rw e (and_left (f y) (every f ys) h)
      go (inr t) r = r t

  pub every_intro : (xs : List A) → ((x : A) → Memᴰ x xs → f x ≡ true) → every f xs ≡ true
  unfolding every
  every_intro [] h = refl
  every_intro (y ∷ ys) h = and_both (f y) (every f ys) (h y (Memᴰ.head refl)) (every_intro ys (λ x m. h x (Memᴰ.tail m)))

  pub some_in_elim : (xs : List A) → some_in f xs ≡ true → (x : A) × Memᴰ x xs × (f x ≡ true)
  unfolding some_in
  some_in_elim [] h = absurd (clash (cc))
  some_in_elim (y ∷ ys) h = go (or_either (f y) (some_in f ys) h) (some_in_elim ys)
    where
      go : (f y ≡ true) ⊎ (some_in f ys ≡ true) → (some_in f ys ≡ true → (x : A) × Memᴰ x ys × (f x ≡ true)) → (x : A) × Memᴰ x (y ∷ ys) × (f x ≡ true)
      go (inl t) r = (y, Memᴰ.head refl, t)
      go (inr s) r = let (x, m, t) = r s in (x, Memᴰ.tail m, t)

  pub some_in_intro : (xs : List A) (x : A) → Memᴰ x xs → f x ≡ true → some_in f xs ≡ true
  unfolding some_in
  some_in_intro [] x m t = absurd (Memᴰ.not-nil m)
  some_in_intro (y ∷ ys) x m t = go (Memᴰ.cases_cons m) (λ n. some_in_intro ys x n t)
    where
      go : (x ≡ y) ⊎ Memᴰ x ys → (Memᴰ x ys → some_in f ys ≡ true) → (f y || some_in f ys) ≡ true
      go (inl e) r = or_first (f y) (some_in f ys) (rw e at t)
      go (inr n) r = or_second (f y) (some_in f ys) (r n)

  pub keep_mem : (xs : List A) (x : A) → Memᴰ x (keep f xs) → Memᴰ x xs × (f x ≡ true)
  unfolding keep
  keep_mem [] x m = absurd (Memᴰ.not-nil m)
  keep_mem (y ∷ ys) x m = go (f y) refl m (keep_mem ys x)
    where
      go : (b : Bool) → f y ≡ b → Memᴰ x (kept b y (keep f ys)) → (Memᴰ x (keep f ys) → Memᴰ x ys × (f x ≡ true)) → Memᴰ x (y ∷ ys) × (f x ≡ true)
      go false e n r = (Memᴰ.tail (r n).0, (r n).1)
      go true e n r = at (Memᴰ.cases_cons n)
        where
          at : (x ≡ y) ⊎ Memᴰ x (keep f ys) → Memᴰ x (y ∷ ys) × (f x ≡ true)
          at (inl p) = (Memᴰ.head p, (rw p e))
          at (inr q) = (Memᴰ.tail (r q).0, (r q).1)

  pub mem_keep : (xs : List A) (x : A) → Memᴰ x xs → f x ≡ true → Memᴰ x (keep f xs)
  unfolding keep
  mem_keep [] x m t = absurd (Memᴰ.not-nil m)
  mem_keep (y ∷ ys) x m t = go (f y) refl (Memᴰ.cases_cons m) (λ n. mem_keep ys x n t)
    where
      go : (b : Bool) → f y ≡ b → (x ≡ y) ⊎ Memᴰ x ys → (Memᴰ x ys → Memᴰ x (keep f ys)) → Memᴰ x (kept b y (keep f ys))
      go true e (inl p) r = Memᴰ.head p
      go true e (inr n) r = Memᴰ.tail (r n)
      go false e (inl p) r = let t' : f y ≡ true = rw p at t in absurd (true_not_false t' e)
      go false e (inr n) r = r n

-- one entry more at the end
pub listed_more {ℓ} : {A : Type ℓ} (i n : ℕ) (f : ℕ → A) → listed i (suc n) f ≡ listed i n f ++ (f (i + n) ∷ [])
unfolding listed
listed_more i zero f = ap (λ (j : ℕ). f j ∷ []) (let e : i ≡ i + 0 = omega arith in e)
listed_more i (suc n) f =
    ap (◌∷◌ (f i)) (listed_more (suc i) n f ∙ ap (λ (j : ℕ). listed (suc i) n f ++ (f j ∷ [])) (let e : suc i + n ≡ i + suc n = omega arith in e))

pub keep_append {ℓ} : {A : Type ℓ} (f : A → Bool) (xs ys : List A) → keep f (xs ++ ys) ≡ keep f xs ++ keep f ys
unfolding keep
keep_append f [] ys = refl
keep_append f (x ∷ xs) ys = rw (keep_append f xs ys) (go (f x))
  where
    go : (b : Bool) → kept b x (keep f xs ++ keep f ys) ≡ kept b x (keep f xs) ++ keep f ys
    go true = refl
    go false = refl

-- the same entries make the same list
pub listed_same {ℓ} : {A : Type ℓ} (i n : ℕ) (f g : ℕ → A) → ((j : ℕ) → j < i + n → f j ≡ g j) → listed i n f ≡ listed i n g
unfolding listed
listed_same i zero f g h = refl
listed_same i (suc n) f g h = rw (h i (omega arith), listed_same (suc i) n f g (λ j l. h j (omega arith)))

-- a table of one number, which stands past its end too
pub get_or_alike : (n j x : ℕ) → get_or (replicate n x) j x ≡ x
get_or_alike zero j x = refl
get_or_alike (suc n) zero x = refl
get_or_alike (suc n) (suc j) x = get_or_alike n j x

pub get_or_zeros : (n j : ℕ) → get_or {A = ℕ} (replicate n 0) j 0 ≡ 0
get_or_zeros n j = get_or_alike n j 0
