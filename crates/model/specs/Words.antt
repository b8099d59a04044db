-- The few words on tests, numbers and lists that the definitions of the paper are written in.
-- Assumes nothing.
use Rattle.std.specs.Prelude.{ℕ, zero, suc, ◌+◌, ◌/◌, ◌%◌, ◌^◌, ◌<◌, max, Bool, true, false, ◌&&◌, ◌||◌, List, [], ◌∷◌, eqb, get_or}
use Rattle.std.proofs.Math.Option.{Option, none, some}

-- the first if the test holds, else the second; neither is computed before the test
abbrev pub choose {ℓ} : {A : Type ℓ} → Bool → (Unit {0} → A) → (Unit {0} → A) → A
choose true a b = a tt
choose false a b = b tt

-- what is made of the value, if there is one, else the first
abbrev pub maybe {ℓ κ} : {A : Type ℓ} {B : Type κ} → Option A → (Unit {0} → B) → (A → B) → B
maybe none b f = b tt
maybe (some a) b f = f a

abbrev pub is_some {ℓ} : {A : Type ℓ} → Option A → Bool
is_some none = false
is_some (some a) = true

-- the list with x in front of it, if the test holds
abbrev pub kept {ℓ} : {A : Type ℓ} → Bool → A → List A → List A
kept true x xs = x ∷ xs
kept false x xs = xs

-- those of the list that pass the test
unfoldable pub keep {ℓ} : {A : Type ℓ} → (A → Bool) → List A → List A
keep f [] = []
keep f (x ∷ xs) = kept (f x) x (keep f xs)

-- every entry of the list passes the test
unfoldable pub every {ℓ} : {A : Type ℓ} → (A → Bool) → List A → Bool
every f [] = true
every f (x ∷ xs) = f x && every f xs

-- some entry of the list passes the test
unfoldable pub some_in {ℓ} : {A : Type ℓ} → (A → Bool) → List A → Bool
some_in f [] = false
some_in f (x ∷ xs) = f x || some_in f xs

-- f i, f (i + 1), and so on: n of them
unfoldable pub listed {ℓ} : {A : Type ℓ} → ℕ → ℕ → (ℕ → A) → List A
listed i zero f = []
listed i (suc n) f = f i ∷ listed (suc i) n f

-- every number below n passes the test
unfoldable pub each : ℕ → (ℕ → Bool) → Bool
each zero f = true
each (suc n) f = each n f && f n

-- some number below n passes the test
unfoldable pub some_below : ℕ → (ℕ → Bool) → Bool
some_below zero f = false
some_below (suc n) f = some_below n f || f n

-- the smallest number below n that passes the test
unfoldable pub least : ℕ → (ℕ → Bool) → Option ℕ
least zero f = none
least (suc n) f = maybe (least n f) (λ _. choose (f n) (λ _. some n) (λ _. none)) some

-- the greatest of f at the numbers below n, 0 where there are none
unfoldable pub greatest : ℕ → (ℕ → ℕ) → ℕ
greatest zero f = 0
greatest (suc n) f = max (greatest n f) (f n)

-- the sum of f at the numbers below n, in numbers that do not wrap
unfoldable pub total : ℕ → (ℕ → ℕ) → ℕ
total zero f = 0
total (suc n) f = total n f + f n

-- bit n of s: in a name set, that name n is in it
unfoldable pub has : ℕ → ℕ → Bool
has s n = eqb (s / 2 ^ n % 2) 1

-- a byte string: each number is below 256
abbrev pub Bytes : List ℕ → Type 0
Bytes b = (i : ℕ) → get_or b i 0 < 256
