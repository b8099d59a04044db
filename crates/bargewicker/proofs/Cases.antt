-- The worked cases hold of the rules: one equation, computed from the bytes of the sheets, and the law that gives each entry.
-- Assumes nothing.
use mathlib.Core.Path.{◌≡◌, refl, sym, ◌∙◌, ap}
use mathlib.Core.List.Memᴰ
use mathlib.Core.List.{List, [], ◌∷◌, map, Memᴰ, head-eq_of_cons-eq, tail-eq_of_cons-eq}
use mathlib.Core.Logic.{◌⊎◌, inl, inr}
use Rattle.bargewicker.specs.Cases.{Case, cases, given, Worked, CasesHold}
use Rattle.bargewicker.proofs.Computing.{computing}

pub worked : Worked
unfolding computing
worked = refl

-- what a map leaves as it is, it leaves at each entry
fixed {ℓ} : {A : Type ℓ} (f : A → A) (xs : List A) → map f xs ≡ xs → (x : A) → Memᴰ x xs → f x ≡ x
fixed f [] e x m = absurd (Memᴰ.not-nil m)
fixed f (y ∷ ys) e x m = go (Memᴰ.cases_cons m) (fixed f ys (tail-eq_of_cons-eq e) x)
  where
    go : (x ≡ y) ⊎ Memᴰ x ys → (Memᴰ x ys → f x ≡ x) → f x ≡ x
    go (inl p) r = ap f p ∙ head-eq_of_cons-eq e ∙ sym p
    go (inr n) r = r n

-- every case of the table holds of whatever meets the promise of the face
pub cases_hold : CasesHold
unfolding given
cases_hold e m r after h =
    let p : given e ≡ e = fixed given cases worked e m in
    record { numbers_are = h.numbers_are ∙ ap (λ (x : Case). x.answer) p; buffer_is = h.buffer_is ∙ ap (λ (x : Case). x.buffer) p }
