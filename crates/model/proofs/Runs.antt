-- What the library's `all` and `any` tell of a list, in the words of specs/Words.antt.
-- Assumes nothing.
use Rattle.std.specs.List.{list_all, list_any}
use mathlib.Core.Path.{◌≡◌, refl, ap}
use mathlib.Core.Bool.{Bool, ◌&&◌, ◌||◌}
use mathlib.Core.List.{List, [], ◌∷◌}
use Rattle.model.specs.Words.{every, some_in}

module _ {A : Type 0} (f : A → Bool) where
  pub all_every : (xs : List A) → list_all f xs ≡ every f xs
  unfolding every
  all_every [] = refl
  all_every (x ∷ xs) = ap (λ (t : Bool). f x && t) (all_every xs)

  pub any_some_in : (xs : List A) → list_any f xs ≡ some_in f xs
  unfolding some_in
  any_some_in [] = refl
  any_some_in (x ∷ xs) = ap (λ (t : Bool). f x || t) (any_some_in xs)
