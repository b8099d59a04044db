-- What is written of a sheet's contents and of its child classes is what the sheet of a class has there.
-- Assumes nothing.
use Prim.Native.Nat.{ℕ, ◌+◌, ◌/◌, ◌%◌, ◌<◌, ◌^◌}
use native.Mathlib.Omega.{arith}
use mathlib.Core.Path.{◌≡◌, refl, ap}
use mathlib.Core.List.{List, [], ◌∷◌, ◌++◌, map}
use lib.ListN.{length, length-append}
use Rattle.encoding.specs.Records.{fours, number}
use Rattle.encoding.specs.Encoding.{gathered, contents}
use Rattle.encoding.specs.Numbers.{Every}
use Rattle.pen.specs.Writing.{two}
use Rattle.laying.specs.Laying.{entry, contents_bytes, number_bytes, sets_bytes}

-- two bytes hold a number below 65,536 whole
two_whole : (n : ℕ) → n < 65536 → two n ≡ n % 256 ∷ n / 256 ∷ []
two_whole n h = let e : n / 256 % 256 ≡ n / 256 = omega arith in ap (λ (x : ℕ). n % 256 ∷ x ∷ []) e

entry_whole : (m n : ℕ) → m < 65536 → n < 65536 → entry m n ≡ m % 256 ∷ m / 256 ∷ n % 256 ∷ n / 256 ∷ []
unfolding entry
entry_whole m n h k = λ i. two_whole m h i ++ two_whole n k i

-- the contents of bodies that end before byte 65,536
pub contents_are : (at : ℕ) (bs : List (List ℕ)) → at + length (gathered (λ b. b) bs) < 65536 → contents_bytes at (map length bs) ≡ fours (contents at bs)
unfolding contents_bytes contents fours gathered
contents_are at [] h = refl
contents_are at (b ∷ bs) h =
    let l = length-append b (gathered (λ b. b) bs) in
    (λ i. entry_whole at (length b) (omega (arith, l)) (omega (arith, l)) i ++ contents_are (at + length b) bs (omega (arith, l)) i)

-- the name sets of child classes
pub sets_are : (sets : List ℕ) → Every (λ s. s < 2 ^ 32) sets → sets_bytes sets ≡ fours (map number sets)
unfolding sets_bytes number_bytes fours
sets_are [] e = refl
sets_are (s ∷ sets) (h, e) = λ i. entry_whole (s % 65536) (s / 65536) (omega arith) (omega arith) i ++ sets_are sets e i
