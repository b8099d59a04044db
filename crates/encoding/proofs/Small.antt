-- Records of bytes: numbers below 256.
-- Assumes nothing.
use Prim.Native.Nat.{ℕ, zero, suc, ◌<◌, ◌≤◌, ◌^◌}
use native.Mathlib.Omega.{arith}
use mathlib.Core.List.{List, [], ◌∷◌}
use Rattle.model.specs.Words.{Bytes}
use Rattle.model.specs.Tree.{Pattern, everyone, of_class, Kind, any_in, any_not_in, all_in, all_not_in}
use Rattle.encoding.specs.Records.{Four, Eight, four, pair, number, zeros, fours, eights}
use Rattle.encoding.specs.Encoding.{kind_number, pattern_number}
use Rattle.encoding.specs.Numbers.{Every, PatternNumbers}

abbrev pub Small : ℕ → Type 0
Small b = b < 256

pub record Small4 (r : Four) : Type 0 where
  pub s0 : r.b0 < 256
  pub s1 : r.b1 < 256
  pub s2 : r.b2 < 256
  pub s3 : r.b3 < 256

abbrev pub Small8 : Eight → Type 0
Small8 r = Small4 r.front × Small4 r.back

pub every_fours : (rs : List Four) → Every Small4 rs → Every Small (fours rs)
unfolding fours
every_fours [] a = tt
every_fours (r ∷ rs) a = (a.0.s0, (a.0.s1, (a.0.s2, (a.0.s3, every_fours rs a.1))))

pub every_eights : (rs : List Eight) → Every Small8 rs → Every Small (eights rs)
unfolding eights
every_eights [] a = tt
every_eights (r ∷ rs) a =
    let f = a.0.0 in
    let b = a.0.1 in
    (f.s0, (f.s1, (f.s2, (f.s3, (b.s0, (b.s1, (b.s2, (b.s3, every_eights rs a.1))))))))

pub every_bytes : (b : List ℕ) → Every Small b → Bytes b
every_bytes [] a zero = omega arith
every_bytes [] a (suc i) = omega arith
every_bytes (x ∷ xs) a zero = a.0
every_bytes (x ∷ xs) a (suc i) = every_bytes xs a.1 i

pub four_small : (a b c d : ℕ) → a < 256 → b < 256 → c < 256 → d < 256 → Small4 (four a b c d)
four_small a b c d p q r s = record { s0 = p; s1 = q; s2 = r; s3 = s }

pub zeros_small : Small4 zeros
zeros_small = four_small 0 0 0 0 (omega arith) (omega arith) (omega arith) (omega arith)

pub pair_small : (m n : ℕ) → m < 65536 → n < 65536 → Small4 (pair m n)
pair_small m n l k = record { s0 = omega arith; s1 = omega arith; s2 = omega arith; s3 = omega arith }

pub number_small : (s : ℕ) → s < 2 ^ 32 → Small4 (number s)
number_small s l = record { s0 = omega arith; s1 = omega arith; s2 = omega arith; s3 = omega arith }

pub pattern_small : (p : Pattern) (K : ℕ) → K ≤ 8 → PatternNumbers p K → pattern_number p < 256
pattern_small everyone K few w = omega arith
pattern_small (of_class c) K few w = omega arith

pub kind_small : (k : Kind) → kind_number k < 256
unfolding kind_number
kind_small any_in = omega arith
kind_small any_not_in = omega arith
kind_small all_in = omega arith
kind_small all_not_in = omega arith
