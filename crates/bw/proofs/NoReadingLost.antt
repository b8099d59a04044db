-- Packing loses nothing of an answer to a class text: each number fits its field and is read back.
-- Assumes nothing.
use Prim.Native.Nat.{ℕ, ◌+◌, ◌*◌, ◌<◌, ◌^◌}
use native.Mathlib.Omega.{arith}
use mathlib.Core.Path.{◌≡◌, refl, sym, ◌∙◌, ap}
use mathlib.Core.List.{[], ◌∷◌}
use mathlib.Core.Logic.{◌⊎◌, inl, inr}
use borrow.Author.Tests.{ne_eqb}
use Rattle.readings.specs.Readings as Readings
use Rattle.readings.specs.Readings.{Lent, Reading, Outcome, Answers, reading_numbers}
use Rattle.readings.proofs.ReadLaws.{reads}
use Rattle.bw.specs.Packed.{refused, side_by_side, read}
use Rattle.bw.specs.PackedReading.{place, state_count, sheet_length, packed_reading, unpacked_reading, Lendable, NoReadingLost}
use Rattle.bw.proofs.ReadBack.{between}
use Rattle.bw.proofs.ReadingBounds.{place_inside, read_small}

-- its numbers are read back from its word
abbrev Kept : Reading → Type 0
Kept r = unpacked_reading (packed_reading r) ≡ reading_numbers r

-- a word with these fields
holds_wrong : (w p : ℕ) → read w refused ≡ 16 → read w place ≡ p → unpacked_reading w ≡ 16 ∷ p ∷ []
unfolding unpacked_reading
holds_wrong w p e f = rw (e, f)

holds_read : (w l s : ℕ) → read w refused ≡ 0 → read w sheet_length ≡ l → read w state_count ≡ s → unpacked_reading w ≡ 0 ∷ l ∷ s ∷ []
unfolding unpacked_reading
holds_read w l s e f g = rw (e, f, g)

holds_refused : (w n : ℕ) → read w refused ≡ n → (n ≡ 16 → ⊥) → (n ≡ 0 → ⊥) → unpacked_reading w ≡ n ∷ []
unfolding unpacked_reading
holds_refused w n e f g = rw (e, ne_eqb n 16 f, ne_eqb n 0 g)

-- 16 with its place
wrong_kept : (p : ℕ) → p < 2 ^ 56 → Kept (Readings.wrong p)
unfolding packed_reading reading_numbers side_by_side
wrong_kept p l = go (packed_reading (Readings.wrong p)) (omega arith)
  where
    go : (w : ℕ) → w ≡ 16 + p * 256 → unpacked_reading w ≡ 16 ∷ p ∷ []
    go w e = holds_wrong w p (between refused w p 16 0 (omega arith) (omega arith) (omega arith)) (between place w 0 p 16 (omega arith) (omega arith) l)

-- another refusal
refused_kept : (n : ℕ) → n < 256 → (n ≡ 16 → ⊥) → (n ≡ 0 → ⊥) → Kept (Readings.refused n)
unfolding packed_reading reading_numbers side_by_side
refused_kept n l f g = holds_refused (packed_reading (Readings.refused n)) n (omega arith) f g

-- read
read_kept : (l s : ℕ) → l < 4294967296 → s < 256 → Kept (Readings.read l s)
unfolding packed_reading reading_numbers side_by_side
read_kept l s m n = go (packed_reading (Readings.read l s)) (omega arith)
  where
    go : (w : ℕ) → w ≡ s * 65536 + l * 4294967296 → unpacked_reading w ≡ 0 ∷ l ∷ s ∷ []
    go w e =
        holds_read w l s (between refused w (256 * s + 16777216 * l) 0 0 (omega arith) (omega arith) (omega arith))
        (between sheet_length w 0 l (s * 65536) (omega arith) (omega arith) m)
        (between state_count w (256 * l) s 0 (omega arith) (omega arith) n)

-- every number
read_back : (q : Lent) (o : Outcome) → Lendable q → Answers q o → Kept o.reading
read_back q o h a = go o.reading refl
  where
    refusals : (n : ℕ) → (n ≡ 17) ⊎ (n ≡ 18) ⊎ (n ≡ 15) → Kept (Readings.refused n)
    refusals n (inl e) = refused_kept n (omega arith) (λ z. omega arith) (λ z. omega arith)
    refusals n (inr (inl e)) = refused_kept n (omega arith) (λ z. omega arith) (λ z. omega arith)
    refusals n (inr (inr e)) = refused_kept n (omega arith) (λ z. omega arith) (λ z. omega arith)

    go : (r : Reading) → o.reading ≡ r → Kept r
    go (Readings.wrong p) e = let i = place_inside q.text p (((reads.rows q o a).sixteen p).0 e) in let s = h.text_short in wrong_kept p (omega arith)
    go (Readings.refused n) e = refusals n ((reads.rows q o a).no_other n e)
    go (Readings.read l s) e = let (x, y) = read_small q o h.classes_bytes a l s e in read_kept l s (omega arith) (omega arith)

pub no_reading_lost : NoReadingLost
no_reading_lost =
    record {
      read_back = read_back;
      told_apart = λ q p o u h k a b e. reads.one.numbers_tell o.reading u.reading (sym (read_back q o h a) ∙ ap unpacked_reading e ∙ read_back p u k b);
    }
