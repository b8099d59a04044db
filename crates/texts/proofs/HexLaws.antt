-- Laws about digits and strings of bytes in hex: one for each turn and return of the code in reading.rt.
-- Assumes nothing.
use Prim.Native.Nat.{ℕ, suc, ◌+◌, ◌*◌, ◌/◌, ◌%◌, ◌<◌, ◌≤◌}
use native.Mathlib.Omega.{arith}
use native.Mathlib.Numerals.{add-one}
use mathlib.Core.Path.{◌≡◌, refl, sym, ◌∙◌, ap}
use mathlib.Core.Bool.{Bool, true, false, ◌&&◌}
use mathlib.Core.List.{List, [], ◌∷◌}
use lib.Dec.{eqb, leb}
use lib.ListN.{length, drop, get_or, set, length-drop, drop_of_length-le}
use lib.Seq.{sets, drop-cons}
use borrow.Author.Tests.{eq-eqb, ne_eqb, le-leb, lt-leb}
use Rattle.std.specs.Prelude.{Option, Some, None, MatchOption, is_some}
use Rattle.texts.specs.Fields.{hex_value, hex_digits, pair_value, hex_bytes, string_right, string_bytes, Decodes}

-- what a byte's value is where it is a hex digit, and where it is none
pub figure_value : (o : Option ℕ) (v : ℕ) → MatchOption o (v ≡ 16) (λ d. (d < 16) × (d ≡ v)) → is_some o ≡ true → v ≤ 15
figure_value None v k e = absurd (let z : ◌≡◌ {A = ℕ} 0 1 = cc in omega arith)
figure_value (Some d) v k e = omega (arith, k.0, k.1)

pub no_figure : (o : Option ℕ) (v : ℕ) → MatchOption o (v ≡ 16) (λ d. (d < 16) × (d ≡ v)) → is_some o ≡ false → 15 < v
no_figure None v k e = omega (arith, k)
no_figure (Some d) v k e = absurd (let z : ◌≡◌ {A = ℕ} 0 1 = cc in omega arith)

-- hex digits from a place on
pub hex_on : (l : List ℕ) (i : ℕ) (t : Bool) → i < length l → t ≡ hex_digits (drop i l) → hex_value (get_or l i 0) ≤ 15 → t ≡ hex_digits (drop (i + 1) l)
unfolding hex_digits
hex_on l i t h s e = s ∙ rw (add-one, drop-cons l i 0 h, le-leb (hex_value (get_or l i 0)) 15 e)

pub hex_broken : (l : List ℕ) (i : ℕ) (t : Bool) → i < length l → t ≡ hex_digits (drop i l) → 15 < hex_value (get_or l i 0) → t ≡ false
unfolding hex_digits
hex_broken l i t h s e = s ∙ rw (drop-cons l i 0 h, lt-leb (hex_value (get_or l i 0)) 15 e)

pub hex_end : (l : List ℕ) (i : ℕ) (t : Bool) → length l ≤ i → t ≡ hex_digits (drop i l) → t ≡ true
unfolding hex_digits
hex_end l i t h s = s ∙ rw (drop_of_length-le l h)

-- bytes unpacked up to a pair, with those that are left
pub unpack_on : (l o n z : List ℕ) (i p : ℕ) → i < length l / 2 → sets o i (hex_bytes (drop (2 * i) l)) ≡ z
    → p ≡ pair_value (get_or l (2 * i) 0) (get_or l (2 * i + 1) 0) → n ≡ set o i p → sets n (i + 1) (hex_bytes (drop (2 * (i + 1)) l)) ≡ z
unfolding hex_bytes
unpack_on l o n z i p h s e f =
    let a : 2 * (i + 1) ≡ suc (suc (2 * i)) = omega arith in
    let b : 2 * i + 1 ≡ suc (2 * i) = omega arith in
    let d = drop-cons l (2 * i) 0 (omega arith) in
    let g = drop-cons l (suc (2 * i)) 0 (omega arith) in
    let w : hex_bytes (drop (2 * i) l) ≡ p ∷ hex_bytes (drop (suc (suc (2 * i))) l) = rw (d, g, e, b) in
    rw (a, add-one, f) (ap (λ (m : List ℕ). sets o i m) (sym w) ∙ s)

pub unpack_end : (l o z : List ℕ) (i : ℕ) → length l / 2 ≤ i → i ≤ length l / 2 → sets o i (hex_bytes (drop (2 * i) l)) ≡ z → o ≡ z
unfolding hex_bytes
unpack_end l o z i h k s = go (drop (2 * i) l) (omega (arith, length-drop (2 * i) l)) ∙ s
  where
    go : (m : List ℕ) → length m ≤ 1 → o ≡ sets o i (hex_bytes m)
    go [] e = refl
    go (a ∷ []) e = refl
    go (a ∷ b ∷ m) e = absurd (omega arith)

-- two digits are a byte
hex_length : (l : List ℕ) → length (hex_bytes l) ≡ length l / 2
unfolding hex_bytes
hex_length [] = refl
hex_length (a ∷ []) = refl
hex_length (a ∷ b ∷ l) = let r = hex_length l in omega arith

-- a field of no byte, of one, of more that are not right and that are
pub decode_none : (l o : List ℕ) → length l ≡ 0 → Decodes l o o None
unfolding string_right string_bytes
decode_none [] o h = record { result = refl; buffer = refl }
decode_none (a ∷ l) o h = absurd (omega arith)

pub decode_dash : (l o : List ℕ) → length l ≡ 1 → get_or l 0 0 ≡ 45 → Decodes l o o (Some 0)
unfolding string_right string_bytes hex_bytes
decode_dash [] o h e = absurd (omega arith)
decode_dash (a ∷ []) o h e = let t : eqb a 45 ≡ true = eq-eqb a 45 e in record { result = rw t; buffer = rw t }
decode_dash (a ∷ b ∷ l) o h e = absurd (omega arith)

pub decode_other : (l o : List ℕ) → length l ≡ 1 → (get_or l 0 0 ≡ 45 → ⊥) → Decodes l o o None
unfolding string_right string_bytes hex_bytes
decode_other [] o h e = absurd (omega arith)
decode_other (a ∷ []) o h e = let t : eqb a 45 ≡ false = ne_eqb a 45 e in record { result = rw t; buffer = rw t }
decode_other (a ∷ b ∷ l) o h e = absurd (omega arith)

string_told : (room : ℕ) (l : List ℕ) → (length l ≡ 0 → ⊥) → (length l ≡ 1 → ⊥)
    → string_right room l ≡ (eqb (length l % 2) 0 && (leb (length l / 2) room && hex_digits l))
unfolding string_right
string_told room [] f g = absurd (f refl)
string_told room (a ∷ []) f g = absurd (g refl)
string_told room (a ∷ b ∷ l) f g = refl

pub decode_wrong : (l o : List ℕ) (t : Bool) → (length l ≡ 0 → ⊥) → (length l ≡ 1 → ⊥) → t ≡ hex_digits l
    → (eqb (length l % 2) 0 && (leb (length l / 2) (length o) && t)) ≡ false → Decodes l o o None
unfolding string_bytes
decode_wrong l o t f g e w =
    let r : string_right (length o) l ≡ false = string_told (length o) l f g ∙ (rw e at w) in
    let b : string_bytes (length o) l ≡ [] = rw r in
    record { result = rw r; buffer = rw b }

pub decode_right : (l o p : List ℕ) (t : Bool) → (length l ≡ 0 → ⊥) → (length l ≡ 1 → ⊥) → t ≡ hex_digits l
    → (eqb (length l % 2) 0 && (leb (length l / 2) (length o) && t)) ≡ true → p ≡ sets o 0 (hex_bytes l) → Decodes l o p (Some (length l / 2))
unfolding string_bytes
decode_right l o p t f g e w q =
    let r : string_right (length o) l ≡ true = string_told (length o) l f g ∙ (rw e at w) in
    let b : string_bytes (length o) l ≡ hex_bytes l = rw r in
    record { result = rw (r, hex_length l); buffer = q ∙ ap (sets o 0) (sym b) }
