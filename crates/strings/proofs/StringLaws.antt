-- Laws about the strings of a question line: what one that is wrong, or is read, makes of the line that is written.
-- Assumes nothing.
use Prim.Native.Nat.{ℕ, ◌+◌, ◌≤◌}
use native.Mathlib.Omega.{arith}
use mathlib.Core.Path.{◌≡◌, refl, sym, ◌∙◌, ap}
use mathlib.Core.Bool.{Bool, true, false, cond}
use mathlib.Core.List.{List, ◌++◌}
use lib.ListN.{length, take, drop}
use lib.Seq.{sets-eq, length-sets, take_at}
use Rattle.std.specs.Prelude.{Some, None}
use Rattle.std.proofs.lemmas.Option.{none-some, cond_some}
use Rattle.texts.specs.Texts.{Appended}
use Rattle.texts.specs.Fields.{string_right, string_bytes, Decodes}
use Rattle.lines.specs.Lines.{bad_line}
use Rattle.strings.specs.Strings.{first, others, with_string}

-- what is not right is answered none
refused : (b : Bool) (x : ℕ) → None ≡ cond b (Some x) None → b ≡ false
refused true x h = absurd (none-some x h)
refused false x h = refl

-- a string of bytes, wrong or read
module _ (l m : List ℕ) (end : ℕ) (f field before after : List ℕ) (rest : List ℕ → List ℕ → List ℕ) (e : field ≡ first f) (k : length before ≡ 524288) where
  pub string_wrong : Decodes field before after None → Appended l m 0 bad_line end → Appended l m 0 (with_string f rest) end
  unfolding with_string
  string_wrong d a =
      let h : string_right (length before) field ≡ false = refused (string_right (length before) field) (length (string_bytes (length before) field)) d.result in
      let g : string_right 524288 (first f) ≡ false = rw (k, e) at h in
      rw g a

  right_is : (n : ℕ) → Decodes field before after (Some n) → (string_right 524288 (first f) ≡ true) × (length (string_bytes (length before) field) ≡ n)
  right_is n d =
      let h : (string_right (length before) field ≡ true) × (length (string_bytes (length before) field) ≡ n) =
      cond_some (string_right (length before) field) (length (string_bytes (length before) field)) n (sym d.result) in
      let r : string_right (length before) field ≡ true = h.0 in
      (rw (k, e) at r, h.1)

  part_is : (n : ℕ) → Decodes field before after (Some n) → n ≤ length after → take n after ≡ string_bytes 524288 (first f)
  part_is n d c =
      let s : List ℕ = string_bytes (length before) field in
      let v : length s ≡ n = (right_is n d).1 in
      let x : length after ≡ length before = ap length d.buffer ∙ length-sets before 0 s in
      let y : after ≡ s ++ drop (0 + length s) before = d.buffer ∙ sets-eq s before 0 (omega arith) in
      let z : take n after ≡ s = ap (take n) y ∙ take_at s (drop (0 + length s) before) n v in
      rw (k, e) at z

  pub string_read : (n : ℕ) → n ≤ length after → Decodes field before after (Some n) → (g : List ℕ) → g ≡ others f → Appended l m 0 (rest (take n after) g) end
      → Appended l m 0 (with_string f rest) end
  unfolding with_string
  string_read n c d g x a =
      let y : string_right 524288 (first f) ≡ true = (right_is n d).0 in
      let z : Appended l m 0 (rest (string_bytes 524288 (first f)) (others f)) end = rw (part_is n d c, x) at a in
      rw y z
