-- The loop question with all K classes present: what the judge's answer and the number of classes come to.
-- Assumes nothing.
use Prim.Native.Nat.{ℕ, ◌-◌, ◌*◌, ◌%◌, ◌^◌, ◌<◌, ◌≤◌}
use native.Mathlib.Omega.{arith}
use native.Mathlib.Nat.{mod-eq_of_lt}
use mathlib.Core.Path.{◌≡◌, refl, sym, ◌∙◌, ap}
use mathlib.Core.List.{List, [], ◌∷◌}
use lib.Pow.{pow_mono, pow_pos}
use Rattle.std.specs.Prelude.{Err}
use Rattle.model.specs.Refusals.{number_of}
use Rattle.model.specs.Replies.{refuse, Answered}
use Rattle.model.specs.declared.Refusal.{Refusal}
use Rattle.model.proofs.ReplyLaws.{answered}
use Rattle.records.specs.Bytes.{in_fours}
use Rattle.sheet.specs.Contents.{bodies, body}
use Rattle.sheet.specs.Reading.{class_of}
use Rattle.sheet.specs.Verdict.{Verdict, verdict_numbers, verdict, Stands}
use Rattle.sheet.specs.declared.judging.Places.{Places}
use Rattle.sheet.proofs.Reading.{child_classes_in}
use Rattle.sheet.proofs.AskedLaws.{asked, refused_too}
use Rattle.loops.specs.LoopQuestion.{reply_loop, loops_values}
use Rattle.loopcheck.specs.Line.{all_present, loop_reply}

-- the K lowest bits, K being at most 8
pub low_bits : (k : ℕ) → k ≤ 8 → (1 * 2 ^ k % 2 ^ 16 ≡ 2 ^ k) × (0 < 2 ^ k) × (2 ^ k ≤ 256)
low_bits k h =
    let most : 2 ^ k ≤ 2 ^ 8 = pow_mono h in
    let e : 1 * 2 ^ k ≡ 2 ^ k = omega arith in
    (ap (λ (x : ℕ). x % 2 ^ 16) e ∙ mod-eq_of_lt (omega arith), pow_pos k, omega arith)

-- a refused sheet is refused with all classes present too
pub refused_told : (b list : List ℕ) (r : Verdict) (x : Refusal) → verdict_numbers r ≡ verdict b → r ≡ Err x
    → Answered loops_values (loop_reply b list) list (number_of x ∷ []) list
unfolding loop_reply
refused_told b list r x e a =
    answered loops_values (loop_reply b list) (refuse (number_of x)) (refused_too b r e x a (λ c. reply_loop c (all_present c) list)) list list refl

-- the classes of the sheet are those of the class that it stands for
all_classes_present : (b : List ℕ) (n : ℕ) → n ≡ in_fours (body b 0) → 2 ^ n - 1 ≡ all_present (class_of b)
unfolding all_present class_of bodies
all_classes_present b n e = ap (λ (k : ℕ). 2 ^ k - 1) (e ∙ sym (child_classes_in (bodies b)))

-- an accepted sheet is asked with a bit for each of its classes
pub all_asked : (b list after answer : List ℕ) (p : Places) (n present : ℕ) → Stands b p → n ≡ in_fours (body b 0) → present ≡ 2 ^ n - 1
    → Answered loops_values (reply_loop (class_of b) present list) list answer after → Answered loops_values (loop_reply b list) list answer after
unfolding loop_reply
all_asked b list after answer p n present s e f a =
    let g : present ≡ all_present (class_of b) = f ∙ all_classes_present b n e in
    rw (asked b (λ c. reply_loop c (all_present c) list) s.accepted, ← g) a
