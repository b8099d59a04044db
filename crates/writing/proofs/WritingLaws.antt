-- Laws about writing the class text: a law for each way out of the code.
-- Assumes nothing.
use Prim.Native.Nat.{ℕ, ◌+◌, ◌<◌, ◌≤◌}
use native.Mathlib.Omega.{arith}
use mathlib.Core.Path.{◌≡◌, refl, ◌∙◌, ap}
use mathlib.Core.Bool.{Bool, true, false, not}
use mathlib.Core.List.{List, [], ◌∷◌, ◌++◌}
use lib.ListN.{length, drop}
use lib.Seq.{sets-eq}
use Rattle.std.specs.Prelude.{Ok, Err}
use Rattle.model.specs.Answers.{WriteAnswer}
use Rattle.model.specs.Tree.{Class}
use Rattle.model.specs.Replies.{refuse}
use Rattle.model.specs.declared.Refusal.TheVariants.{Room, Naming, WrittenGuards}
use Rattle.model.proofs.Words.{passed, not_passed}
use Rattle.model.proofs.ReplyLaws.{answered_by, answered_room, answered_short}
use Rattle.pen.specs.Writing.{last_place, Puts}
use Rattle.writings.specs.Layout.{Named, class_text}
use Rattle.writings.specs.Missing.{names_right}
use Rattle.writings.specs.Writings.{guards_few, reply_text, text_values}
use Rattle.writing.specs.Writing.{Writes, WritesText}

module _ (n : Named) (c : Class) (out : List ℕ) where
  -- 17, 19, or neither
  pub unnamed : (b : Bool) → b ≡ names_right n c → not b ≡ true → Writes n c out out (Err Naming)
  unfolding reply_text
  unnamed b e f = let z : names_right n c ≡ false = not_passed e f in answered_by text_values (reply_text n c out) (refuse 17) (rw z) out (17 ∷ []) out refl refl

  module _ (b : Bool) (e : b ≡ names_right n c) (f : not b ≡ false) (d : Bool) (g : d ≡ guards_few c) where
    named_so : names_right n c ≡ true
    named_so = passed e f

    pub too_many : not d ≡ true → Writes n c out out (Err WrittenGuards)
    unfolding reply_text
    too_many h = let z : guards_few c ≡ false = not_passed g h in answered_by text_values (reply_text n c out) (refuse 19) (rw (named_so, z)) out (19 ∷ []) out refl refl

    pub text_asked : not d ≡ false → (after : List ℕ) (r : WriteAnswer) → WritesText n c out after r → Writes n c out after r
    unfolding reply_text
    text_asked h after r a = let z : guards_few c ≡ true = passed g h in rw (named_so, z) a

  -- the text was counted on no buffer: no place is past the last one
  module _ (few : length out < last_place) (none left : List ℕ) (needed : ℕ) (counted : Puts (class_text n c) none 0 left needed) where
    pub no_room : length out < needed → (after : List ℕ) → after ≡ out → WritesText n c out after (Err Room)
    no_room l after same = answered_short text_values (length (class_text n c)) (class_text n c) out after (omega (arith, counted.place)) same

    pub with_room : needed ≤ length out → (after : List ℕ) (r : ℕ) → Puts (class_text n c) out 0 after r → WritesText n c out after (Ok r)
    with_room l after r put =
        let text = class_text n c in
        let k : 0 + length text ≤ length out = omega (arith, counted.place) in
        let m : length text ≤ length out = omega arith in
        let e : r ≡ length text = omega (arith, put.place) in
        let z : 0 + length text ≡ length text = omega arith in
        answered_room text_values (length text) text out (0 ∷ r ∷ []) after m (ap (λ (x : ℕ). 0 ∷ x ∷ []) e) (put.buffer ∙ sets-eq text out 0 k ∙ ap (λ (i : ℕ). text ++ drop i out) z)
