-- Demand 3, of whatever meets the promise of the loop question.
-- Assumes nothing.
use Prim.Native.Nat.{ℕ}
use mathlib.Core.Path.{◌≡◌, refl, sym, ◌∙◌, ap, subst}
use mathlib.Core.List.{List, []}
use Rattle.std.specs.Prelude.{Ok}
use Rattle.model.specs.Answers.{LoopAnswer}
use Rattle.model.proofs.Words.{clash}
use Rattle.sheet.specs.Reading.{class_of}
use Rattle.children.specs.ChildList.{pairs}
use Rattle.model.specs.Replies.{written}
use Rattle.sheet.proofs.Sound.{sound}
use Rattle.configurations.specs.LoopAnswer.{Loops, loop, free, loop_answer}
use Rattle.configurations.specs.Demand.{Demanded}
use Rattle.configurations.proofs.Demand.{demanded}
use Rattle.model.specs.Replies.{give, told_as}
use Rattle.model.specs.declared.Loops.TheVariants.{Loop, Free}
use Rattle.model.proofs.ReplyLaws.{answered}
use Rattle.sheet.proofs.AskedLaws.{asked}
use Rattle.loops.specs.LoopQuestion.{bytes_of_loops, reply_loop}
use Rattle.loops.proofs.LoopQuestionLaws.{given_reply as loop_reply}
use Rattle.bargewicker.specs.Questions.{looped, loop_with, reply}
use Rattle.bargewicker.specs.Numbers.{values}
use Rattle.bargewicker.specs.Promises.{Promised}
use Rattle.bargewicker.specs.Demands.{LoopsRight, Demand3, AskedLoop}
use Rattle.bargewicker.proofs.Unique.{unique}

module _ (b : List ℕ) (present : ℕ) (out : List ℕ) (asked_so : AskedLoop b present out) (r : LoopAnswer) (final : List ℕ) (h : Promised (loop_with b present out) r final) where
  -- the reply is the class's answer
  given_reply : (a : Loops) → loop_answer (class_of b) present ≡ a → reply (loop_with b present out) ≡ give (looped a) (bytes_of_loops a)
  unfolding reply
  given_reply a e =
      asked b (λ c. told_as looped (reply_loop c present out)) asked_so.accepted
      ∙ ap (told_as looped) (loop_reply (class_of b) present out asked_so.bits asked_so.names asked_so.room a (sym e))

  pub demand_3 : Demand3 (class_of b) present out final r
  unfolding values bytes_of_loops
  demand_3 = go (loop_answer (class_of b) present) refl (demanded (class_of b) (sound b asked_so.bytes asked_so.accepted) present)
    where
      go : (a : Loops) → loop_answer (class_of b) present ≡ a → Demanded (class_of b) present a → Demand3 (class_of b) present out final r
      go (free m) e D =
          let (f, g) = unique.sheets (loop_with b present out) r (Ok (Free m)) final out h (answered values (reply (loop_with b present out)) (give (looped (free m)) []) (given_reply (free m) e) out out refl) in
          record {
            free_exactly_if = ((λ _. D.free_exactly_if.0 refl), λ _. (m, f));
            right = subst (LoopsRight (class_of b) present out final) (sym f) (D.right, g);
          }
      go (loop k q ks) e D =
          let after : List ℕ = written (pairs ks) out in
          let (f, g) = unique.sheets (loop_with b present out) r (Ok (Loop k (record { 0 = q }))) final after h (answered values (reply (loop_with b present out)) (give (looped (loop k q ks)) (pairs ks)) (given_reply (loop k q ks) e) out after refl) in
          record {
            free_exactly_if = ((λ (m, z). absurd (clash (cc (sym f ∙ z)))), λ all. absurd (clash (cc (D.free_exactly_if.1 all))));
            right = subst (LoopsRight (class_of b) present out final) (sym f) (ks, D.right, g);
          }
