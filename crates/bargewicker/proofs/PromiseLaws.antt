-- Laws about specs/Promises.antt: the promise of each question is met by a refusal, and by the answer that its reply gives.
-- Assumes nothing.
use Prim.Native.Nat.{ℕ, ◌<◌, ◌≤◌}
use mathlib.Core.Path.{◌≡◌, refl, ◌∙◌, ap}
use mathlib.Core.List.{List, [], ◌∷◌}
use Rattle.std.specs.Prelude.{Ok, Err}
use Rattle.model.specs.Tree.{Class}
use Rattle.model.specs.Node.{probe, phase}
use Rattle.model.specs.Refusals.{number_of}
use Rattle.model.specs.Values.{probed_values}
use Rattle.model.specs.Answers.{probed_as, phase_numbers, command_numbers, loop_numbers, write_numbers, Probed, PhaseAnswer, CommandAnswer, LoopAnswer, WriteAnswer}
use Rattle.model.specs.Replies.{Reply, refuse, give, told_as, Answered}
use Rattle.model.specs.Node as Node
use Rattle.model.specs.Commands.{Commanded, command_then_phase}
use Rattle.model.specs.declared.Refusal.{Refusal}
use Rattle.model.specs.declared.Refusal.TheVariants.{AskedCommand}
use Rattle.model.proofs.ReplyLaws.{answered, answered_by, answered_as, answered_back}
use Rattle.sheet.specs.Rules.{Accepted}
use Rattle.sheet.specs.Reading.{class_of}
use Rattle.sheet.proofs.AskedLaws.{asked}
use Rattle.children.specs.ChildList.{children_of}
use Rattle.commands.specs.Handling.{reply_commanded, commanded_values}
use Rattle.commands.proofs.HandlingLaws.{CommandedSo}
use Rattle.phases.specs.Phasing.{reply_phase, phasing_values}
use Rattle.phases.proofs.PhasingLaws.{PhasedSo}
use Rattle.loops.specs.LoopQuestion.{loops_values, reply_loop}
use Rattle.writings.specs.Layout.{Named}
use Rattle.writings.specs.Writings.{reply_text, text_values}
use Rattle.bargewicker.specs.Questions.{Question, judge, probe_in, phase_from, command_in, loop_with, text_of, Answer, accepted, probed, phased, commanded, looped, wrote, placed, reply_command, reply, lent}
use Rattle.bargewicker.specs.Numbers.{values}
use Rattle.bargewicker.specs.Promises.{refusing, numbers_of, Promised}
use Rattle.bargewicker.proofs.QuestionLaws.{command_over, command_taken}

-- the numbers of the answer that refuses
pub refusing_numbers : (q : Question) (x : Refusal) → numbers_of q (refusing q x) ≡ number_of x ∷ []
refusing_numbers (judge b) x = refl
refusing_numbers (probe_in b l q) x = refl
refusing_numbers (phase_from b l q out) x = refl
refusing_numbers (command_in b l q m out) x = refl
refusing_numbers (loop_with b present out) x = refl
refusing_numbers (text_of b n out) x = refl

-- a refusal, with the buffer as it was, is promised where the rules refuse
pub refused_so : (q : Question) (x : Refusal) → reply q ≡ refuse (number_of x) → (after : List ℕ) → after ≡ lent q → Promised q (refusing q x) after
refused_so q x e after g = answered_by values (reply q) (refuse (number_of x)) e (lent q) (numbers_of q (refusing q x)) after (refusing_numbers q x) g

-- the judge accepts an accepted sheet
pub accepted_so : (b : List ℕ) → Accepted b → Promised (judge b) (Ok tt) []
unfolding reply values
accepted_so b a = answered values (reply (judge b)) (give accepted []) (asked b (λ c. give accepted []) a) [] [] refl

-- the probe's and the when phase's answers, where the list and the state are right
module _ (b l : List ℕ) (q : ℕ) (fits : (rest : Class → Reply Answer) → placed b l q rest ≡ rest (class_of b)) where
  pub probed_so : (r : Probed) → probed_as r ≡ probe (class_of b) (children_of l) q → Promised (probe_in b l q) (Ok r) []
  unfolding reply values
  probed_so r e =
      answered_by values (reply (probe_in b l q)) (give (probed (probe (class_of b) (children_of l) q)) []) (fits (λ c. give (probed (probe c (children_of l) q)) [])) []
      (0 ∷ probed_values (probed_as r)) [] (ap (λ (p : Node.Probed). 0 ∷ probed_values p) e) refl

  placed_phase : (out : List ℕ) → reply (phase_from b l q out) ≡ told_as phased (reply_phase (phase (class_of b) (children_of l) q) out)
  unfolding reply
  placed_phase out = fits (λ c. told_as phased (reply_phase (phase c (children_of l) q) out))

  pub phased_so : (out : List ℕ) (r : PhaseAnswer) (after : List ℕ) → PhasedSo (phase (class_of b) (children_of l) q) out after r → Promised (phase_from b l q out) r after
  unfolding values
  phased_so out r after a =
      rw (placed_phase out) (answered_as phased phasing_values values (λ _. refl) (reply_phase (phase (class_of b) (children_of l) q) out) out (phase_numbers r) after a)

  -- the command, over 63, or handled and the phase behind it
  module _ (m : ℕ) (out : List ℕ) where
    placed_command : (r : Reply Commanded) → reply_command (class_of b) l q m out ≡ r → reply (command_in b l q m out) ≡ told_as commanded r
    unfolding reply
    placed_command r e = fits (λ c. told_as commanded (reply_command c l q m out)) ∙ ap (told_as commanded) e

    pub over_so : 63 < m → (after : List ℕ) → after ≡ out → Promised (command_in b l q m out) (Err AskedCommand) after
    over_so h after g = refused_so (command_in b l q m out) AskedCommand (placed_command (refuse 12) (command_over (class_of b) l q m out h)) after g

    pub commanded_so : m ≤ 63 → (r : CommandAnswer) (after : List ℕ) → CommandedSo (command_then_phase (class_of b) (children_of l) q m) out after r → Promised (command_in b l q m out) r after
    unfolding values
    commanded_so h r after a =
        rw (placed_command (reply_commanded (command_then_phase (class_of b) (children_of l) q m) out) (command_taken (class_of b) l q m out h))
        (answered_as commanded commanded_values values (λ _. refl) (reply_commanded (command_then_phase (class_of b) (children_of l) q m) out) out (command_numbers r) after a)

    pub commanded_told : m ≤ 63 → (r : CommandAnswer) (after : List ℕ) → Promised (command_in b l q m out) r after → CommandedSo (command_then_phase (class_of b) (children_of l) q m) out after r
    unfolding values
    commanded_told h r after a =
        let reply_is = placed_command (reply_commanded (command_then_phase (class_of b) (children_of l) q m) out) (command_taken (class_of b) l q m out h) in
        answered_back commanded commanded_values values (λ _. refl) (reply_commanded (command_then_phase (class_of b) (children_of l) q m) out) out (command_numbers r) after (rw reply_is at a)

-- the loop question's answer on the class of an accepted sheet
pub looped_so : (b : List ℕ) (present : ℕ) (out : List ℕ) → Accepted b → (r : LoopAnswer) (after : List ℕ)
    → Answered loops_values (reply_loop (class_of b) present out) out (loop_numbers r) after → Promised (loop_with b present out) r after
unfolding reply values
looped_so b present out a r after h =
    rw (asked b (λ c. told_as looped (reply_loop c present out)) a) (answered_as looped loops_values values (λ _. refl) (reply_loop (class_of b) present out) out (loop_numbers r) after h)

-- the answer to a text that is asked for, on the class of an accepted sheet
pub wrote_so : (b : List ℕ) (n : Named) (out : List ℕ) → Accepted b → (r : WriteAnswer) (after : List ℕ)
    → Answered text_values (reply_text n (class_of b) out) out (write_numbers r) after → Promised (text_of b n out) r after
unfolding reply values
wrote_so b n out a r after h =
    rw (asked b (λ c. told_as wrote (reply_text n c out)) a) (answered_as wrote text_values values (λ _. refl) (reply_text n (class_of b) out) out (write_numbers r) after h)
