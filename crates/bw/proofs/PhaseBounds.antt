-- How many bytes a when phase writes, and a command with the phase behind it, for a sheet of bytes that is accepted, and that so much room is
-- enough.
-- Assumes nothing.
use Prim.Native.Nat.{ℕ, ◌<◌, ◌≤◌}
use native.Mathlib.Omega.{arith}
use native.Mathlib.Nat.{mul-le-mul_right}
use mathlib.Core.Path.{◌≡◌, refl}
use mathlib.Core.List.{List, ◌++◌}
use lib.Dec.{leb}
use lib.ListN.{length, length-append}
use borrow.Author.Tests.{le-leb}
use Rattle.model.specs.Tree.{Child, Class}
use Rattle.model.specs.Node.{own_states, Phase, settled, loops, phase, sent_of}
use Rattle.model.specs.Commands.{command, left_by, own_sends, command_then_phase, sent_in_all}
use Rattle.model.specs.Words.{Bytes}
use Rattle.model.proofs.PhaseSize.{phase_sends}
use Rattle.sheet.specs.Rules.{Accepted}
use Rattle.sheet.specs.Reading.{class_of}
use Rattle.sheet.proofs.Rules.{accepted_right}
use Rattle.sheet.proofs.Sizes.{class_few}
use Rattle.sheet.proofs.Sound.{sound}
use Rattle.children.specs.ChildList.{children_of, sent_bytes}
use Rattle.children.proofs.ChildListLaws.{three_each, children_most}
use Rattle.commands.specs.Handling.{bytes_of_handling, bytes_of_commanded, reply_commanded}
use Rattle.phases.specs.Phasing.{bytes_of_phase, reply_phase}
use Rattle.bargewicker.specs.Questions.{commanded, reply, reply_command}
use Rattle.bargewicker.proofs.AnswerBounds.{left_low, own_most}
use Rattle.bw.specs.Packed.{PhaseRoomEnough, CommandRoomEnough}
use Rattle.bw.proofs.Checks.{placed_by, told_case, Roomy, other_refusal, answered}

module _ (b : List ℕ) (h : Bytes b) (a : Accepted b) (ks : List Child) where
  abbrev c : Class
  c = class_of b

  -- three bytes for each of at most 1,024 statements and 4,096 children
  pub phase_small : (q : ℕ) → q < own_states c → length ks ≤ 4096 → length (bytes_of_phase (phase c ks q)) ≤ 12582912
  unfolding bytes_of_phase sent_bytes
  phase_small q low k = go (phase c ks q) refl
    where
      go : (p : Phase) → phase c ks q ≡ p → length (bytes_of_phase p) ≤ 12582912
      go (loops r m) e = omega arith
      go (settled x r m sent) e =
          omega (arith, three_each sent, phase_sends c ks (sound b h a) q low x r m sent e, mul-le-mul_right (length ks) (class_few b (accepted_right b a)))

  -- as many for the command, and for the phase behind it
  pub commanded_small : (q m : ℕ) → q < own_states c → length ks ≤ 4096 → length (bytes_of_commanded (command_then_phase c ks q m)) ≤ 25165824
  unfolding bytes_of_commanded bytes_of_handling bytes_of_phase sent_bytes sent_in_all command_then_phase
  commanded_small q m low k =
      let x = command c ks q m in
      let p = phase c ks (left_by x) in
      let own : length (sent_bytes (own_sends x)) ≤ 12582912 = own_most b h a ks q low m k in
      let behind : length (sent_bytes (sent_of p)) ≤ 12582912 = phase_small (left_by x) (left_low b h a ks q low m) k in
      omega (arith, three_each (own_sends x), three_each (sent_of p), three_each (own_sends x ++ sent_of p), length-append (own_sends x) (sent_of p))

pub phase_room_enough : PhaseRoomEnough
unfolding reply reply_phase
phase_room_enough b l q out h room =
    placed_by Roomy 14 (λ n low high. other_refusal n (λ e. omega arith)) b l q _ (omega arith) λ a right low.
    let small = phase_small b h a (children_of l) q low (children_most (class_of b) l right) in
    rw (le-leb (length (bytes_of_phase (phase (class_of b) (children_of l) q))) (length out) (omega arith)) answered

pub command_room_enough : CommandRoomEnough
unfolding reply reply_command reply_commanded
command_room_enough b l q m out h room =
    placed_by Roomy 14 (λ n low high. other_refusal n (λ e. omega arith)) b l q _ (omega arith) λ a right low.
    told_case Roomy commanded (leb m 63) 12 _ (other_refusal 12 (λ e. omega arith)) λ _.
    let small = commanded_small b h a (children_of l) q m low (children_most (class_of b) l right) in
    rw (le-leb (length (bytes_of_commanded (command_then_phase (class_of b) (children_of l) q m))) (length out) (omega arith)) answered
