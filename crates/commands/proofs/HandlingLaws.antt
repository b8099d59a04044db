-- Laws about specs/Handling.antt: what a handling's values tell, and what is answered of a command with the when phase behind it where there is
-- room, and where there is none.
-- Assumes nothing.
use Prim.Native.Nat.{ℕ, ◌+◌, ◌<◌, ◌≤◌}
use native.Mathlib.Omega.{arith}
use mathlib.Core.Path.{◌≡◌, refl, sym, ◌∙◌, ap, ap₂}
use mathlib.Core.List.{List, [], ◌∷◌, ◌++◌}
use lib.ListN.{length, drop, length-append, length-drop}
use lib.Seq.{drop-append_seam}
use Rattle.std.specs.Prelude.{Ok, Err}
use Rattle.model.specs.Node.{sent_of}
use Rattle.model.specs.Commands as Tree
use Rattle.model.specs.Commands.{own_sends, left_by, Commanded, sent_in_all}
use Rattle.model.specs.Refusals.{number_of}
use Rattle.model.specs.Answers.{handled_values, phased_values, command_numbers, CommandAnswer}
use Rattle.model.specs.Replies.{written, Answered}
use Rattle.model.specs.declared.Refusal.{Refusal}
use Rattle.model.specs.declared.Refusal.TheVariants.{Room}
use Rattle.model.specs.declared.Handling.{Handling}
use Rattle.model.specs.declared.Handling.TheVariants.{Ignored, Handled}
use Rattle.model.specs.declared.Phase.{Phase}
use Rattle.model.proofs.Words.{clash}
use Rattle.model.proofs.RefusalLaws.{same_number, not_zero}
use Rattle.model.proofs.ReplyLaws.{answered_short, answered_room, room_refused, room_given, written_behind}
use Rattle.children.specs.ChildList.{sent_bytes}
use Rattle.running.proofs.SendLaws.{bytes_append}
use Rattle.phases.specs.Phasing.{bytes_of_phase, phasing_values}
use Rattle.phases.proofs.PhasingLaws.{PhasedSo, given_so, refused_so, phase_so}
use Rattle.commands.specs.Handling.{bytes_of_handling, handling_values, bytes_of_commanded, reply_commanded, commanded_values}
use Rattle.commands.specs.Commands.{left_in, own_in}

-- what the handling is whose values are those of an answer
module _ (h : Tree.Handling) (r : Handling) (e : handled_values r ≡ handling_values h) where
  pub left_told : (left_in r).0 ≡ left_by h
  unfolding handling_values
  left_told = go h r e
    where
      go : (h : Tree.Handling) (r : Handling) → handled_values r ≡ handling_values h → (left_in r).0 ≡ left_by h
      go (Tree.ignored q) (Ignored s) e = cc
      go (Tree.ignored q) (Handled s n) e = absurd (clash (cc))
      go (Tree.handled sent q) (Ignored s) e = absurd (clash (cc))
      go (Tree.handled sent q) (Handled s n) e = cc

  pub own_told : own_in r ≡ length (bytes_of_handling h)
  unfolding handling_values bytes_of_handling sent_bytes
  own_told = go h r e
    where
      go : (h : Tree.Handling) (r : Handling) → handled_values r ≡ handling_values h → own_in r ≡ length (bytes_of_handling h)
      go (Tree.ignored q) (Ignored s) e = refl
      go (Tree.ignored q) (Handled s n) e = absurd (clash (cc))
      go (Tree.handled sent q) (Ignored s) e = absurd (clash (cc))
      go (Tree.handled sent q) (Handled s n) e = cc

-- every handling has three values, so they and what stands behind them are told apart
values_apart : (h : Tree.Handling) (r : Handling) (xs ys : List ℕ) → handled_values r ++ xs ≡ handling_values h ++ ys → (handled_values r ≡ handling_values h) × (xs ≡ ys)
unfolding handling_values
values_apart (Tree.ignored q) (Ignored s) xs ys e = (cc, cc)
values_apart (Tree.ignored q) (Handled s n) xs ys e = absurd (clash (cc))
values_apart (Tree.handled sent q) (Ignored s) xs ys e = absurd (clash (cc))
values_apart (Tree.handled sent q) (Handled s n) xs ys e = (cc, cc)

-- an answer, and the buffer afterwards, are those of a command with the phase behind it
abbrev pub CommandedSo : Commanded → List ℕ → List ℕ → CommandAnswer → Type 0
CommandedSo r out after a = Answered commanded_values (reply_commanded r out) out (command_numbers a) after

module _ (r : Commanded) where
  -- the command's own bytes, and the phase's
  abbrev own : List ℕ
  own = bytes_of_handling r.handling

  abbrev behind : List ℕ
  behind = bytes_of_phase r.phase

  pub both_bytes : bytes_of_commanded r ≡ own ++ behind
  unfolding bytes_of_commanded sent_in_all bytes_of_handling bytes_of_phase
  both_bytes = bytes_append (own_sends r.handling) (sent_of r.phase)

  pub both_long : length (bytes_of_commanded r) ≡ length own + length behind
  both_long = ap length both_bytes ∙ length-append own behind

  module _ (out after : List ℕ) where
    -- 15: both together need more than the buffer holds
    pub short_so : length out < length own + length behind → after ≡ out → CommandedSo r out after (Err Room)
    unfolding reply_commanded
    short_so l same = answered_short commanded_values r (bytes_of_commanded r) out after (omega (arith, both_long)) same

    -- with room both are given and written, the phase's bytes behind the command's own
    pub both_so : (h : Handling) (p : Phase) → handled_values h ≡ handling_values r.handling → phased_values p ≡ phasing_values r.phase → length own + length behind ≤ length out
        → after ≡ own ++ written behind (drop (length own) out) → CommandedSo r out after (Ok (h, p))
    unfolding reply_commanded commanded_values
    both_so h p e f l w =
        answered_room commanded_values r (bytes_of_commanded r) out (command_numbers (Ok (h, p))) after (omega (arith, both_long))
        (ap₂ (λ (x y : List ℕ). 0 ∷ (x ++ y)) e f) (w ∙ sym (ap (λ (l : List ℕ). written l out) both_bytes ∙ written_behind own behind out))

    -- what an answer tells: refused, there was no room for both, and nothing was written
    pub no_room : (x : Refusal) → CommandedSo r out after (Err x) → (x ≡ Room) × (length out < length own + length behind) × (after ≡ out)
    unfolding reply_commanded
    no_room x h =
        let (e, l, same) = room_refused commanded_values r (bytes_of_commanded r) out (number_of x ∷ []) after h (number_of x) (not_zero x) refl in
        (same_number x Room e, omega (arith, both_long), same)

    -- given, both parts have their values, there was room for both, and this was written
    module _ (h : Handling) (p : Phase) (given : CommandedSo r out after (Ok (h, p))) where
      tells : (length (bytes_of_commanded r) ≤ length out) × (handled_values h ++ phased_values p ≡ commanded_values r) × (after ≡ written (bytes_of_commanded r) out)
      unfolding reply_commanded
      tells = room_given commanded_values r (bytes_of_commanded r) out (command_numbers (Ok (h, p))) after given (handled_values h ++ phased_values p) refl

      pub both_fit : length own + length behind ≤ length out
      both_fit = omega (arith, both_long, tells.0)

      pub values_told : (handled_values h ≡ handling_values r.handling) × (phased_values p ≡ phasing_values r.phase)
      unfolding commanded_values
      values_told = values_apart r.handling h (phased_values p) (phasing_values r.phase) tells.1

      pub both_written : after ≡ own ++ written behind (drop (length own) out)
      both_written = tells.2 ∙ ap (λ (l : List ℕ). written l out) both_bytes ∙ written_behind own behind out

      -- so the phase is answered on the buffer behind the command's own bytes
      pub phase_told : PhasedSo r.phase (drop (length own) out) (drop (length own) after) (Ok p)
      phase_told =
          given_so r.phase (drop (length own) out) (drop (length own) after) p values_told.1 (omega (arith, both_fit, length-drop (length own) out))
          (ap (drop (length own)) both_written ∙ drop-append_seam own (written behind (drop (length own) out)))

  -- by what the phase answers on the buffer behind the command's own bytes
  module _ (out rest last : List ℕ) (fits : length own ≤ length out) (is_rest : rest ≡ drop (length own) out) where
    room_behind : length rest + length own ≡ length out
    room_behind = omega (arith, ap length is_rest, length-drop (length own) out)

    pub refused_behind : (x : Refusal) (after : List ℕ) → PhasedSo r.phase rest last (Err x) → after ≡ out → CommandedSo r out after (Err x)
    refused_behind x after p same =
        let (e, l, k) = refused_so r.phase rest last x p in
        rw e (short_so out after (omega (arith, room_behind)) same)

    pub given_behind : (h : Handling) (p : Phase) (after : List ℕ) → handled_values h ≡ handling_values r.handling → PhasedSo r.phase rest last (Ok p) → after ≡ own ++ last
        → CommandedSo r out after (Ok (h, p))
    given_behind h p after e g w =
        let (l, f, k) = phase_so r.phase rest last p g in
        both_so out after h p e f (omega (arith, room_behind)) (w ∙ ap (λ (l : List ℕ). own ++ l) (k ∙ ap (written behind) is_rest))
