-- Demand 2 of the request for a command, of whatever meets its promise: both parts are right, and the second is what the when phase answers.
-- Assumes nothing.
use Prim.Native.Nat.{ℕ, ◌+◌, ◌*◌, ◌<◌, ◌≤◌}
use native.Mathlib.Omega.{arith}
use mathlib.Core.Path.{◌≡◌, refl, sym, ◌∙◌, ap, subst}
use mathlib.Core.List.{List}
use mathlib.Core.Logic.{◌⊎◌, inl, inr}
use mathlib.Core.Option.{Option, none, some}
use lib.ListN.{length, take, drop, length-drop}
use lib.Seq.{take-append_seam}
use Rattle.std.specs.Prelude.{Ok, Err}
use Rattle.model.specs.Words.{maybe}
use Rattle.model.specs.Tree.{Child, Part, Class}
use Rattle.model.specs.Running.{run_part}
use Rattle.model.specs.Node as Node
use Rattle.model.specs.Node.{state_of}
use Rattle.model.specs.Commands as Tree
use Rattle.model.specs.Commands.{handled, ignored, handled_by, clause_for, command, left_by, own_sends, Commanded, command_then_phase}
use Rattle.model.specs.Answers.{handled_values, PhaseAnswer, CommandAnswer}
use Rattle.model.specs.Replies.{written}
use Rattle.model.specs.declared.Refusal.{Refusal}
use Rattle.model.specs.declared.Refusal.TheVariants.{Room}
use Rattle.model.specs.declared.Handling.{Handling}
use Rattle.model.specs.declared.Handling.TheVariants.{Ignored, Handled}
use Rattle.model.specs.declared.Phase.{Phase}
use Rattle.model.proofs.Words.{clash, lt_or_le}
use Rattle.model.proofs.CommandLaws.{left_within}
use Rattle.sheet.specs.Reading.{class_of}
use Rattle.sheet.proofs.Sound.{sound}
use Rattle.children.specs.ChildList.{children_of, sent_bytes}
use Rattle.children.proofs.ChildListLaws.{three_each}
use Rattle.commands.specs.Handling.{bytes_of_handling, handling_values}
use Rattle.commands.specs.Commands.{left_in, own_in}
use Rattle.commands.proofs.HandlingLaws.{left_told, own_told, CommandedSo, no_room, both_fit, values_told, both_written, phase_told}
use Rattle.phases.specs.Phasing.{bytes_of_phase}
use Rattle.phases.proofs.PhasingLaws.{PhasedSo, short_so, given_so}
use Rattle.bargewicker.specs.Questions.{phase_from, command_in}
use Rattle.bargewicker.specs.Promises.{Promised}
use Rattle.bargewicker.specs.Demands.{Asked, PhaseRight, HandlingRight, behind, BothRight, NoRoom, CommandRight, SamePhase}
use Rattle.bargewicker.proofs.PromiseLaws.{phased_so, commanded_told}
use Rattle.bargewicker.proofs.Demand2.{fits, phase_right}
use Rattle.bargewicker.proofs.Unique.{unique}

-- a handling as the code has it
handling_of : Tree.Handling → Handling
handling_of (handled sent q) = Handled (record { 0 = q }) (length (sent_bytes sent))
handling_of (ignored q) = Ignored (record { 0 = q })

handling_is : (h : Tree.Handling) → handled_values (handling_of h) ≡ handling_values h
unfolding handling_of handling_values bytes_of_handling
handling_is (handled sent q) = refl
handling_is (ignored q) = refl

-- its own bytes are three for each command that it sends
own_three : (h : Tree.Handling) → length (bytes_of_handling h) ≡ 3 * length (own_sends h)
unfolding bytes_of_handling
own_three h = three_each (own_sends h)

-- whose values are the rules' is right
handling_right : (c : Class) (ks : List Child) (q m : ℕ) (x : Handling) → handled_values x ≡ handling_values (command c ks q m) → HandlingRight c ks q m x (own_sends (command c ks q m))
unfolding command handling_values bytes_of_handling
handling_right c ks q m x e = go (clause_for m (state_of c q).actions) refl x e
  where
    go : (o : Option Part) → clause_for m (state_of c q).actions ≡ o → (x : Handling)
        → handled_values x ≡ handling_values (maybe o (λ _. ignored q) (λ p. handled_by q (run_part p ks)))
        → HandlingRight c ks q m x (own_sends (maybe o (λ _. ignored q) (λ p. handled_by q (run_part p ks))))
    go none f (Ignored s) e = (f, cc, refl)
    go none f (Handled s n) e = absurd (clash (cc))
    go (some p) f (Ignored s) e = absurd (clash (cc))
    go (some p) f (Handled s n) e =
        let k : n ≡ length (sent_bytes (run_part p ks).sent) = cc in
        (p, f, record { state = cc; sent = refl; number = k ∙ three_each (run_part p ks).sent })

module _ (b l : List ℕ) (q : ℕ) (a : Asked b l q) (m : ℕ) (small : m ≤ 63) (out : List ℕ) where
  abbrev c : Class
  c = class_of b

  abbrev ks : List Child
  ks = children_of l

  -- the command, and the phase behind it
  abbrev first : Tree.Handling
  first = command c ks q m

  abbrev then : Node.Phase
  then = Node.phase c ks (left_by first)

  abbrev all : Commanded
  all = record { handling = first; phase = then }

  abbrev n : ℕ
  n = length (bytes_of_handling first)

  told : (r : CommandAnswer) (final : List ℕ) → Promised (command_in b l q m out) r final → CommandedSo all out final r
  unfolding command_then_phase
  told r final h = commanded_told b l q (fits b l q a) m out small r final h

  -- the phase is asked of an own state, and what is promised of it is what the rules give
  asked_left : Asked b l (left_by first)
  asked_left =
      record {
        bytes = a.bytes;
        accepted = a.accepted;
        list = a.list;
        state = left_within c ks q m ((sound b a.bytes a.accepted).bodies q) a.state;
      }

  phase_promised : (rest : List ℕ) (r : PhaseAnswer) (last : List ℕ) → PhasedSo then rest last r → Promised (phase_from b l (left_by first) rest) r last
  phase_promised rest r last h = phased_so b l (left_by first) (fits b l (left_by first) asked_left) rest r last h

  phase_is_right : (s : ℕ) → left_by first ≡ s → (rest : List ℕ) (r : PhaseAnswer) (last : List ℕ) → PhasedSo then rest last r → PhaseRight c ks s rest last r
  phase_is_right s e rest r last h =
      subst (λ (t : ℕ). PhaseRight c ks t rest last r) e (phase_right b l (left_by first) asked_left rest r last (phase_promised rest r last h))

  -- bytes behind the command's own
  cut_at : (x : List ℕ) → drop n x ≡ behind (own_sends first) x
  cut_at x = ap (λ (k : ℕ). drop k x) (own_three first)

  refused_right : (x : Refusal) (final : List ℕ) → Promised (command_in b l q m out) (Err x) final → CommandRight c ks q m out final (Err x)
  refused_right x final h =
      let (e, short, same) = no_room all out final x (told (Err x) final h) in
      let left : left_by first ≡ (left_in (handling_of first)).0 = sym (left_told first (handling_of first) (handling_is first)) in
      (e, same, handling_of first, own_sends first, handling_right c ks q m (handling_of first) (handling_is first), by left short same (lt_or_le (length out) (3 * length (own_sends first))))
    where
      by : left_by first ≡ (left_in (handling_of first)).0 → length out < n + length (bytes_of_phase then) → final ≡ out
          → (length out < 3 * length (own_sends first)) ⊎ (3 * length (own_sends first) ≤ length out) → NoRoom c ks out final (handling_of first) (own_sends first)
      by left short same (inl w) = inl w
      by left short same (inr w) =
          let k : length (drop n out) < length (bytes_of_phase then) = omega (arith, length-drop n out, own_three first) in
          inr (w, rw (same, ← cut_at out) (phase_is_right _ left (drop n out) (Err Room) (drop n out) (short_so then (drop n out) (drop n out) k refl)))

  module _ (x : Handling) (p : Phase) (final : List ℕ) (h : Promised (command_in b l q m out) (Ok (x, p)) final) where
    so : CommandedSo all out final (Ok (x, p))
    so = told (Ok (x, p)) final h

    left_is : (left_in x).0 ≡ left_by first
    left_is = left_told first x (values_told all out final x p so).0

    -- the command's own sends stand in front
    front : take (3 * length (own_sends first)) final ≡ sent_bytes (own_sends first)
    unfolding bytes_of_handling
    front =
        ap (λ (k : ℕ). take k final) (sym (own_three first)) ∙ ap (take n) (both_written all out final x p so)
        ∙ take-append_seam (sent_bytes (own_sends first)) (written (bytes_of_phase then) (drop n out))

    given_right : BothRight c ks q m out final x p
    given_right =
        record {
          own = own_sends first;
          handling = handling_right c ks q m x (values_told all out final x p so).0;
          room = omega (arith, both_fit all out final x p so, own_three first);
          front = front;
          phase =
              subst (λ (o : List ℕ). PhaseRight c ks (left_in x).0 o (behind (own_sends first) final) (Ok p)) (cut_at out)
              (subst (λ (f : List ℕ). PhaseRight c ks (left_in x).0 (drop n out) f (Ok p)) (cut_at final)
              (phase_is_right _ (sym left_is) (drop n out) (Ok p) (drop n final) (phase_told all out final x p so)));
        }

    pub same_phase : SamePhase b l x p out final
    same_phase =
        record {
          behind_it = λ r last P.
              let cut : own_in x ≡ n = own_told first x (values_told all out final x p so).0 in
              let Q : Promised (phase_from b l (left_by first) (drop n out)) r last = rw (left_is, cut) at P in
              let (e, f) = unique.sheets (phase_from b l (left_by first) (drop n out)) r (Ok p) last (drop n final) Q (phase_promised (drop n out) (Ok p) (drop n final) (phase_told all out final x p so)) in
              (e, f ∙ ap (λ (k : ℕ). drop k final) (sym cut));
          anywhere = λ rest r last P. by rest r last (rw left_is at P) (lt_or_le (length rest) (length (bytes_of_phase then)));
        }
      where
        by : (rest : List ℕ) (r : PhaseAnswer) (last : List ℕ) → Promised (phase_from b l (left_by first) rest) r last
            → (length rest < length (bytes_of_phase then)) ⊎ (length (bytes_of_phase then) ≤ length rest) → (r ≡ Ok p) ⊎ (r ≡ Err Room)
        by rest r last P (inl w) = inr (unique.sheets (phase_from b l (left_by first) rest) r (Err Room) last rest P (phase_promised rest (Err Room) rest (short_so then rest rest w refl))).0
        by rest r last P (inr w) =
            inl (unique.sheets (phase_from b l (left_by first) rest) r (Ok p) last (written (bytes_of_phase then) rest) P
            (phase_promised rest (Ok p) (written (bytes_of_phase then) rest) (given_so then rest (written (bytes_of_phase then) rest) p (values_told all out final x p so).1 w refl))).0

  pub command_right : (r : CommandAnswer) (final : List ℕ) → Promised (command_in b l q m out) r final → CommandRight c ks q m out final r
  command_right (Err x) final h = refused_right x final h
  command_right (Ok (x, p)) final h = given_right x p final h
