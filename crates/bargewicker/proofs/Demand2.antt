-- Demand 2: the probe and the when phase, of whatever meets their promises.
-- Assumes nothing.
use Prim.Native.Nat.{ℕ, ◌*◌, ◌<◌, ◌≤◌}
use native.Mathlib.Omega.{arith}
use mathlib.Core.Path.{◌≡◌, refl, sym, ◌∙◌, ap, subst}
use mathlib.Core.List.{List, [], ◌∷◌}
use mathlib.Core.Logic.{◌⊎◌, inl, inr, ◌↔◌}
use mathlib.Core.Option.{some}
use lib.ListN.{length}
use borrow.Author.Tests.{lt-ltb}
use Rattle.std.specs.Prelude.{Ok, Err}
use Rattle.model.specs.Tree.{Child, Referrer, move_to, run, stay, Class}
use Rattle.model.specs.Running.{Sent}
use Rattle.model.specs.Node.{own_states, state_of, Probed, nothing, found, probe, Ending, by_none, by_stay, by_do, stops, turn_for, turn, next, sends, Phase, settled, loops, phase}
use Rattle.model.specs.Sound.{Sound, ReferrerRight}
use Rattle.model.specs.Values.{probed_values}
use Rattle.model.specs.Answers.{probed_as, ending_as, probe_numbers, ProbeAnswer, PhaseAnswer}
use Rattle.model.specs.Replies.{Reply, give, numbers, written}
use Rattle.model.specs.declared.OwnState.{OwnState}
use Rattle.model.specs.declared.Refusal.TheVariants.{Room}
use Rattle.model.specs.declared.Ending as Code
use Rattle.model.specs.declared.Ending.TheVariants.{ByNone, ByStay, ByDo}
use Rattle.model.specs.declared.Phase.TheVariants.{Settled, Loops as Looping}
use Rattle.model.proofs.Words.{clash, true_not_false, lt_or_le}
use Rattle.model.proofs.NodeLaws.{get_or_mem, probe_found, probe_nothing, led, next_by, stops_none, stops_stay, turn_runs, sent_by, sends_is, PhaseSettled, phase_settled, phase_loops, loops_never}
use Rattle.model.proofs.RefusalLaws.{not_zero}
use Rattle.model.proofs.AnswerLaws.{probed_told}
use Rattle.sheet.specs.Reading.{class_of}
use Rattle.sheet.proofs.Sound.{sound}
use Rattle.children.specs.ChildList.{children_of, sent_bytes}
use Rattle.children.proofs.ChildListLaws.{three_each}
use Rattle.phases.specs.Phasing.{bytes_of_phase, phasing_values}
use Rattle.phases.proofs.PhasingLaws.{PhasedSo, short_so as phase_short, given_so}
use Rattle.bargewicker.specs.Questions.{Answer, probed, probe_in, phase_from, placed, reply}
use Rattle.bargewicker.specs.Numbers.{values}
use Rattle.bargewicker.specs.Placing.{placed_refusal}
use Rattle.bargewicker.specs.Promises.{Promised}
use Rattle.bargewicker.specs.Demands.{Asked, no_clause, clause, First, NoneTrue, ProbedRight, ProbeRight, MoveMade, SendsRight, Settles, PhaseRight}
use Rattle.bargewicker.proofs.QuestionLaws.{is_placed}
use Rattle.bargewicker.proofs.PromiseLaws.{phased_so}
use Rattle.bargewicker.proofs.Unique.{unique}

-- an own state's number as the code has it
own : ℕ → OwnState
own n = record { 0 = n }

-- by what a phase settled, as the code has it
ending_of : Ending → Code.Ending
ending_of by_none = ByNone
ending_of by_stay = ByStay
ending_of (by_do m) = ByDo m

ending_told : (e : Ending) → ending_as (ending_of e) ≡ e
unfolding ending_of
ending_told by_none = refl
ending_told by_stay = refl
ending_told (by_do m) = refl

module _ (c : Class) (ks : List Child) where
  -- the probe finds a clause exactly if it is the first that is true
  first_found : (q i : ℕ) (x : Referrer) → probe c ks q ≡ found i x → First c ks q i x
  first_found q i x e =
      let H = probe_found c ks no_clause q i x e in
      record { listed = H.listed; referrer = H.referrer; true_here = H.true_here; false_before = H.false_before }

  none_found : (q : ℕ) → probe c ks q ≡ nothing → NoneTrue c ks q
  none_found q e = probe_nothing c ks no_clause q e

  found_first : (q i : ℕ) (x : Referrer) → First c ks q i x → probe c ks q ≡ found i x
  found_first q i x F = go (probe c ks q) refl
    where
      go : (p : Probed) → probe c ks q ≡ p → probe c ks q ≡ found i x
      go nothing e = absurd (true_not_false F.true_here (none_found q e i F.listed))
      go (found j y) e = at (first_found q j y e) (lt_or_le i j) (lt_or_le j i)
        where
          at : First c ks q j y → (i < j) ⊎ (j ≤ i) → (j < i) ⊎ (i ≤ j) → probe c ks q ≡ found i x
          at G (inl l) w = absurd (true_not_false F.true_here (G.false_before i l))
          at G (inr l) (inl k) = absurd (true_not_false G.true_here (F.false_before j k))
          at G (inr l) (inr k) =
              let z : j ≡ i = omega arith in
              let g : First c ks q i y = subst (λ (n : ℕ). First c ks q n y) z G in
              e ∙ ap (λ (n : ℕ). found n y) z ∙ ap (found i) (sym g.referrer ∙ F.referrer)

  -- a move is made exactly where the first true clause is a MOVE_TO, or a DO whose clause reaches a move_to
  pub moves_first : (q t : ℕ) → (next c ks q ≡ some t) ↔ MoveMade c ks q t
  moves_first q t = (λ e. go (probe c ks q) refl (sym (next_by c ks q) ∙ e), back)
    where
      go : (p : Probed) → probe c ks q ≡ p → led c ks q p ≡ some t → MoveMade c ks q t
      go nothing e f = absurd (clash (cc))
      go (found i (move_to u)) e f = let z : u ≡ t = cc in inl (i, first_found q i (move_to t) (e ∙ ap (λ (v : ℕ). found i (move_to v)) z))
      go (found i (run a)) e f = inr (i, a, first_found q i (run a) e, f)
      go (found i stay) e f = absurd (clash (cc))

      back : MoveMade c ks q t → next c ks q ≡ some t
      back (inl (i, F)) = next_by c ks q ∙ ap (led c ks q) (found_first q i (move_to t) F)
      back (inr (i, a, F, g)) = next_by c ks q ∙ ap (led c ks q) (found_first q i (run a) F) ∙ g

  -- what is sent is what the clause of a DO sends
  pub sends_first : (q : ℕ) → SendsRight c ks q
  sends_first q =
      record {
        by_a_do = λ i a F. sends_is c ks q ∙ ap (sent_by c ks q) (found_first q i (run a) F);
        else_nothing = λ never. sends_is c ks q ∙ silent never (probe c ks q) refl;
      }
    where
      silent : ((i a : ℕ) → First c ks q i (run a) → ⊥) → (p : Probed) → probe c ks q ≡ p → sent_by c ks q p ≡ []
      silent never nothing e = refl
      silent never (found i (move_to t)) e = refl
      silent never (found i (run a)) e = absurd (never i a (first_found q i (run a) e))
      silent never (found i stay) e = refl

  -- a turn that stops says why
  stops_so : Sound c → (s : ℕ) (e : Ending) (sent : List Sent) → turn c ks s ≡ stops e sent → Settles c ks s e
  unfolding turn
  stops_so sd s e sent h = go e (probe c ks s) refl h
    where
      go : (e : Ending) (p : Probed) → probe c ks s ≡ p → turn_for c ks s p ≡ stops e sent → Settles c ks s e
      go by_none p f g = none_found s (f ∙ stops_none c ks s p sent g)
      go by_stay p f g = let (i, z) = stops_stay c ks s p sent g in (i, first_found s i stay (f ∙ z))
      go (by_do m) p f g =
          let (i, a, z, named, stays) = turn_runs c ks s m p sent g in
          let F = first_found s i (run a) (f ∙ z) in
          let w = sd.referrers s (clause c s i) (get_or_mem (state_of c s).whens i no_clause F.listed) in
          (i, a, F, subst (ReferrerRight c s) F.referrer w, named, stays)

  -- what the probe gives is right
  probed_right : (q : ℕ) (p : Probed) → probe c ks q ≡ p → ProbedRight c ks q p
  probed_right q nothing e = none_found q e
  probed_right q (found i x) e = first_found q i x e

module _ (b l : List ℕ) (q : ℕ) (a : Asked b l q) where
  abbrev c : Class
  c = class_of b

  abbrev ks : List Child
  ks = children_of l

  not_refused : ◌≡◌ {A = ℕ} 0 (placed_refusal c l q)
  unfolding placed_refusal
  not_refused = rw (a.list, lt-ltb q (own_states c) a.state)

  pub fits : (rest : Class → Reply Answer) → placed b l q rest ≡ rest c
  fits rest = is_placed b a.accepted l q rest not_refused

  pub probe_right : (r : ProbeAnswer) (final : List ℕ) → Promised (probe_in b l q) r final → ProbeRight c ks q r
  unfolding reply values
  probe_right r final h = go r (h.numbers_are ∙ ap (numbers values) (fits (λ c. give (probed (probe c ks q)) [])))
    where
      go : (r : ProbeAnswer) → probe_numbers r ≡ 0 ∷ probed_values (probe c ks q) → ProbeRight c ks q r
      go (Err x) e = not_zero x (cc)
      go (Ok p) e = subst (ProbedRight c ks q) (sym (probed_told (probed_as p) (probe c ks q) (cc))) (probed_right c ks q (probe c ks q) refl)

  module _ (out : List ℕ) (r : PhaseAnswer) (final : List ℕ) (h : Promised (phase_from b l q out) r final) where
    -- the answer and the buffer are those that the rules give
    told_phase : (s : PhaseAnswer) (after : List ℕ) → PhasedSo (phase c ks q) out after s
        → (final ≡ after → PhaseRight c ks q out final s) → PhaseRight c ks q out final r
    told_phase s after g f =
        let (e, k) = unique.sheets (phase_from b l q out) r s final after h (phased_so b l q fits out s after g) in
        subst (PhaseRight c ks q out final) (sym e) (f k)

    pub phase_right : PhaseRight c ks q out final r
    unfolding own bytes_of_phase phasing_values sent_bytes
    phase_right = go (phase c ks q) refl
      where
        sd : Sound c
        sd = sound b a.bytes a.accepted

        go : (p : Phase) → phase c ks q ≡ p → PhaseRight c ks q out final r
        go (loops s m) e =
            let (u, t) = phase_loops c ks q s m e in
            told_phase (Ok (Looping (own s) m)) out (rw e (given_so (loops s m) out out (Looping (own s) m) refl (omega arith) refl))
            λ k. (loops_never c ks sd q a.state s m e, u, (rw u t), k)
        go (settled d s m sent) e = by (lt_or_le (length out) (3 * length sent))
          where
            S : PhaseSettled c ks q d s m sent
            S = phase_settled c ks q d s m sent e

            by : (length out < 3 * length sent) ⊎ (3 * length sent ≤ length out) → PhaseRight c ks q out final r
            by (inl short) =
                let n = three_each sent in
                told_phase (Err Room) out (rw e (phase_short (settled d s m sent) out out (let w : length out < length (sent_bytes sent) = omega arith in w) refl))
                λ k. (refl, s, m, S.there, (rw (← S.sent_all) short), k)
            by (inr room) =
                let n = three_each sent in
                told_phase (Ok (Settled (ending_of d) (own s) m (3 * length sent))) (written (sent_bytes sent) out)
                (rw e (given_so (settled d s m sent) out (written (sent_bytes sent) out) (Settled (ending_of d) (own s) m (3 * length sent)) (rw (ending_told d, n)) (let w : length (sent_bytes sent) ≤ length out = omega arith in w) refl))
                λ k. (S.there, (rw (ending_told d) (stops_so c ks sd s d (sends c ks s) S.by)), record { number = rw (← S.sent_all); room = room; buffer = rw (← S.sent_all) k })
