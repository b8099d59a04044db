-- Laws about specs/Node.antt: what the probe finds, and the when phase against the definitions that set no bound on the moves.
-- Assumes nothing.
use Prim.Native.Nat.{ℕ, zero, suc, ◌+◌, ◌<◌}
use native.Mathlib.Omega.{arith}
use mathlib.Core.Path.{◌≡◌, refl, sym, ◌∙◌, ap, subst}
use mathlib.Core.Bool.{Bool, true, false}
use mathlib.Core.List.{List, [], ◌∷◌, ◌++◌, append_assoc, Memᴰ}
use mathlib.Core.Option.{Option, none, some}
use lib.ListN.{length, get_or}
use Rattle.model.specs.Words.{choose, maybe}
use Rattle.model.specs.Tree.{Child, everyone, any_in, atom, Referrer, move_to, run, stay, When, Class, no_action}
use Rattle.model.specs.Guards.{holds}
use Rattle.model.specs.Moves.{after, EndsAt, Ends, Within}
use Rattle.model.specs.Node.{own_states, state_of, Probed, nothing, found, first_true, probe, Ending, by_none, by_stay, by_do, Turn, stops, moves, action_of, turn_by, turn_for, turn, moved, next, sent_in, sends, on_the_way, Phase, settled, loops, by_turn, walk, phase}
use Rattle.model.specs.Running.{Sent, Ran, run_part, goes}
use Rattle.model.specs.Sound.{ReferrerRight, Sound}
use Rattle.model.proofs.Words.{clash}
use Rattle.model.proofs.RunLaws.{part_moves}
use Rattle.model.proofs.Moves.{after_some, after_zero, ends_here, ends_later, ends_once, decided}

-- entry n of a list, where n is below its length, is in the list
pub get_or_mem {ℓ} : {A : Type ℓ} (xs : List A) (n : ℕ) (d : A) → n < length xs → Memᴰ (get_or xs n d) xs
get_or_mem [] n d l = absurd (omega arith)
get_or_mem (x ∷ xs) zero d l = Memᴰ.head refl
get_or_mem (x ∷ xs) (suc n) d l = Memᴰ.tail (get_or_mem xs n d (omega arith))

-- clause n of the list has the referrer r, its guard is true, and no guard before it is
pub record Hit (ks : List Child) (ws : List When) (d : When) (n : ℕ) (r : Referrer) : Type 0 where
  pub listed : n < length ws
  pub referrer : (get_or ws n d).referrer ≡ r
  pub true_here : holds (get_or ws n d).guard ks ≡ true
  pub false_before : (m : ℕ) → m < n → holds (get_or ws m d).guard ks ≡ false

module _ (ks : List Child) (d : When) where
  -- the first true clause, numbered from i
  first_true_found : (i : ℕ) (ws : List When) (j : ℕ) (r : Referrer) → first_true ks i ws ≡ found j r → (n : ℕ) × (j ≡ i + n) × Hit ks ws d n r
  unfolding first_true
  first_true_found i [] j r e = absurd (clash (cc))
  first_true_found i (w ∷ ws) j r e = go (holds w.guard ks) refl e (first_true_found (i + 1) ws j r)
    where
      sooner : (n : ℕ) → holds w.guard ks ≡ false → ((m : ℕ) → m < n → holds (get_or ws m d).guard ks ≡ false)
          → (m : ℕ) → m < suc n → holds (get_or (w ∷ ws) m d).guard ks ≡ false
      sooner n p h zero l = p
      sooner n p h (suc m) l = h m (omega arith)

      go : (b : Bool) → holds w.guard ks ≡ b → choose b (λ _. found i w.referrer) (λ _. first_true ks (i + 1) ws) ≡ found j r
          → (first_true ks (i + 1) ws ≡ found j r → (n : ℕ) × (j ≡ i + 1 + n) × Hit ks ws d n r) → (n : ℕ) × (j ≡ i + n) × Hit ks (w ∷ ws) d n r
      go true p f h =
          let a : i ≡ j = cc in
          (0, (omega arith), record { listed = omega arith; referrer = cc; true_here = p; false_before = λ m l. absurd (omega arith) })
      go false p f h =
          let (n, a, H) = h f in (
            suc n,
            (omega arith),
            record {
              listed = (let l = H.listed in omega arith);
              referrer = H.referrer;
              true_here = H.true_here;
              false_before = sooner n p H.false_before;
            },
          )

  first_true_nothing : (i : ℕ) (ws : List When) → first_true ks i ws ≡ nothing → (m : ℕ) → m < length ws → holds (get_or ws m d).guard ks ≡ false
  unfolding first_true
  first_true_nothing i [] e m l = absurd (omega arith)
  first_true_nothing i (w ∷ ws) e m l = go (holds w.guard ks) refl e (first_true_nothing (i + 1) ws) m l
    where
      go : (b : Bool) → holds w.guard ks ≡ b → choose b (λ _. found i w.referrer) (λ _. first_true ks (i + 1) ws) ≡ nothing
          → (first_true ks (i + 1) ws ≡ nothing → (m : ℕ) → m < length ws → holds (get_or ws m d).guard ks ≡ false)
          → (m : ℕ) → m < suc (length ws) → holds (get_or (w ∷ ws) m d).guard ks ≡ false
      go true p f h m l = absurd (clash (cc))
      go false p f h zero l = p
      go false p f h (suc m) l = h f m (omega arith)

-- where a probe of state q leads: to the target of a MOVE_TO, or where the clause of a DO goes
abbrev pub led : Class → List Child → ℕ → Probed → Option ℕ
led c ks q nothing = none
led c ks q (found i (move_to t)) = some t
led c ks q (found i (run a)) = goes (action_of c q a).body ks
led c ks q (found i stay) = none

-- a DO that was run moves where its clause went, and sends what its clause sent
turn_moved : (m : ℕ) (r : Ran) → moved (turn_by m r) ≡ r.moved
turn_moved m r = go r.moved
  where
    go : (o : Option ℕ) → moved (maybe o (λ _. stops (by_do m) r.sent) (λ t. moves t r.sent)) ≡ o
    go none = refl
    go (some t) = refl

turn_sent : (m : ℕ) (r : Ran) → sent_in (turn_by m r) ≡ r.sent
turn_sent m r = go r.moved
  where
    go : (o : Option ℕ) → sent_in (maybe o (λ _. stops (by_do m) r.sent) (λ t. moves t r.sent)) ≡ r.sent
    go none = refl
    go (some t) = refl

turn_led : (c : Class) (ks : List Child) (q : ℕ) (p : Probed) → moved (turn_for c ks q p) ≡ led c ks q p
unfolding turn_for goes
turn_led c ks q nothing = refl
turn_led c ks q (found i (move_to t)) = refl
turn_led c ks q (found i (run a)) = turn_moved (action_of c q a).command (run_part (action_of c q a).body ks)
turn_led c ks q (found i stay) = refl

-- with n moves left, m made and these commands sent, the phase from q ends in r when k are made, by e, and has sent xs
pub record Ended (c : Class) (ks : List Child) (n q m : ℕ) (sent : List Sent) (e : Ending) (r k : ℕ) (xs : List Sent) : Type 0 where
  pub j : ℕ
  pub few : j < n
  pub made : k ≡ m + j
  pub there : EndsAt (next c ks) q j r
  pub by : turn c ks r ≡ stops e (sends c ks r)
  pub sent_all : xs ≡ sent ++ on_the_way c ks j q

module _ (c : Class) (ks : List Child) where
  -- the probe finds the first clause of the state whose guard is true (d stands past the end of the list)
  pub probe_found : (d : When) (q i : ℕ) (r : Referrer) → probe c ks q ≡ found i r → Hit ks (state_of c q).whens d i r
  unfolding probe
  probe_found d q i r e =
      let (n, a, H) = first_true_found ks d 0 (state_of c q).whens i r e in
      let z : n ≡ i = omega arith in
      subst (λ n. Hit ks (state_of c q).whens d n r) z H

  -- it finds nothing where no guard of the state is true
  pub probe_nothing : (d : When) (q : ℕ) → probe c ks q ≡ nothing
      → (m : ℕ) → m < length (state_of c q).whens → holds (get_or (state_of c q).whens m d).guard ks ≡ false
  unfolding probe
  probe_nothing d q e = first_true_nothing ks d 0 (state_of c q).whens e

  -- a turn that stops makes no move
  pub stops_next : (q : ℕ) (e : Ending) (sent : List Sent) → turn c ks q ≡ stops e sent → next c ks q ≡ none
  unfolding next
  stops_next q e sent h = ap moved h

  -- a turn that moves makes that move
  pub moves_next : (q t : ℕ) (sent : List Sent) → turn c ks q ≡ moves t sent → next c ks q ≡ some t
  unfolding next
  moves_next q t sent h = ap moved h

  -- only a turn that moves makes a move
  pub next_moves : (q t : ℕ) → next c ks q ≡ some t → (sent : List Sent) × (turn c ks q ≡ moves t sent)
  unfolding next
  next_moves q t h = go (turn c ks q) refl h
    where
      go : (x : Turn) → turn c ks q ≡ x → moved x ≡ some t → (sent : List Sent) × (turn c ks q ≡ moves t sent)
      go (stops e sent) p g = absurd (clash (cc))
      go (moves u sent) p g = let z : u ≡ t = cc in (sent, p ∙ ap (λ (v : ℕ). moves v sent) z)

  -- the next move is where the probe leads
  pub next_by : (q : ℕ) → next c ks q ≡ led c ks q (probe c ks q)
  unfolding next turn
  next_by q = turn_led c ks q (probe c ks q)

  -- every move leads to an own state: the target of a clause, or that of a move_to of an action clause
  led_within : Sound c → (q t : ℕ) (p : Probed) → probe c ks q ≡ p → led c ks q p ≡ some t → t < own_states c
  unfolding goes
  led_within s q t nothing h e = absurd (clash (cc))
  led_within s q t (found i stay) h e = absurd (clash (cc))
  led_within s q t (found i (move_to u)) h e =
      let z : u ≡ t = cc in
      let d : When = record { guard = atom any_in everyone 0; referrer = stay } in
      let H = probe_found d q i (move_to u) h in
      let l : u < own_states c = subst (ReferrerRight c q) H.referrer (s.referrers q (get_or (state_of c q).whens i d) (get_or_mem (state_of c q).whens i d H.listed)) in
      rw (← z) l
  led_within s q t (found i (run a)) h e =
      let d : When = record { guard = atom any_in everyone 0; referrer = stay } in
      let H = probe_found d q i (run a) h in
      let l : a < length (state_of c q).actions = subst (ReferrerRight c q) H.referrer (s.referrers q (get_or (state_of c q).whens i d) (get_or_mem (state_of c q).whens i d H.listed)) in
      part_moves (action_of c q a).body ks (own_states c) (s.bodies q (action_of c q a) (get_or_mem (state_of c q).actions a no_action l)) t e

  pub next_within : Sound c → Within (next c ks) (own_states c)
  next_within s q t e = led_within s q t (probe c ks q) refl (sym (next_by q) ∙ e)

  -- what a turn sends
  sends_by : (q : ℕ) (t : Turn) → turn c ks q ≡ t → sends c ks q ≡ sent_in t
  unfolding sends
  sends_by q t h = ap sent_in h

  -- what is sent on the way, a move more
  way_here : (q : ℕ) (t : Turn) → turn c ks q ≡ t → on_the_way c ks 0 q ≡ sent_in t
  unfolding on_the_way sends
  way_here q t h = ap sent_in h

  way_on : (q t n : ℕ) (sent : List Sent) → turn c ks q ≡ moves t sent → on_the_way c ks (suc n) q ≡ sent ++ on_the_way c ks n t
  unfolding on_the_way sends
  way_on q t n sent h = rw (moves_next q t sent h, h)

  -- a walk that settles has ended within its moves, in a state where the turn stops
  walk_settled : (n q m : ℕ) (sent : List Sent) (e : Ending) (r k : ℕ) (xs : List Sent) → walk c ks n q m sent ≡ settled e r k xs → Ended c ks n q m sent e r k xs
  unfolding walk
  walk_settled zero q m sent e r k xs h = absurd (clash (cc))
  walk_settled (suc n) q m sent e r k xs h = go (turn c ks q) refl h (λ t x. walk_settled n t (m + 1) (sent ++ x) e r k xs)
    where
      go : (t : Turn) → turn c ks q ≡ t → by_turn t (λ e x. settled e q m (sent ++ x)) (λ t x. walk c ks n t (m + 1) (sent ++ x)) ≡ settled e r k xs
          → ((t : ℕ) (x : List Sent) → walk c ks n t (m + 1) (sent ++ x) ≡ settled e r k xs → Ended c ks n t (m + 1) (sent ++ x) e r k xs) → Ended c ks (suc n) q m sent e r k xs
      go (stops f x) p g rest =
          let a : q ≡ r = cc in
          let b : m ≡ k = cc in
          let z : f ≡ e = cc in
          let y : sent ++ x ≡ xs = cc in
          let w : sends c ks q ≡ x = sends_by q (stops f x) p in
          record {
            j = 0;
            few = omega arith;
            made = omega arith;
            there = rw (← a) (ends_here (next c ks) q (stops_next q f x p));
            by = rw (← a, ← z, w) p;
            sent_all = sym y ∙ ap (λ (l : List Sent). sent ++ l) (sym (way_here q (stops f x) p));
          }
      go (moves t x) p g rest =
          let E = rest t x g in
          let l = E.few in
          let b = E.made in
          record {
            j = suc E.j;
            few = omega arith;
            made = omega arith;
            there = ends_later (next c ks) q t E.j r (moves_next q t x p) E.there;
            by = E.by;
            sent_all = E.sent_all ∙ append_assoc sent x (on_the_way c ks E.j t) ∙ ap (λ (l : List Sent). sent ++ l) (sym (way_on q t E.j x p));
          }

  -- a walk that loops has made all its moves
  walk_loops : (n q m : ℕ) (sent : List Sent) (r k : ℕ) → walk c ks n q m sent ≡ loops r k → (k ≡ m + n) × (after (next c ks) n q ≡ some r)
  unfolding walk
  walk_loops zero q m sent r k h = let a : q ≡ r = cc in let b : m ≡ k = cc in ((omega arith), after_zero (next c ks) q ∙ ap some a)
  walk_loops (suc n) q m sent r k h = go (turn c ks q) refl h (λ t x. walk_loops n t (m + 1) (sent ++ x) r k)
    where
      go : (t : Turn) → turn c ks q ≡ t → by_turn t (λ e x. settled e q m (sent ++ x)) (λ t x. walk c ks n t (m + 1) (sent ++ x)) ≡ loops r k
          → ((t : ℕ) (x : List Sent) → walk c ks n t (m + 1) (sent ++ x) ≡ loops r k → (k ≡ m + 1 + n) × (after (next c ks) n t ≡ some r))
          → (k ≡ m + suc n) × (after (next c ks) (suc n) q ≡ some r)
      go (stops f x) p g rest = absurd (clash (cc))
      go (moves t x) p g rest = let (a, b) = rest t x g in ((omega arith), after_some (next c ks) n q t (moves_next q t x p) ∙ b)

  -- a settled phase ends after the moves and in the state that it names, in fewer than S moves, by what it names, and sent what is sent on the
  -- way
  pub record PhaseSettled (q : ℕ) (e : Ending) (r m : ℕ) (sent : List Sent) : Type 0 where
    pub fewer : m < own_states c
    pub there : EndsAt (next c ks) q m r
    pub by : turn c ks r ≡ stops e (sends c ks r)
    pub sent_all : sent ≡ on_the_way c ks m q

  pub phase_settled : (q : ℕ) (e : Ending) (r m : ℕ) (sent : List Sent) → phase c ks q ≡ settled e r m sent → PhaseSettled q e r m sent
  unfolding phase
  phase_settled q e r m sent h =
      let E = walk_settled (own_states c) q 0 [] e r m sent h in
      let l = E.few in
      let a = E.made in
      let z : E.j ≡ m = omega arith in
      record {
        fewer = omega arith;
        there = subst (λ n. EndsAt (next c ks) q n r) z E.there;
        by = E.by;
        sent_all = E.sent_all ∙ ap (λ (n : ℕ). on_the_way c ks n q) z;
      }

  -- a looping phase has made S moves
  pub phase_loops : (q r m : ℕ) → phase c ks q ≡ loops r m → (m ≡ own_states c) × (after (next c ks) (own_states c) q ≡ some r)
  unfolding phase
  phase_loops q r m h = let (a, b) = walk_loops (own_states c) q 0 [] r m h in ((omega arith), b)

  module _ (s : Sound c) (q : ℕ) (low : q < own_states c) where
    -- a looping phase never ends
    pub loops_never : (r m : ℕ) → phase c ks q ≡ loops r m → Ends (next c ks) q → ⊥
    loops_never r m h = (decided (next c ks) (own_states c) (next_within s) q low).never_ends r (phase_loops q r m h).1

    -- a phase that ends is settled, after as many moves and in the same state
    pub ends_settled : (n r : ℕ) → EndsAt (next c ks) q n r → (e : Ending) × (sent : List Sent) × (phase c ks q ≡ settled e r n sent)
    ends_settled n r E = go (phase c ks q) refl
      where
        go : (p : Phase) → phase c ks q ≡ p → (e : Ending) × (sent : List Sent) × (phase c ks q ≡ settled e r n sent)
        go (loops t m) h = absurd (loops_never t m h (n, r, E))
        go (settled e t m sent) h =
            let (a, b) = ends_once (next c ks) q m t n r (phase_settled q e t m sent h).there E in
            (e, sent, h ∙ cc)

    -- a phase that never ends is answered by loop, S moves and the state after them
    pub never_loops : (Ends (next c ks) q → ⊥) → (r : ℕ) × (phase c ks q ≡ loops r (own_states c)) × (after (next c ks) (own_states c) q ≡ some r)
    never_loops never = go (phase c ks q) refl
      where
        go : (p : Phase) → phase c ks q ≡ p → (r : ℕ) × (phase c ks q ≡ loops r (own_states c)) × (after (next c ks) (own_states c) q ≡ some r)
        go (loops r m) h = let (a, b) = phase_loops q r m h in (r, h ∙ ap (loops r) a, b)
        go (settled e r m sent) h = absurd (never (m, r, (phase_settled q e r m sent h).there))

-- a turn that stops by none is by no clause, one that stops by STAY by a STAY: a DO that stops, stops by DO
not_by_do : (m : ℕ) (r : Ran) (e : Ending) (sent : List Sent) → turn_by m r ≡ stops e sent → e ≡ by_do m
not_by_do m r e sent = go r.moved
  where
    go : (o : Option ℕ) → maybe o (λ _. stops (by_do m) r.sent) (λ t. moves t r.sent) ≡ stops e sent → e ≡ by_do m
    go none h = cc
    go (some t) h = absurd (clash (cc))

pub stops_none : (c : Class) (ks : List Child) (q : ℕ) (p : Probed) (sent : List Sent) → turn_for c ks q p ≡ stops by_none sent → p ≡ nothing
unfolding turn_for
stops_none c ks q nothing sent e = refl
stops_none c ks q (found i (move_to t)) sent e = absurd (clash (cc))
stops_none c ks q (found i (run a)) sent e = let z = not_by_do (action_of c q a).command (run_part (action_of c q a).body ks) by_none sent e in absurd (clash (cc))
stops_none c ks q (found i stay) sent e = absurd (clash (cc))

pub stops_stay : (c : Class) (ks : List Child) (q : ℕ) (p : Probed) (sent : List Sent) → turn_for c ks q p ≡ stops by_stay sent → (i : ℕ) × (p ≡ found i stay)
unfolding turn_for
stops_stay c ks q nothing sent e = absurd (clash (cc))
stops_stay c ks q (found i (move_to t)) sent e = absurd (clash (cc))
stops_stay c ks q (found i (run a)) sent e = let z = not_by_do (action_of c q a).command (run_part (action_of c q a).body ks) by_stay sent e in absurd (clash (cc))
stops_stay c ks q (found i stay) sent e = (i, refl)

-- a turn that stops on a DO is by a clause that runs an action, whose command it names and which goes nowhere
pub turn_runs : (c : Class) (ks : List Child) (q m : ℕ) (p : Probed) (sent : List Sent) → turn_for c ks q p ≡ stops (by_do m) sent
    → (i : ℕ) × (a : ℕ) × (p ≡ found i (run a)) × ((action_of c q a).command ≡ m) × (goes (action_of c q a).body ks ≡ none)
unfolding turn_for goes
turn_runs c ks q m nothing sent e = absurd (clash (cc))
turn_runs c ks q m (found i (move_to t)) sent e = absurd (clash (cc))
turn_runs c ks q m (found i (run a)) sent e = let (x, y) = go (run_part (action_of c q a).body ks).moved refl e in (i, a, refl, x, y)
  where
    go : (o : Option ℕ) → (run_part (action_of c q a).body ks).moved ≡ o
        → maybe o (λ _. stops (by_do (action_of c q a).command) (run_part (action_of c q a).body ks).sent) (λ t. moves t (run_part (action_of c q a).body ks).sent) ≡ stops (by_do m) sent
        → ((action_of c q a).command ≡ m) × ((run_part (action_of c q a).body ks).moved ≡ none)
    go none f g = (cc, f)
    go (some t) f g = absurd (clash (cc))
turn_runs c ks q m (found i stay) sent e = absurd (clash (cc))

-- what a turn sends, by its probe: a DO what its clause sends, anything else nothing
abbrev pub sent_by : Class → List Child → ℕ → Probed → List Sent
sent_by c ks q nothing = []
sent_by c ks q (found i (move_to t)) = []
sent_by c ks q (found i (run a)) = (run_part (action_of c q a).body ks).sent
sent_by c ks q (found i stay) = []

pub sends_probed : (c : Class) (ks : List Child) (q : ℕ) (p : Probed) → sent_in (turn_for c ks q p) ≡ sent_by c ks q p
unfolding turn_for
sends_probed c ks q nothing = refl
sends_probed c ks q (found i (move_to t)) = refl
sends_probed c ks q (found i (run a)) = turn_sent (action_of c q a).command (run_part (action_of c q a).body ks)
sends_probed c ks q (found i stay) = refl

pub sends_is : (c : Class) (ks : List Child) (q : ℕ) → sends c ks q ≡ sent_by c ks q (probe c ks q)
unfolding sends turn
sends_is c ks q = sends_probed c ks q (probe c ks q)
