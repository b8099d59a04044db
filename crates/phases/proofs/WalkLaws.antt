-- Laws about the walk of a phase: what is known before each turn, and that what was written is what was sent, if the phase ends.
-- Assumes nothing.
use Prim.Native.Nat.{ℕ, zero, suc, ◌+◌, ◌-◌, ◌*◌, ◌<◌, ◌≤◌}
use native.Mathlib.Omega.{arith}
use native.Mathlib.Decide.{ℕ_discrete}
use mathlib.Core.Path.{◌≡◌, refl, sym, ◌∙◌, ap}
use mathlib.Core.List.{List, [], ◌∷◌, ◌++◌}
use mathlib.Core.Option.{some}
use lib.ListN.{length, get_or, set, replicate, length-set}
use lib.Seq.{sets, length-sets, get_or-set_same, get_or-set_other}
use Rattle.std.specs.Prelude.{Option as Maybe, Some, None}
use Rattle.model.specs.Words.{Bytes}
use Rattle.model.specs.Tree.{Child}
use Rattle.model.specs.Moves.{Next, after, Ends}
use Rattle.model.specs.Running.{Sent}
use Rattle.model.specs.Node as Tree
use Rattle.model.specs.Answers.{ending_as}
use Rattle.model.specs.declared.OwnState.{OwnState}
use Rattle.model.specs.declared.Ending.{Ending}
use Rattle.model.specs.declared.Phase.TheVariants.{Settled, Loops as Looping}
use Rattle.model.proofs.Words.{clash}
use Rattle.model.proofs.Moves.{after_add, after_some, after_zero, never_twice}
use Rattle.model.proofs.NodeLaws.{next_within, stops_next, moves_next, next_moves}
use Rattle.records.specs.Bytes.{in_fours}
use Rattle.sheet.specs.Contents.{body, bodies}
use Rattle.sheet.specs.Reading.{class_of}
use Rattle.sheet.specs.Rules.{Accepted}
use Rattle.sheet.proofs.Contents.{counted}
use Rattle.sheet.proofs.Reading.{own_states_in}
use Rattle.sheet.proofs.Rules.{accepted_right}
use Rattle.sheet.proofs.Sound.{sound}
use Rattle.children.specs.ChildList.{children_of, sent_bytes}
use Rattle.running.specs.Running.{Writes}
use Rattle.running.proofs.SendLaws.{sets_append, bytes_append, bytes_sum}
use Rattle.phases.specs.Phasing.{phasing_values}
use Rattle.phases.specs.Phases.{Turns, Walks}
use Rattle.phases.specs.declared.Turn.TheVariants.{Stops, Moves}
use Rattle.phases.specs.declared.Turned.{Turned}
use Rattle.phases.proofs.TurnLaws.{sends_most}

-- commands in the buffer, and more behind them
writes_on : (xs ys : List Sent) (before mid after : List ℕ) (at next end : ℕ) → Writes xs before mid at next → Writes ys mid after next end → Writes (xs ++ ys) before after at end
writes_on xs ys before mid after at next end v w =
    record {
      buffer = w.buffer ∙ rw (v.buffer, v.place, bytes_append xs ys, sets_append before at (sent_bytes xs) (sent_bytes ys));
      place = omega (arith, bytes_sum xs ys, v.place, w.place);
    }

-- what stands past the end of a list does not matter inside it
pub inside_same : {A : Type 0} (l : List A) (i : ℕ) (d e : A) → i < length l → get_or l i d ≡ get_or l i e
inside_same [] i d e h = absurd (omega arith)
inside_same (x ∷ l) zero d e h = refl
inside_same (x ∷ l) (suc i) d e h = inside_same l i d e (omega arith)

-- of no state is it known at first where it leads
none_known : (n r : ℕ) → get_or {A = Maybe OwnState} (replicate n None) r None ≡ None
none_known zero r = refl
none_known (suc n) zero = refl
none_known (suc n) (suc r) = none_known n r

-- where the next move leads with the children of a list
abbrev next_in : List ℕ → List ℕ → Next
next_in b list = Tree.next (class_of b) (children_of list)

-- before a turn in state `at`, with m moves made: where the states passed led, what was sent, and that it stands in the buffer up to `end`, if
-- the phase ends
pub record Walking (b list : List ℕ) (q most : ℕ) (before : List ℕ) (to : List (Maybe OwnState)) (at m end : ℕ) (out : List ℕ) : Type 0 where
  pub inside : m ≤ most
  pub low : at < most
  pub long : length to ≡ 32
  pub same : length out ≡ length before
  pub there : after (next_in b list) m q ≡ some at
  pub known : (r : ℕ) (t : OwnState) → get_or to r None ≡ Some t → (next_in b list r ≡ some t.0) × ((j : ℕ) × (j < m) × (after (next_in b list) j q ≡ some r))
  pub sent : List Sent
  pub walked : Tree.phase (class_of b) (children_of list) q ≡ Tree.walk (class_of b) (children_of list) (most - m) at m sent
  pub fresh : Ends (next_in b list) q → Writes sent before out 0 end
  pub small : end ≤ m * 12582912

module _ (b list : List ℕ) (bytes : Bytes b) (accepted : Accepted b) (short : length list ≤ 8192) (q most : ℕ) (number : most ≡ in_fours (body b 1)) where
  abbrev ks : List Child
  ks = children_of list

  abbrev next : Next
  next = next_in b list

  own : Tree.own_states (class_of b) ≡ most
  unfolding class_of bodies
  own = own_states_in (bodies b) ∙ sym number

  pub few : most ≤ 32
  unfolding bodies
  few = omega (arith, (counted b (accepted_right b accepted).contents).states_most)

  within : (r t : ℕ) → next r ≡ some t → t < most
  within r t e = rw (← own) (next_within (class_of b) ks (sound b bytes accepted) r t e)

  pub walking_start : (before : List ℕ) → q < most → Walking b list q most before (replicate 32 None) q 0 0 before
  unfolding Tree.phase sent_bytes
  walking_start before l =
      let z : most - 0 ≡ Tree.own_states (class_of b) = (let o = own in omega arith) in
      record {
        inside = omega arith;
        low = l;
        long = refl;
        same = refl;
        there = after_zero next q;
        known = λ r t e. absurd (clash (cc (sym (none_known 32 r) ∙ e)));
        sent = [];
        walked = rw z;
        fresh = λ e. record { buffer = refl; place = refl };
        small = omega arith;
      }

  module _ (before : List ℕ) (to : List (Maybe OwnState)) (at m end : ℕ) (out : List ℕ) (w : Walking b list q most before to at m end out) where
    -- S moves are made
    all_made : most ≤ m → Tree.phase (class_of b) ks q ≡ Tree.loops at m
    unfolding Tree.walk
    all_made l = let z : most - m ≡ 0 = omega arith in w.walked ∙ rw z

    pub walk_loops : most ≤ m → (s : OwnState) → s.0 ≡ at → Walks b list q before out (Looping s most)
    unfolding phasing_values
    walk_loops l s e =
        record {
          numbers_are = let z : m ≡ most = omega (arith, w.inside, l) in rw (all_made l, e, z);
          written = λ e r k sent h. absurd (clash (cc (sym (all_made l) ∙ h)));
        }

    -- one move more can be made
    module _ (l : m < most) where
      left : most - m ≡ suc (most - (m + 1))
      left = omega arith

      -- the walk goes on from where a turn moves
      walk_on : (t : ℕ) (x : List Sent) → Tree.turn (class_of b) ks at ≡ Tree.moves t x → Tree.phase (class_of b) ks q ≡ Tree.walk (class_of b) ks (most - (m + 1)) t (m + 1) (w.sent ++ x)
      unfolding Tree.walk
      walk_on t x h = w.walked ∙ rw (left, h)

      there_on : (t : ℕ) → next at ≡ some t → after next (m + 1) q ≡ some t
      there_on t h = after_add next m 1 q at w.there ∙ after_some next 0 at t h ∙ after_zero next t

      -- where the state led is known: it was passed before, so the phase never ends
      pub walking_known : (t : OwnState) → get_or to at None ≡ Some t → Walking b list q most before to t.0 (m + 1) end out
      walking_known t e =
          let K = w.known at t e in
          let h : next at ≡ some t.0 = K.0 in
          let (j, jl, passed) = K.1 in
          let (x, moves) = next_moves (class_of b) ks at t.0 h in
          record {
            inside = omega arith;
            low = within at t.0 h;
            long = w.long;
            same = w.same;
            there = there_on t.0 h;
            known = λ r u d. let (y, (i, il, z)) = w.known r u d in (y, (i, (omega arith), z));
            sent = w.sent ++ x;
            walked = walk_on t.0 x moves;
            fresh = λ E. absurd (never_twice next q j m at jl passed w.there E);
            small = (let s = w.small in omega arith);
          }

      module _ (after_turn_lem : List ℕ) (r : Turned) (T : Turns b list at out after_turn_lem end r) where
        -- what the turn sent stands behind what was sent before
        written_on : Ends next q → Writes (w.sent ++ Tree.sent_in (Tree.turn (class_of b) ks at)) before after_turn_lem 0 r.at
        written_on E = writes_on w.sent (Tree.sent_in (Tree.turn (class_of b) ks at)) before out after_turn_lem 0 end r.at (w.fresh E) T.writes

        pub walking_moves : (t : OwnState) → r.turn ≡ Moves t → Walking b list q most before (set to at (Some t)) t.0 (m + 1) r.at after_turn_lem
        unfolding Tree.sends
        walking_moves t e =
            let x = Tree.sent_in (Tree.turn (class_of b) ks at) in
            let moves : Tree.turn (class_of b) ks at ≡ Tree.moves t.0 x = sym (rw e at T.turn_is) in
            let h : next at ≡ some t.0 = moves_next (class_of b) ks at t.0 x moves in
            record {
              inside = omega arith;
              low = within at t.0 h;
              long = length-set to at (Some t) ∙ w.long;
              same = ap length T.writes.buffer ∙ length-sets out end (sent_bytes x) ∙ w.same;
              there = there_on t.0 h;
              known = λ s u d. learnt s u d (ℕ_discrete at s) h;
              sent = w.sent ++ x;
              walked = walk_on t.0 x moves;
              fresh = written_on;
              small = (let a = w.small in omega (arith, T.writes.place, sends_most b (accepted_right b accepted) at list short));
            }
          where
            learnt : (s : ℕ) (u : OwnState) → get_or (set to at (Some t)) s None ≡ Some u → Dec (at ≡ s) → next at ≡ some t.0 → (next s ≡ some u.0) × ((j : ℕ) × (j < m + 1) × (after next j q ≡ some s))
            learnt s u d (yes z) h =
                let set_there : get_or (set to at (Some t)) s None ≡ Some t = rw (← z) (get_or-set_same to at (Some t) None (let l = w.low in let v = w.long in omega (arith, few))) in
                let same : t ≡ u = cc (sym set_there ∙ d) in
                (rw (← z) h ∙ ap (λ (o : OwnState). some o.0) same, (m, (omega arith), w.there ∙ ap some z))
            learnt s u d (no n) h =
                let other : get_or (set to at (Some t)) s None ≡ get_or to s None = get_or-set_other to at s (Some t) None (λ z. n (sym z)) in
                let (y, (i, il, z)) = w.known s u (sym other ∙ d) in
                (y, (i, (omega arith), z))

        pub walk_settles : (e : Ending) (s : OwnState) → s.0 ≡ at → r.turn ≡ Stops e → Walks b list q before after_turn_lem (Settled e s m r.at)
        unfolding Tree.walk phasing_values
        walk_settles e s es f =
            let x = Tree.sent_in (Tree.turn (class_of b) ks at) in
            let stops : Tree.turn (class_of b) ks at ≡ Tree.stops (ending_as e) x = sym (rw f at T.turn_is) in
            let phase_is : Tree.phase (class_of b) ks q ≡ Tree.settled (ending_as e) at m (w.sent ++ x) = w.walked ∙ rw (left, stops) in
            let W = written_on (m, at, record { reached = w.there; ended = stops_next (class_of b) ks at (ending_as e) x stops }) in
            let end_is : r.at ≡ length (sent_bytes (w.sent ++ x)) = omega (arith, W.place) in
            record {
              numbers_are = rw (phase_is, es, end_is);
              written = λ d r k sent h. let z : w.sent ++ x ≡ sent = cc (sym phase_is ∙ h) in W.buffer ∙ ap (λ (l : List Sent). sets before 0 (sent_bytes l)) z;
            }
