-- Demand 3: the answer of the loop question is right over child lists of any length and phases of any number of moves.
-- Assumes nothing.
use Prim.Native.Nat.{ℕ, ◌^◌, ◌<◌, ◌≤◌}
use native.Mathlib.Omega.{arith}
use mathlib.Core.Path.{◌≡◌, refl, sym, ◌∙◌, subst}
use mathlib.Core.Bool.{Bool, true, false, ◌&&◌}
use mathlib.Core.List.{List}
use mathlib.Core.Option.{Option, none, some}
use lib.Pow.{pow_pos}
use Rattle.model.specs.Words.{maybe, is_some, least, greatest}
use Rattle.model.specs.Tree.{Child, Class}
use Rattle.model.specs.Moves.{Next, EndsAt, Returns, returns_soon, Decided}
use Rattle.model.specs.Node.{own_states, next, Phase, settled, loops, phase, moves_of}
use Rattle.model.specs.Crews.{fits}
use Rattle.model.specs.Sound.{Sound}
use Rattle.model.proofs.Words.{clash, true_not_false, and_left, and_right, and_both, least_some, least_none, greatest_above, greatest_at}
use Rattle.model.proofs.Moves.{after_within, never_if_returns, decided}
use Rattle.model.proofs.Occupancy.{next_same}
use Rattle.model.proofs.NodeLaws.{next_within, phase_settled, phase_loops}
use Rattle.configurations.specs.Configurations.{name_count, list_of}
use Rattle.configurations.specs.LoopAnswer.{free, returning, counts, has_loop, longest, longest_in, loop_in, loop_answer}
use Rattle.configurations.specs.Demand.{FreeRight, LoopRight, Demanded}
use Rattle.configurations.proofs.Configurations.{fits_counts, configured, some_counts}

-- the largest number of moves over all configurations and states
abbrev most_moves : Class → ℕ → ℕ
most_moves c present = greatest (2 ^ name_count c present) (longest_in c present)

module _ (c : Class) (s : Sound c) where
  -- S moves decide, with these children
  decides : (ks : List Child) (q : ℕ) → q < own_states c → Decided (next c ks) (own_states c) q
  decides ks = decided (next c ks) (own_states c) (next_within c ks s)

  -- where an own state returns, one is found
  returning_some : (ks : List Child) (q : ℕ) → q < own_states c → Returns (next c ks) q → is_some (returning c ks) ≡ true
  unfolding returning
  returning_some ks q l R = go (least (own_states c) soon) refl
    where
      soon : ℕ → Bool
      soon = returns_soon (next c ks) (own_states c)

      go : (o : Option ℕ) → least (own_states c) soon ≡ o → is_some o ≡ true
      go (some r) e = refl
      go none e = absurd (true_not_false ((decides ks q l).returns_only_if R) (least_none (own_states c) soon e q l))

  -- the state found returns, and no smaller one does
  returning_is : (ks : List Child) (q : ℕ) → returning c ks ≡ some q
      → (q < own_states c) × Returns (next c ks) q × ((r : ℕ) → r < q → Returns (next c ks) r → ⊥)
  unfolding returning
  returning_is ks q e =
      let (l, t, smaller) = least_some (own_states c) (returns_soon (next c ks) (own_states c)) q e in
      (l, (decides ks q l).returns_if t, λ r u R. true_not_false ((decides ks r (omega arith)).returns_only_if R) (smaller r u))

  -- where no own state returns, every phase is settled: it ends, after its moves, which are below S
  settled_if : (ks : List Child) → is_some (returning c ks) ≡ false → (q : ℕ) → q < own_states c
      → (r : ℕ) × (moves_of (phase c ks q) < own_states c) × EndsAt (next c ks) q (moves_of (phase c ks q)) r
  settled_if ks none_returns q l = go (phase c ks q) refl
    where
      go : (p : Phase) → phase c ks q ≡ p → (r : ℕ) × (moves_of p < own_states c) × EndsAt (next c ks) q (moves_of p) r
      go (settled e r m sent) h = let P = phase_settled c ks q e r m sent h in (r, P.fewer, P.there)
      go (loops r m) h =
          let (n, t, u, a, R) = (decides ks q l).reaches_loop r (phase_loops c ks q r m h).1 in
          let low = after_within (next c ks) (own_states c) (next_within c ks s) n q t l a in
          absurd (true_not_false (returning_some ks t low R) none_returns)

  module _ (present : ℕ) where
    -- a configuration that is not skipped and in which an own state returns has a loop
    has_loop_if : (k : ℕ) → counts c present k ≡ true → (q : ℕ) → q < own_states c → Returns (next c (list_of c present k)) q
        → has_loop c present k ≡ true
    unfolding has_loop
    has_loop_if k t q l R = and_both (counts c present k) (is_some (returning c (list_of c present k))) t (returning_some (list_of c present k) q l R)

    -- the smallest configuration with a loop, and the state found there
    loop_right : (k : ℕ) → least (2 ^ name_count c present) (has_loop c present) ≡ some k
        → LoopRight c present k (maybe (returning c (list_of c present k)) (λ _. 0) (λ q. q)) (list_of c present k)
    unfolding has_loop
    loop_right k e =
        let (low, t, smaller) = least_some (2 ^ name_count c present) (has_loop c present) k e in
        let found : Bool = is_some (returning c (list_of c present k)) in
        go (returning c (list_of c present k)) refl (and_right (counts c present k) found t) low (and_left (counts c present k) found t) smaller
      where
        go : (o : Option ℕ) → returning c (list_of c present k) ≡ o → is_some o ≡ true → k < 2 ^ name_count c present → counts c present k ≡ true
            → ((j : ℕ) → j < k → has_loop c present j ≡ false) → LoopRight c present k (maybe o (λ _. 0) (λ q. q)) (list_of c present k)
        go none f found low counted smaller = absurd (clash (cc))
        go (some q) f found low counted smaller =
            let (l, R, first) = returning_is (list_of c present k) q f in
            record {
              configuration = low;
              list = refl;
              list_fits = fits_counts c present k ∙ counted;
              own_state = l;
              returns = R;
              smallest_state = first;
              smallest_configuration =
                  λ j u fit r v T. true_not_false (has_loop_if j (sym (fits_counts c present j) ∙ fit) r v T) (smaller j u);
            }

    -- the longest phase of a configuration that is not skipped
    longest_counted : (k : ℕ) → counts c present k ≡ true → longest_in c present k ≡ longest c (list_of c present k)
    unfolding longest_in
    longest_counted k t = rw t

    -- and of one that is skipped
    longest_skipped : (k : ℕ) → counts c present k ≡ false → longest_in c present k ≡ 0
    unfolding longest_in
    longest_skipped k t = rw t

    -- the largest number of moves is that of a configuration that is not skipped
    at_counted : (k : ℕ) × (k < 2 ^ name_count c present) × (counts c present k ≡ true)
        × (longest c (list_of c present k) ≡ most_moves c present)
    at_counted =
        let (k, l, e) = greatest_at (2 ^ name_count c present) (longest_in c present) (pow_pos (name_count c present)) in
        go k l e (counts c present k) refl
      where
        go : (k : ℕ) → k < 2 ^ name_count c present → longest_in c present k ≡ most_moves c present
            → (b : Bool) → counts c present k ≡ b
            → (k : ℕ) × (k < 2 ^ name_count c present) × (counts c present k ≡ true)
            × (longest c (list_of c present k) ≡ most_moves c present)
        go k l e true t = (k, l, t, sym (longest_counted k t) ∙ e)
        go k l e false t =
            let (j, u, v) = some_counts c present s in
            let a = longest_counted j v in
            let b = longest_skipped k t in
            let d = greatest_above (2 ^ name_count c present) (longest_in c present) j u in
            (j, u, v, (omega arith))

    module _ (none_loops : (k : ℕ) → k < 2 ^ name_count c present → has_loop c present k ≡ false) where
      -- in no configuration that is not skipped does a state return
      none_returns : (k : ℕ) → k < 2 ^ name_count c present → counts c present k ≡ true → is_some (returning c (list_of c present k)) ≡ false
      unfolding has_loop
      none_returns k l t = let h : (counts c present k && is_some (returning c (list_of c present k))) ≡ false = none_loops k l in rw t at h

      -- every phase ends, in at most the largest number of moves
      none_exceeds_most : (ks : List Child) → fits c present ks ≡ true → (q : ℕ) → q < own_states c
          → (n : ℕ) × (r : ℕ) × (n ≤ most_moves c present) × EndsAt (next c ks) q n r
      unfolding longest
      none_exceeds_most ks fit q l =
          let (k, u, same, t) = configured c present ks fit in
          let ls : List Child = list_of c present k in
          let (r, a, E) = settled_if ls (none_returns k u t) q l in
          let x = greatest_above (own_states c) (λ q. moves_of (phase c ls q)) q l in
          let y = longest_counted k t in
          let z = greatest_above (2 ^ name_count c present) (longest_in c present) k u in
          (moves_of (phase c ls q), r, (omega arith), subst (λ (mv : Next). EndsAt mv q (moves_of (phase c ls q)) r) (next_same ls ks same c) E)

      -- free is right
      free_right : FreeRight c present (most_moves c present)
      unfolding longest
      free_right =
          let (k, u, t, e) = at_counted in
          let ls : List Child = list_of c present k in
          let (q, l, f) = greatest_at (own_states c) (λ q. moves_of (phase c ls q)) s.some_state in
          let (r, a, E) = settled_if ls (none_returns k u t) q l in
          record {
            none_exceeds = none_exceeds_most;
            one_reaches = (ls, q, r, fits_counts c present k ∙ t, l, subst (λ n. EndsAt (next c ls) q n r) (f ∙ e) E);
            below_states = (let g : moves_of (phase c ls q) ≡ most_moves c present = f ∙ e in omega arith);
          }

    -- the answer is right, be there a smallest configuration with a loop or none
    answered : (o : Option ℕ) → least (2 ^ name_count c present) (has_loop c present) ≡ o
        → Demanded c present (maybe o (λ _. free (most_moves c present)) (loop_in c present))
    answered none e =
        let no = least_none (2 ^ name_count c present) (has_loop c present) e in
        record {
          free_exactly_if = ((λ _ ks fit q l. let (n, r, a, E) = none_exceeds_most no ks fit q l in (n, r, E)), λ _. refl);
          right = free_right no;
        }
    answered (some k) e =
        let ks : List Child = list_of c present k in
        let q : ℕ = maybe (returning c ks) (λ _. 0) (λ q. q) in
        let R = loop_right k e in
        record {
          free_exactly_if = ((λ h. absurd (clash (cc))), λ ends. absurd (never_if_returns (next c ks) q R.returns (ends ks R.list_fits q R.own_state)));
          right = R;
        }

-- demand 3 for the class of an accepted sheet
pub demanded : (c : Class) → Sound c → (present : ℕ) → Demanded c present (loop_answer c present)
unfolding loop_answer
demanded c s present = answered c s present (least (2 ^ name_count c present) (has_loop c present)) refl
