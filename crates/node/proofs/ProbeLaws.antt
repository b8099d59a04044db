-- Laws about specs/Probing.antt: the first clause whose guard is true on the sets is what the tree's probe finds.
-- Assumes nothing.
use Prim.Native.Nat.{ℕ, zero, suc, ◌+◌, ◌<◌, ◌≤◌}
use native.Mathlib.Omega.{arith}
use mathlib.Core.Path.{◌≡◌, refl, sym, ◌∙◌, ap}
use mathlib.Core.Bool.{Bool, true, false}
use mathlib.Core.List.{List}
use mathlib.Core.Logic.{◌⊎◌, inl, inr}
use mathlib.Core.Option.{Option, none, some}
use Rattle.std.specs.Prelude.{Some, None}
use Rattle.model.specs.Words.{maybe, least, listed}
use Rattle.model.specs.Tree.{Child, When, State}
use Rattle.model.specs.Guards.{holds}
use Rattle.model.specs.Node.{state_of, nothing, found, first_true, probe}
use Rattle.model.proofs.Words.{clash, lt_or_le, below_next, least_some, least_none, least_found, least_not}
use Rattle.sheet.specs.Contents.{body, bodies}
use Rattle.bodies.proofs.CheckLaws.{past_count}
use Rattle.bodies.specs.Clauses.{when_count, guard_place, referrer_number, target, referrer_of}
use Rattle.records.specs.Bytes.{in_fours}
use Rattle.records.specs.GuardRecords.{guard_from}
use Rattle.sheet.specs.Verdict.{Stands}
use Rattle.sheet.specs.Reading.{when_in, state_in, class_of}
use Rattle.model.specs.Answers.{referrer_as}
use Rattle.accepted.specs.Runs.{RunIs}
use Rattle.sheet.specs.declared.judging.Places.{Places}
use Rattle.accepted.specs.declared.readers.Run.{Run}
use Rattle.model.specs.declared.Referrer.{Referrer}
use Rattle.sheet.proofs.Contents.{counted}
use Rattle.accepted.proofs.ReaderLaws.{stands_right}
use Rattle.sheet.proofs.Reading.{state_of_in, state_of_past}
use Rattle.node.specs.Values.{truth_of}
use Rattle.node.specs.Probing.{clause_true, first_hit, Probes}
use Rattle.children.specs.NameSets.{Crewed}
use Rattle.node.proofs.Agree.{truth_agree}

-- a clause's truth, read of the bodies
pub clause_told : (b sets whens guards : List ℕ) (w place : ℕ) (r : Bool) → whens ≡ body b 2 → guards ≡ body b 3 → place ≡ guard_place whens w
    → r ≡ truth_of sets (guard_from guards place) → r ≡ clause_true b sets w
unfolding clause_true
clause_told b sets whens guards w place r e f g h = rw (h, g, f, e)

-- a turn of the search: none of the clauses before the i-th is true
pub record NoneBefore (b sets : List ℕ) (first i : ℕ) : Type 0 where
  pub none_true : (j : ℕ) → j < i → clause_true b sets (first + j) ≡ false

-- clause k of n is true and none before it is
pub record FirstTrue (b sets : List ℕ) (first n k : ℕ) : Type 0 where
  pub inside : k < n
  pub true_here : clause_true b sets (first + k) ≡ true
  pub none_true : (j : ℕ) → j < k → clause_true b sets (first + j) ≡ false

module _ (b sets : List ℕ) (first n : ℕ) where
  abbrev test : ℕ → Bool
  test i = clause_true b sets (first + i)

  pub none_start : NoneBefore b sets first 0
  none_start = record { none_true = λ j l. absurd (omega arith) }

  pub none_more : (i : ℕ) → NoneBefore b sets first i → clause_true b sets (first + i) ≡ false → NoneBefore b sets first (i + 1)
  none_more i d f = record { none_true = λ j l. below_next (λ (j : ℕ). clause_true b sets (first + j) ≡ false) i d.none_true f j (let z : j < suc i = omega arith in z) }

  -- all were tried
  pub none_hit : (i : ℕ) → NoneBefore b sets first i → i ≡ n → None ≡ first_hit b sets first n
  unfolding first_hit
  none_hit i d e = rw (least_not n test (λ k l. d.none_true k (omega arith)))

  -- the i-th is true
  pub hit_here : (i : ℕ) → NoneBefore b sets first i → i < n → clause_true b sets (first + i) ≡ true → Some i ≡ first_hit b sets first n
  unfolding first_hit
  hit_here i d l t = rw (least_found n test i l t d.none_true)

  -- what the search's answer says
  pub hit_none : first_hit b sets first n ≡ None → NoneBefore b sets first n
  unfolding first_hit
  hit_none e = go (least n test) refl e
    where
      go : (o : Option ℕ) → least n test ≡ o → maybe o (λ _. None) Some ≡ None → NoneBefore b sets first n
      go none w z = record { none_true = least_none n test w }
      go (some i) w z = absurd (clash (cc))

  pub hit_some : (k : ℕ) → first_hit b sets first n ≡ Some k → FirstTrue b sets first n k
  unfolding first_hit
  hit_some k e = go (least n test) refl e
    where
      go : (o : Option ℕ) → least n test ≡ o → maybe o (λ _. None) Some ≡ Some k → FirstTrue b sets first n k
      go none w z = absurd (clash (cc))
      go (some i) w z =
          let same : i ≡ k = cc in
          let (l, t, f) = least_some n test k (w ∙ ap some same) in
          record { inside = l; true_here = t; none_true = f }

-- the first true clause of those that are listed from a on, numbered from i
module _ (ks : List Child) (f : ℕ → When) where
  none_listed : (i a n : ℕ) → ((j x : ℕ) → x ≡ a + j → j < n → holds (f x).guard ks ≡ false) → first_true ks i (listed a n f) ≡ nothing
  unfolding first_true listed
  none_listed i a zero h = refl
  none_listed i a (suc n) h = rw (h 0 a (omega arith) (omega arith)) (none_listed (i + 1) (suc a) n (λ j x e l. h (suc j) x (omega arith) (omega arith)))

  found_listed : (i a n k x y : ℕ) → x ≡ a + k → y ≡ i + k → k < n → holds (f x).guard ks ≡ true → ((j x : ℕ) → x ≡ a + j → j < k → holds (f x).guard ks ≡ false)
      → first_true ks i (listed a n f) ≡ found y (f x).referrer
  unfolding first_true listed
  found_listed i a zero k x y p q l t h = absurd (omega arith)
  found_listed i a (suc n) zero x y p q l t h =
      let e : a ≡ x = omega arith in
      let g : i ≡ y = omega arith in
      rw (e, g, t)
  found_listed i a (suc n) (suc k) x y p q l t h =
      rw (h 0 a (omega arith) (omega arith))
      (found_listed (i + 1) (suc a) n k x y (omega arith) (omega arith) (omega arith) t (λ j x e l. h (suc j) x (omega arith) (omega arith)))

-- a clause's truth on the sets is that of its guard on the children
clause_agree : (b sets : List ℕ) (ks : List Child) → Crewed sets ks → (w : ℕ) → clause_true b sets w ≡ holds (when_in (bodies b) w).guard ks
unfolding clause_true when_in bodies
clause_agree b sets ks k w = truth_agree sets ks k.eight k.shows k.small (bodies b) (guard_place (body b 2) w)

module _ (b : List ℕ) (p : Places) (stands : Stands b p) (q : ℕ) where
  -- a state past the last has no clause: its count lies past the end
  no_count : in_fours (body b 1) ≤ q → when_count (body b 1) q ≡ 0
  unfolding bodies
  no_count l = past_count (body b 1) 0 q (counted b (stands_right b p stands)).states_whole l

  module _ (sets : List ℕ) (r : Run) (run_is : RunIs r (body b 1) 0 q) where
    -- the clauses of a state that is there
    whens_listed : q < in_fours (body b 1) → (state_of (class_of b) q).whens ≡ listed r.first r.count (when_in (bodies b))
    unfolding class_of bodies state_in
    whens_listed l = rw (run_is.first_is, run_is.count_is) (ap (λ (s : State). s.whens) (state_of_in (bodies b) q l))

    pub probes_none : first_hit b sets r.first r.count ≡ None → Probes b sets q None
    unfolding probe class_of bodies first_true
    probes_none e ks crewed = go (lt_or_le q (in_fours (body b 1)))
      where
        go : (q < in_fours (body b 1)) ⊎ (in_fours (body b 1) ≤ q) → nothing ≡ probe (class_of b) ks q
        go (inl l) =
            rw (whens_listed l)
            (sym (none_listed ks (when_in (bodies b)) 0 r.first r.count (λ j x z m. rw z (sym (clause_agree b sets ks crewed (r.first + j)) ∙ (hit_none b sets r.first r.count e).none_true j m))))
        go (inr l) = rw (state_of_past (bodies b) q l)

    pub probes_found : (k : ℕ) → first_hit b sets r.first r.count ≡ Some k → (whens : List ℕ) → whens ≡ body b 2 → (x : Referrer)
        → referrer_as x ≡ referrer_of (referrer_number whens (r.first + k)) (target whens (r.first + k)) → Probes b sets q (Some (k, x))
    unfolding probe when_in bodies
    probes_found k hit whens e x f ks crewed = go (lt_or_le q (in_fours (body b 1)))
      where
        h : FirstTrue b sets r.first r.count k
        h = hit_some b sets r.first r.count k hit

        go : (q < in_fours (body b 1)) ⊎ (in_fours (body b 1) ≤ q) → found k (referrer_as x) ≡ probe (class_of b) ks q
        go (inl l) =
            rw (f, e, whens_listed l)
            (sym (found_listed ks (when_in (bodies b)) 0 r.first r.count k (r.first + k) k refl (omega arith) h.inside
            (sym (clause_agree b sets ks crewed (r.first + k)) ∙ h.true_here)
            (λ j x z m. rw z (sym (clause_agree b sets ks crewed (r.first + j)) ∙ h.none_true j m))))
        go (inr l) = absurd (omega (arith, h.inside, run_is.count_is, no_count l))
