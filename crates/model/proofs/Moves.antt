-- The moves of a node with fixed children: what n moves reach, ending, returning, and that S moves decide both.
-- Assumes nothing.
use Prim.Native.Nat.{ℕ, zero, suc, ◌+◌, ◌*◌, ◌-◌, ◌<◌, ◌≤◌, min}
use native.Mathlib.Omega.{arith}
use native.Mathlib.Nat.{suc-add, zero-mul, suc-mul, mul-suc, add_comm}
use mathlib.Core.Path.{◌≡◌, refl, sym, ◌∙◌, ap}
use mathlib.Core.Bool.{Bool, true, false}
use mathlib.Core.Logic.{◌⊎◌, inl, inr}
use mathlib.Core.Option.{Option, none, some}
use lib.Dec.{eqb}
use borrow.Author.Tests.{eqb-true, eq-eqb, eqb-false}
use Rattle.model.specs.Words.{maybe, least}
use Rattle.model.specs.Moves.{Next, after, EndsAt, Ends, Returns, Within, is_at, returns_soon, Decided}
use Rattle.model.proofs.Words.{clash, lt_or_le, least_some, least_none, some_below_intro, some_below_elim}

-- pigeonhole: of n + 1 numbers below n two are equal
pub twice : (n : ℕ) (f : ℕ → ℕ) → ((i : ℕ) → i ≤ n → f i < n) → (i : ℕ) × (j : ℕ) × (i < j) × (j ≤ n) × (f i ≡ f j)
twice zero f h = let l = h 0 (omega arith) in absurd (omega arith)
twice (suc n) f h = go (least (suc n) met) refl (λ apart. twice n punched (small apart))
  where
    met : ℕ → Bool
    met i = eqb (f i) (f (suc n))

    -- the numbers with f (suc n) taken out of their range
    punched : ℕ → ℕ
    punched i = min (f i) (f (suc n)) + (f i - suc (f (suc n)))

    small : ((i : ℕ) → i < suc n → met i ≡ false) → (i : ℕ) → i ≤ n → punched i < n
    small apart i l =
        let a = eqb-false (f i) (f (suc n)) (apart i (omega arith)) in
        let b = h i (omega arith) in
        let c = h (suc n) (omega arith) in
        omega arith

    go : (o : Option ℕ) → least (suc n) met ≡ o
        → (((i : ℕ) → i < suc n → met i ≡ false) → (i : ℕ) × (j : ℕ) × (i < j) × (j ≤ n) × (punched i ≡ punched j))
        → (i : ℕ) × (j : ℕ) × (i < j) × (j ≤ suc n) × (f i ≡ f j)
    go (some i) e r =
        let (l, t, s) = least_some (suc n) met i e in
        (i, suc n, l, (omega arith), eqb-true (f i) (f (suc n)) t)
    go none e r =
        let apart = least_none (suc n) met e in
        let (i, j, l, u, p) = r apart in
        let a = eqb-false (f i) (f (suc n)) (apart i (omega arith)) in
        let b = eqb-false (f j) (f (suc n)) (apart j (omega arith)) in
        (i, j, l, (omega arith), (omega arith))

module _ (next : Next) where
  -- where no move is made, no number of moves above 0 can be made
  pub after_none : (n q : ℕ) → next q ≡ none → after next (suc n) q ≡ none
  unfolding after
  after_none n q e = rw e

  -- a first move, and the rest from where it leads
  pub after_some : (n q t : ℕ) → next q ≡ some t → after next (suc n) q ≡ after next n t
  unfolding after
  after_some n q t e = rw e

  -- no move leads nowhere else
  pub after_zero : (q : ℕ) → after next 0 q ≡ some q
  unfolding after
  after_zero q = refl

  -- n moves and then m moves
  pub after_add : (n m q r : ℕ) → after next n q ≡ some r → after next (n + m) q ≡ after next m r
  unfolding after
  after_add zero m q r e = let p : q ≡ r = cc in let z : 0 + m ≡ m = omega arith in rw (p, z)
  after_add (suc n) m q r e = rw suc-add (go (next q) refl (after_add n m))
    where
      go : (o : Option ℕ) → next q ≡ o → ((t r : ℕ) → after next n t ≡ some r → after next (n + m) t ≡ after next m r)
          → maybe o (λ _. none) (after next (n + m)) ≡ after next m r
      go none p h = absurd (clash (cc (sym e ∙ after_none n q p)))
      go (some t) p h = h t r (sym (after_some n q t p) ∙ e)

  -- where m moves can be made, fewer can
  pub after_fewer : (n m q r : ℕ) → n ≤ m → after next m q ≡ some r → (s : ℕ) × (after next n q ≡ some s)
  after_fewer zero m q r l e = (q, after_zero q)
  after_fewer (suc n) zero q r l e = absurd (omega arith)
  after_fewer (suc n) (suc m) q r l e = go (next q) refl (λ t h. after_fewer n m t r (omega arith) h)
    where
      go : (o : Option ℕ) → next q ≡ o → ((t : ℕ) → after next m t ≡ some r → (s : ℕ) × (after next n t ≡ some s))
          → (s : ℕ) × (after next (suc n) q ≡ some s)
      go none p h = absurd (clash (cc (sym e ∙ after_none m q p)))
      go (some t) p h = let (s, k) = h t (sym (after_some m q t p) ∙ e) in (s, after_some n q t p ∙ k)

  -- moves stay below S
  pub after_within : (S : ℕ) → Within next S → (n q r : ℕ) → q < S → after next n q ≡ some r → r < S
  after_within S w zero q r l e = let p : q ≡ r = cc (after_zero q) in omega arith
  after_within S w (suc n) q r l e = go (next q) refl (after_within S w n)
    where
      go : (o : Option ℕ) → next q ≡ o → ((t r : ℕ) → t < S → after next n t ≡ some r → r < S) → r < S
      go none p h = absurd (clash (cc (sym e ∙ after_none n q p)))
      go (some t) p h = h t r (w q t p) (sym (after_some n q t p) ∙ e)

  -- where no move is made the phase ends at once
  pub ends_here : (q : ℕ) → next q ≡ none → EndsAt next q 0 q
  ends_here q e = record { reached = after_zero q; ended = e }

  -- a phase that ends from where a move leads ends one move later
  pub ends_later : (q t n r : ℕ) → next q ≡ some t → EndsAt next t n r → EndsAt next q (suc n) r
  ends_later q t n r e E = record { reached = after_some n q t e ∙ E.reached; ended = E.ended }

  -- past the end no move is made
  pub after_ended : (q n r m : ℕ) → EndsAt next q n r → n < m → after next m q ≡ none
  after_ended q n r m E l =
      let z : m ≡ n + suc (m - suc n) = omega arith in
      rw z (after_add n (suc (m - suc n)) q r E.reached ∙ after_none (m - suc n) r E.ended)

  -- a phase ends after one number of moves and in one state
  pub ends_once : (q n r m s : ℕ) → EndsAt next q n r → EndsAt next q m s → (n ≡ m) × (r ≡ s)
  ends_once q n r m s E F = go (lt_or_le n m) (lt_or_le m n)
    where
      go : (n < m) ⊎ (m ≤ n) → (m < n) ⊎ (n ≤ m) → (n ≡ m) × (r ≡ s)
      go (inl a) d = absurd (clash (cc (after_ended q n r m E a, F.reached)))
      go (inr a) (inl b) = absurd (clash (cc (after_ended q m s n F b, E.reached)))
      go (inr a) (inr b) = let e : n ≡ m = omega arith in let f : after next m q ≡ some r = rw (← e) E.reached in (e, cc F.reached)

  -- where n moves cannot be made the phase ends in fewer
  pub ends_below : (n q : ℕ) → after next n q ≡ none → (m : ℕ) × (r : ℕ) × (m < n) × EndsAt next q m r
  ends_below zero q e = absurd (clash (cc (after_zero q)))
  ends_below (suc n) q e = go (next q) refl (ends_below n)
    where
      go : (o : Option ℕ) → next q ≡ o → ((t : ℕ) → after next n t ≡ none → (m : ℕ) × (r : ℕ) × (m < n) × EndsAt next t m r)
          → (m : ℕ) × (r : ℕ) × (m < suc n) × EndsAt next q m r
      go none p h = (0, q, (omega arith), ends_here q p)
      go (some t) p h =
          let (m, r, l, E) = h t (sym (after_some n q t p) ∙ e) in
          (suc m, r, (omega arith), ends_later q t m r p E)

  -- k times round
  pub after_rounds : (p q k : ℕ) → after next p q ≡ some q → after next (k * p) q ≡ some q
  after_rounds p q zero e = rw zero-mul (after_zero q)
  after_rounds p q (suc k) e = rw suc-mul (after_add (k * p) p q q (after_rounds p q k e) ∙ e)

  -- from a state that returns any number of moves can be made
  pub goes_on : (q n : ℕ) → Returns next q → (r : ℕ) × (after next n q ≡ some r)
  goes_on q n (p, e) =
      let z = mul-suc n p in
      after_fewer n (n * suc p) q q (omega arith) (after_rounds (suc p) q n e)

  -- a state that leads to one that returns never ends
  pub never_past : (q i s : ℕ) → after next i q ≡ some s → Returns next s → Ends next q → ⊥
  never_past q i s e R (n, r, E) =
      let (t, f) = goes_on s (suc n) R in
      let g : after next (i + suc n) q ≡ some t = after_add i (suc n) q s e ∙ f in
      clash (cc (g, after_ended q n r (i + suc n) E (omega arith)))

  -- a phase that comes to a state twice never ends
  pub never_twice : (q i j s : ℕ) → i < j → after next i q ≡ some s → after next j q ≡ some s → Ends next q → ⊥
  never_twice q i j s l e f =
      let z : i + suc (j - suc i) ≡ j = omega arith in
      never_past q i s e (j - suc i, sym (after_add i (suc (j - suc i)) q s e) ∙ rw z f)

  -- a state that returns never ends
  pub never_if_returns : (q : ℕ) → Returns next q → Ends next q → ⊥
  never_if_returns q = never_past q 0 q (after_zero q)

  module _ (S : ℕ) (within : Within next S) (q : ℕ) (low : q < S) where
    -- where S moves can be made two of the states passed are one, and it returns
    passed_twice : (r : ℕ) → after next S q ≡ some r
        → (i : ℕ) × (d : ℕ) × (s : ℕ) × (i < S) × (d < S) × (after next i q ≡ some s) × (after next (suc d) s ≡ some s)
    passed_twice r e = go (twice S (λ i. at (after next i q)) small)
      where
        at : Option ℕ → ℕ
        at o = maybe o (λ _. 0) (λ s. s)

        is_at_i : (i : ℕ) → i ≤ S → after next i q ≡ some (at (after next i q))
        is_at_i i l = let (s, f) = after_fewer i S q r l e in rw f refl

        small : (i : ℕ) → i ≤ S → at (after next i q) < S
        small i l = after_within S within i q (at (after next i q)) low (is_at_i i l)

        go : (i : ℕ) × (j : ℕ) × (i < j) × (j ≤ S) × (at (after next i q) ≡ at (after next j q))
            → (i : ℕ) × (d : ℕ) × (s : ℕ) × (i < S) × (d < S) × (after next i q ≡ some s) × (after next (suc d) s ≡ some s)
        go (i, j, l, u, p) =
            let d : ℕ = j - suc i in
            let z : j ≡ i + suc d = omega arith in
            let a = is_at_i i (omega arith) in
            let s : ℕ = at (after next i q) in
            let b : after next j q ≡ some s = is_at_i j u ∙ ap some (sym p) in
            (i, d, s, (omega arith), (omega arith), a, sym (after_add i (suc d) q s a) ∙ (rw (← z) b))

    -- a state that returns does so by at most S moves
    returns_early : Returns next q → (d : ℕ) × (d < S) × (after next (suc d) q ≡ some q)
    returns_early (p, e) =
        let (r, f) = goes_on q S (p, e) in
        let (i, d, s, il, dl, a, b) = passed_twice r f in
        let m : ℕ = i * suc p - i in
        let z : i + m ≡ i * suc p = (let w = mul-suc i p in omega arith) in
        let back : after next m s ≡ some q = sym (after_add i m q s a) ∙ (rw z (after_rounds (suc p) q i e)) in
        (d, dl, sym (after_add m (suc d) s q back) ∙ (rw (add_comm m (suc d)) (after_add (suc d) m s s b ∙ back)))

    -- where S moves can be made the phase never ends
    never : (r : ℕ) → after next S q ≡ some r → Ends next q → ⊥
    never r e = let (i, d, s, il, dl, a, b) = passed_twice r e in never_past q i s a (d, b)

    -- a phase that ends does so in fewer than S moves
    early : Ends next q → (o : Option ℕ) → after next S q ≡ o → (n : ℕ) × (r : ℕ) × (n < S) × EndsAt next q n r
    early E none e = ends_below S q e
    early E (some r) e = absurd (never r e E)

    -- the test for being at q, both ways
    found_at : (o : Option ℕ) → is_at q o ≡ true → o ≡ some q
    found_at none h = absurd (clash (cc))
    found_at (some r) h = ap some (eqb-true r q h)

    at_found : (o : Option ℕ) → o ≡ some q → is_at q o ≡ true
    at_found o e = rw e (eq-eqb q q refl)

    -- S moves decide
    pub decided : Decided next S q
    unfolding returns_soon
    decided =
        record {
          ends_early = λ E. early E (after next S q) refl;
          ends_if = λ e. let (m, r, l, E) = ends_below S q e in (m, r, E);
          never_ends = never;
          reaches_loop = λ r e. let (i, d, s, il, dl, a, b) = passed_twice r e in (i, s, il, a, (d, b));
          returns_if = λ h. let (n, l, t) = some_below_elim S back_by h in (n, found_at (after next (suc n) q) t);
          returns_only_if = λ R. let (d, l, e) = returns_early R in some_below_intro S back_by d l (at_found (after next (suc d) q) e);
        }
      where
        back_by : ℕ → Bool
        back_by n = is_at q (after next (suc n) q)
