-- From words to moves: where the words of the clauses' guards are their truths, each clause aims where its referrer says and the action clauses
-- read as the class's, a word leads where the tree's next move does, and the levels say how many moves can be made.
-- Assumes nothing.
use Prim.Native.Nat.{ℕ, zero, suc, ◌+◌, ◌-◌, ◌*◌, ◌%◌, ◌<◌, ◌≤◌}
use native.Mathlib.Omega.{arith}
use mathlib.Core.Path.{◌≡◌, refl, sym, ap, ◌∙◌}
use mathlib.Core.Bool.{Bool, true, false, ◌&&◌, and-true}
use mathlib.Core.List.{List, [], ◌∷◌}
use mathlib.Core.Logic.{inl, inr}
use mathlib.Core.Option.{Option, none, some}
use lib.ListN.{length, get_or}
use borrow.Author.Tests.{eq-eqb, eqb-true, lt-ltb, le-ltb}
use Rattle.model.specs.Words.{has, choose, maybe, is_some, some_below}
use Rattle.model.specs.Tree.{Child, Referrer, move_to, run, stay, When, Part, Class}
use Rattle.model.specs.Guards.{holds}
use Rattle.model.specs.Moves.{Next, after, can, is_at, Within}
use Rattle.model.specs.Node.{state_of, found, first_true, probe, action_of, next}
use Rattle.model.proofs.Words.{clash, both_ways, and_left, and_right, and_both, some_below_intro, some_below_elim}
use Rattle.model.proofs.NodeLaws.{led, next_by}
use Rattle.sweeps.specs.Sweeps.{move_word}
use Rattle.arrows.specs.Sorting.{aim, taken, leads_to, taken_from, Own}
use Rattle.arrows.specs.Levels.{lane_can}

-- a referrer of state q, whose action clauses stand from first to last: its target is a state, or the action clause that it runs is this part
abbrev pub Fits : (ℕ → Part) → Class → ℕ → ℕ → ℕ → Referrer → Type 0
Fits p c q first last (move_to t) = t < 32
Fits p c q first last (run a) = (first + a < last) × (p (first + a) ≡ (action_of c q a).body)
Fits p c q first last stay = Unit {0}

-- clause m, in one lane: the word of its guard is its truth, and it aims where its referrer says
pub record Told (places aims words : List ℕ) (i : ℕ) (ks : List Child) (p : ℕ → Part) (c : Class) (q first last m : ℕ) (w : When) : Type 0 where
  pub truth : has (get_or words (get_or places m 0) 0) i ≡ holds w.guard ks
  pub aimed : get_or aims m 0 ≡ aim q first w.referrer
  pub fits : Fits p c q first last w.referrer

-- it aims at a word of its state
pub own_aim : (actions : List ℕ) (p : ℕ → Part) (c : Class) (q : ℕ) (r : Referrer) → Fits p c q (get_or actions q 0) (get_or actions (q + 1) 0) r → Own actions q (aim q (get_or actions q 0) r)
own_aim actions p c q (move_to t) f = inl (t, f, refl)
own_aim actions p c q (run a) f = inr (inl (get_or actions q 0 + a, omega arith, f.0, refl))
own_aim actions p c q stay f = inr (inr (omega arith))

module _ (places aims words : List ℕ) (i : ℕ) (ks : List Child) (p : ℕ → Part) (d : When) (c : Class) (q first last : ℕ) (ql : q < 32) (most : last ≤ 256) where
  -- that word leads where its referrer does
  aim_leads : (k : ℕ) (r : Referrer) → Fits p c q first last r → leads_to p ks (aim q first r) ≡ led c ks q (found k r)
  aim_leads k (move_to t) f =
      let lo : q * 32 + t < 1024 = omega arith in
      let v : (q * 32 + t) % 32 ≡ t = omega arith in
      rw (lt-ltb (q * 32 + t) 1024 lo, v)
  aim_leads k (run a) f =
      let l = f.0 in
      let hi : 1024 ≤ 1024 + (first + a) = omega arith in
      let lo : 1024 + (first + a) < 1280 = omega arith in
      let v : 1024 + (first + a) - 1024 ≡ first + a = omega arith in
      rw (le-ltb (1024 + (first + a)) 1024 hi, lt-ltb (1024 + (first + a)) 1280 lo, v, f.1)
  aim_leads k stay f = refl

  -- so the first true clause leads where the probe does
  taken_first : (k m : ℕ) (ws : List When) → ((j a : ℕ) → a ≡ m + j → j < length ws → Told places aims words i ks p c q first last a (get_or ws j d))
      → leads_to p ks (taken places aims words m (length ws) i) ≡ led c ks q (first_true ks k ws)
  unfolding taken first_true
  taken_first k m [] h = refl
  taken_first k m (w ∷ ws) h =
      let T = h 0 m (omega arith) (omega arith) in
      go (holds w.guard ks) w.referrer T.truth T.aimed T.fits (taken_first (k + 1) (suc m) ws (λ j a e l. h (suc j) a (omega arith) (omega arith)))
    where
      go : (b : Bool) (r : Referrer) → has (get_or words (get_or places m 0) 0) i ≡ b → get_or aims m 0 ≡ aim q first r → Fits p c q first last r
          → leads_to p ks (taken places aims words (suc m) (length ws) i) ≡ led c ks q (first_true ks (k + 1) ws)
          → leads_to p ks (choose (has (get_or words (get_or places m 0) 0) i) (λ _. get_or aims m 0) (λ _. taken places aims words (suc m) (length ws) i))
          ≡ led c ks q (choose b (λ _. found k r) (λ _. first_true ks (k + 1) ws))
      go true r e f g h = rw e (ap (leads_to p ks) f ∙ aim_leads k r g)
      go false r e f g h = rw e h

-- the clauses of state q stand where the firsts say: the word that they take a lane to leads where the next move does
pub leads_next : (places aims firsts words : List ℕ) (i : ℕ) (ks : List Child) (p : ℕ → Part) (d : When) (c : Class) (q first last : ℕ) → q < 32 → last ≤ 256
    → get_or firsts (q + 1) 0 - get_or firsts q 0 ≡ length (state_of c q).whens
    → ((j a : ℕ) → a ≡ get_or firsts q 0 + j → j < length (state_of c q).whens → Told places aims words i ks p c q first last a (get_or (state_of c q).whens j d))
    → leads_to p ks (taken_from places aims firsts words q i) ≡ next c ks q
unfolding probe
leads_next places aims firsts words i ks p d c q first last ql most long told =
    rw long (taken_first places aims words i ks p d c q first last ql most 0 (get_or firsts q 0) (state_of c q).whens told ∙ sym (next_by c ks q))

-- the words of the moves are those of a step in each lane
pub record Steps (s : ℕ) (table : List ℕ) (counted : ℕ) (step : ℕ → Next) : Type 0 where
  pub within : (i : ℕ) → i < 64 → Within (step i) s
  pub word : (q t i : ℕ) → q < s → t < s → i < 64 → has (move_word table q t) i ≡ (has counted i && is_at t (step i q))

-- so the levels say how many moves can be made
module _ (s : ℕ) (table : List ℕ) (counted : ℕ) (step : ℕ → Next) (S : Steps s table counted step) where
  one_step : (n q i : ℕ) → q < s → i < 64 → ((t : ℕ) → t < s → lane_can s table counted n t i ≡ (has counted i && can (step i) n t))
      → lane_can s table counted (suc n) q i ≡ (has counted i && can (step i) (suc n) q)
  unfolding lane_can can after
  one_step n q i ql il fewer = both_ways (some_below s f) (has counted i && is_some (maybe (step i q) (λ _. none) (after (step i) n))) to from
    where
      f : ℕ → Bool
      f t = has (move_word table q t) i && lane_can s table counted n t i

      at : (t : ℕ) (o : Option ℕ) → is_at t o ≡ true → o ≡ some t
      at t none h = absurd (clash (cc))
      at t (some r) h = ap some (eqb-true r t h)

      to : some_below s f ≡ true → (has counted i && is_some (maybe (step i q) (λ _. none) (after (step i) n))) ≡ true
      to h =
          let (t, l, b) = some_below_elim s f h in
          let B : Bool = has (move_word table q t) i in
          let C : Bool = lane_can s table counted n t i in
          let y : (has counted i && is_at t (step i q)) ≡ true = sym (S.word q t i ql l il) ∙ and_left B C b in
          let z : (has counted i && can (step i) n t) ≡ true = sym (fewer t l) ∙ and_right B C b in
          let e = at t (step i q) (and_right (has counted i) (is_at t (step i q)) y) in
          and_both (has counted i) (is_some (maybe (step i q) (λ _. none) (after (step i) n))) (and_left (has counted i) (is_at t (step i q)) y)
          (rw e (and_right (has counted i) (can (step i) n t) z))

      from : (has counted i && is_some (maybe (step i q) (λ _. none) (after (step i) n))) ≡ true → some_below s f ≡ true
      from h = go (step i q) refl (and_right (has counted i) (is_some (maybe (step i q) (λ _. none) (after (step i) n))) h)
        where
          there : has counted i ≡ true
          there = and_left (has counted i) (is_some (maybe (step i q) (λ _. none) (after (step i) n))) h

          go : (o : Option ℕ) → step i q ≡ o → is_some (maybe o (λ _. none) (after (step i) n)) ≡ true → some_below s f ≡ true
          go none e u = absurd (clash (cc))
          go (some t) e u =
              let l = S.within i il q t e in
              let w : has (move_word table q t) i ≡ true = S.word q t i ql l il ∙ and_both (has counted i) (is_at t (step i q)) there (rw e (eq-eqb t t refl)) in
              let v : lane_can s table counted n t i ≡ true = fewer t l ∙ and_both (has counted i) (can (step i) n t) there u in
              some_below_intro s f t l (and_both (has (move_word table q t) i) (lane_can s table counted n t i) w v)

  pub lane_steps : (n q i : ℕ) → q < s → i < 64 → lane_can s table counted n q i ≡ (has counted i && can (step i) n q)
  unfolding lane_can can after
  lane_steps zero q i ql il = sym (and-true (has counted i))
  lane_steps (suc n) q i ql il = one_step n q i ql il (λ t l. lane_steps n t i l il)
