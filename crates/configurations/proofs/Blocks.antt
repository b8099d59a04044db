-- From the moves that can be made in each block to the answer of the loop question.
-- Assumes nothing.
use Prim.Native.Nat.{ℕ, zero, suc, ◌+◌, ◌-◌, ◌/◌, ◌%◌, ◌^◌, ◌<◌, ◌≤◌}
use native.Mathlib.Omega.{arith}
use native.Mathlib.Nat.{mod-lt}
use native.Mathlib.Numerals.{add-one}
use mathlib.Core.Path.{◌≡◌, refl, sym, ap, ◌∙◌}
use mathlib.Core.Bool.{Bool, true, false, ◌&&◌}
use mathlib.Core.List.{List, [], ◌∷◌}
use mathlib.Core.Logic.{◌⊎◌, inl, inr}
use mathlib.Core.Option.{Option, none, some}
use lib.ListN.{length}
use lib.Pow.{pow_pos, field, mod-mod-pow}
use Rattle.model.specs.Words.{choose, is_some, some_below, least, greatest}
use Rattle.model.specs.Tree.{Child, Class}
use Rattle.model.specs.Sound.{Sound}
use Rattle.model.specs.Moves.{Next, after, can, returns_soon}
use Rattle.model.specs.Node.{own_states, next, Phase, settled, loops, phase, moves_of}
use Rattle.model.proofs.Words.{clash, both_ways, and_left, and_right, true_not_false, not_not_true, lt_or_le, some_below_intro, some_below_elim, least_some, least_none, least_found, least_not, greatest_above}
use Rattle.model.proofs.Moves.{after_fewer, after_ended, after_within, goes_on, decided}
use Rattle.model.proofs.NodeLaws.{next_within, phase_settled, phase_loops}
use Rattle.configurations.specs.Configurations.{cells, name_count, chosen, list_of}
use Rattle.configurations.specs.LoopAnswer.{free, returning, counts, has_loop, longest, longest_in, loop_in, loop_answer}
use Rattle.configurations.specs.Blocks.{next_in, BlockLongest, SearchedTo}

can_there : (mv : Next) (n q : ℕ) → can mv n q ≡ true → (r : ℕ) × (after mv n q ≡ some r)
unfolding can
can_there mv n q h = go (after mv n q) refl h
  where
    go : (o : Option ℕ) → after mv n q ≡ o → is_some o ≡ true → (r : ℕ) × (after mv n q ≡ some r)
    go none e t = absurd (clash (cc))
    go (some r) e t = (r, e)

there_can : (mv : Next) (n q r : ℕ) → after mv n q ≡ some r → can mv n q ≡ true
unfolding can
there_can mv n q r e = rw e

can_fewer : (mv : Next) (n m q : ℕ) → n ≤ m → can mv m q ≡ true → can mv n q ≡ true
can_fewer mv n m q l h = let (r, e) = can_there mv m q h in let (s, f) = after_fewer mv n m q r l e in there_can mv n q s f

greatest_below : (n : ℕ) (f : ℕ → ℕ) (m : ℕ) → ((j : ℕ) → j < n → f j ≤ m) → greatest n f ≤ m
unfolding greatest
greatest_below zero f m h = omega arith
greatest_below (suc n) f m h = let a = greatest_below n f m (λ j l. h j (omega arith)) in let b = h n (omega arith) in omega arith

module _ (c : Class) (s : Sound c) (ks : List Child) where
  abbrev mv : Next
  mv = next c ks

  abbrev S : ℕ
  S = own_states c

  -- a list has a loop exactly if S moves can be made from some state
  pub loop_can : is_some (returning c ks) ≡ some_below S (can mv S)
  unfolding returning
  loop_can =
      both_ways (is_some (least S (returns_soon mv S))) (some_below S (can mv S))
      (λ h. to (least S (returns_soon mv S)) refl h)
      (λ h.
      let (q, l, t) = some_below_elim S (can mv S) h in
      let (r, e) = can_there mv S q t in
      let (n, x, k, a, R) = (decided mv S (next_within c ks s) q l).reaches_loop r e in
      let m = after_within mv S (next_within c ks s) n q x l a in
      from (least S (returns_soon mv S)) refl x m ((decided mv S (next_within c ks s) x m).returns_only_if R))
    where
      to : (o : Option ℕ) → least S (returns_soon mv S) ≡ o → is_some o ≡ true → some_below S (can mv S) ≡ true
      to none e h = absurd (clash (cc))
      to (some q) e h =
          let (l, t, _) = least_some S (returns_soon mv S) q e in
          let (r, f) = goes_on mv q S ((decided mv S (next_within c ks s) q l).returns_if t) in
          some_below_intro S (can mv S) q l (there_can mv S q r f)

      from : (o : Option ℕ) → least S (returns_soon mv S) ≡ o → (x : ℕ) → x < S → returns_soon mv S x ≡ true → is_some o ≡ true
      from none e x l t = absurd (true_not_false t (least_none S (returns_soon mv S) e x l))
      from (some y) e x l t = refl

  -- a phase makes at most n moves where n + 1 cannot be made, and at least n where n can
  moves_below : (q n : ℕ) → n < S → can mv (suc n) q ≡ false → moves_of (phase c ks q) ≤ n
  moves_below q n l f = go (phase c ks q) refl
    where
      go : (p : Phase) → phase c ks q ≡ p → moves_of p ≤ n
      go (settled e r m sent) h = at (lt_or_le n m)
        where
          at : (n < m) ⊎ (m ≤ n) → m ≤ n
          at (inl a) = absurd (true_not_false (can_fewer mv (suc n) m q a (there_can mv m q r (phase_settled c ks q e r m sent h).there.reached)) f)
          at (inr a) = a
      go (loops r m) h = let (a, b) = phase_loops c ks q r m h in absurd (true_not_false (can_fewer mv (suc n) S q l (there_can mv S q r b)) f)

  moves_above : (q n : ℕ) → n ≤ S → can mv n q ≡ true → n ≤ moves_of (phase c ks q)
  moves_above q n l f = go (phase c ks q) refl
    where
      go : (p : Phase) → phase c ks q ≡ p → n ≤ moves_of p
      go (settled e r m sent) h = at (lt_or_le m n)
        where
          at : (m < n) ⊎ (n ≤ m) → n ≤ m
          at (inl a) =
              let E = (phase_settled c ks q e r m sent h).there in
              let (x, g) = can_there mv n q f in
              absurd (clash (cc (after_ended mv q m r n E a, g)))
          at (inr a) = a
      go (loops r m) h = let (a, b) = phase_loops c ks q r m h in omega arith

  pub longest_below : (n : ℕ) → n < S → ((q : ℕ) → q < S → can mv (suc n) q ≡ false) → longest c ks ≤ n
  unfolding longest
  longest_below n l f = greatest_below S (λ q. moves_of (phase c ks q)) n (λ q m. moves_below q n l (f q m))

  pub longest_above : (n q : ℕ) → n ≤ S → q < S → can mv n q ≡ true → n ≤ longest c ks
  unfolding longest
  longest_above n q l m f = let a = moves_above q n l f in let b = greatest_above S (λ q. moves_of (phase c ks q)) q m in omega arith

module _ (c : Class) (s : Sound c) (present : ℕ) where
  abbrev states : ℕ
  states = own_states c

  -- a block without a loop
  module _ (base n : ℕ) (L : BlockLongest c present base n) where
    at_lane : (k : ℕ) → base ≤ k → k < base + 64 → counts c present k ≡ true → (q : ℕ) → q < states → can (next c (list_of c present k)) (suc n) q ≡ false
    at_lane k l u t q m = let e : k ≡ base + (k - base) = omega arith in rw e (L.none_more (k - base) q (omega arith) m (rw e at t))

    lane_free : (k : ℕ) → base ≤ k → k < base + 64 → has_loop c present k ≡ false
    unfolding has_loop
    lane_free k l u =
        not_not_true (counts c present k && is_some (returning c (list_of c present k))) (λ h.
        let t = and_left (counts c present k) (is_some (returning c (list_of c present k))) h in
        let r = and_right (counts c present k) (is_some (returning c (list_of c present k))) h in
        let (q, m, y) = some_below_elim states (can (next c (list_of c present k)) states) (sym (loop_can c s (list_of c present k)) ∙ r) in
        true_not_false (can_fewer (next c (list_of c present k)) (suc n) states q L.fewer y) (at_lane k l u t q m))

    lane_bound : (k : ℕ) → base ≤ k → k < base + 64 → longest_in c present k ≤ n
    unfolding longest_in
    lane_bound k l u = go (counts c present k) refl
      where
        go : (b : Bool) → counts c present k ≡ b → choose b (λ _. longest c (list_of c present k)) (λ _. 0) ≤ n
        go true t = longest_below c s (list_of c present k) n L.fewer (at_lane k l u t)
        go false t = (omega arith)

    lane_reaches : (k q : ℕ) → counts c present k ≡ true → q < states → can (next c (list_of c present k)) n q ≡ true → n ≤ longest_in c present k
    unfolding longest_in
    lane_reaches k q t l y = let f = L.fewer in rw t (longest_above c s (list_of c present k) n q (omega arith) l y)

    lane_made : (n ≡ 0) ⊎ ((k : ℕ) × (k < base + 64) × (longest_in c present k ≡ n))
    lane_made = go L.one_makes
      where
        go : (n ≡ 0) ⊎ ((i : ℕ) × (q : ℕ) × (i < 64) × (q < states) × (counts c present (base + i) ≡ true) × (can (next_in c present (base + i)) n q ≡ true))
            → (n ≡ 0) ⊎ ((k : ℕ) × (k < base + 64) × (longest_in c present k ≡ n))
        go (inl z) = inl z
        go (inr (i, q, il, ql, t, y)) = inr (base + i, (omega arith), (let a = lane_bound (base + i) (omega arith) (omega arith) in let b = lane_reaches (base + i) q t ql y in omega arith))

    pub searched_more : (m x : ℕ) → SearchedTo c present base m → m ≤ x → n ≤ x → (x ≡ m) ⊎ (x ≡ n) → SearchedTo c present (base + 64) x
    searched_more m x P a b w =
        record {
          no_loop = λ k l. below (λ k. has_loop c present k ≡ false) P.no_loop lane_free k l;
          bound = λ k l. below (λ k. longest_in c present k ≤ x) (λ j u. let h = P.bound j u in omega arith) (λ j u v. let h = lane_bound j u v in omega arith) k l;
          made = go w P.made lane_made;
        }
      where
        below : (F : ℕ → Type 0) → ((k : ℕ) → k < base → F k) → ((k : ℕ) → base ≤ k → k < base + 64 → F k) → (k : ℕ) → k < base + 64 → F k
        below F f g k l = at (lt_or_le k base)
          where
            at : (k < base) ⊎ (base ≤ k) → F k
            at (inl u) = f k u
            at (inr u) = g k u l

        go : (x ≡ m) ⊎ (x ≡ n) → (m ≡ 0) ⊎ ((k : ℕ) × (k < base) × (longest_in c present k ≡ m)) → (n ≡ 0) ⊎ ((k : ℕ) × (k < base + 64) × (longest_in c present k ≡ n))
            → (x ≡ 0) ⊎ ((k : ℕ) × (k < base + 64) × (longest_in c present k ≡ x))
        go (inl e) (inl z) r = inl (e ∙ z)
        go (inl e) (inr (k, l, h)) r = inr (k, (omega arith), h ∙ sym e)
        go (inr e) y (inl z) = inl (e ∙ z)
        go (inr e) y (inr (k, l, h)) = inr (k, l, h ∙ sym e)

  pub searched_start : SearchedTo c present 0 0
  searched_start = record { no_loop = λ k l. absurd (omega arith); bound = λ k l. absurd (omega arith); made = inl refl }

  -- a configuration has a loop exactly if it counts and S moves can be made in it from some state
  pub loop_counts : (k : ℕ) → has_loop c present k ≡ (counts c present k && some_below states (can (next_in c present k) states))
  unfolding has_loop
  loop_counts k = ap (λ (b : Bool). counts c present k && b) (loop_can c s (list_of c present k))

  -- a block with a loop, after blocks with none: the first configuration that has one
  pub found_first : (base m i : ℕ) → SearchedTo c present base m → i < 64 → has_loop c present (base + i) ≡ true → ((j : ℕ) → j < i → has_loop c present (base + j) ≡ false)
      → (k : ℕ) → k < base + i → has_loop c present k ≡ false
  found_first base m i P il t f k l = at (lt_or_le k base)
    where
      at : (k < base) ⊎ (base ≤ k) → has_loop c present k ≡ false
      at (inl u) = P.no_loop k u
      at (inr u) =
          let e : k ≡ base + (k - base) = omega arith in
          let y : k - base < i = omega arith in
          rw e (f (k - base) y)

-- a configuration goes by as many bits as there are cells
chosen_low : (xs : List Child) (k : ℕ) → chosen xs (k % 2 ^ length xs) ≡ chosen xs k
unfolding chosen
chosen_low [] k = refl
chosen_low (x ∷ xs) k =
    let a : k % 2 ^ suc (length xs) % 2 ≡ k % 2 = rw (← add-one (length xs)) (mod-mod-pow k (length xs) 1) in
    let b : k % 2 ^ suc (length xs) / 2 ≡ k / 2 % 2 ^ length xs = rw (← add-one (length xs)) (field k (length xs) 1) in
    rw (a, b, chosen_low xs (k / 2))

module _ (c : Class) (present : ℕ) where
  abbrev N : ℕ
  N = name_count c present

  same_list : (k : ℕ) → list_of c present (k % 2 ^ N) ≡ list_of c present k
  unfolding list_of
  same_list k = chosen_low (cells c present) k

  low_loop : (k : ℕ) → has_loop c present (k % 2 ^ N) ≡ has_loop c present k
  unfolding has_loop counts
  low_loop k = rw (same_list k)

  low_longest : (k : ℕ) → longest_in c present (k % 2 ^ N) ≡ longest_in c present k
  unfolding longest_in counts
  low_longest k = rw (same_list k)

  -- the first configuration with a loop is the answer's
  pub answered_loop : (k : ℕ) → has_loop c present k ≡ true → ((j : ℕ) → j < k → has_loop c present j ≡ false) → loop_answer c present ≡ loop_in c present k
  unfolding loop_answer
  answered_loop k t f = rw (least_found (2 ^ N) (has_loop c present) k (inside (lt_or_le k (2 ^ N))) t f)
    where
      inside : (k < 2 ^ N) ⊎ (2 ^ N ≤ k) → k < 2 ^ N
      inside (inl l) = l
      inside (inr l) =
          let p = pow_pos N in
          let u : k % 2 ^ N < 2 ^ N = mod-lt k p in
          absurd (true_not_false (low_loop k ∙ t) (f (k % 2 ^ N) (omega arith)))

  -- no loop up to the last configuration
  pub answered_free : (base m : ℕ) → SearchedTo c present base m → 2 ^ N ≤ base → loop_answer c present ≡ free m
  unfolding loop_answer
  answered_free base m P l =
      rw (least_not (2 ^ N) (has_loop c present) (λ j u. P.no_loop j (omega arith))) (ap free (le_antisym (greatest_below (2 ^ N) (longest_in c present) m (λ j u. P.bound j (omega arith))) (reached P.made)))
    where
      le_antisym : {a b : ℕ} → a ≤ b → b ≤ a → a ≡ b
      le_antisym {a} {b} p q = omega arith

      reached : (m ≡ 0) ⊎ ((k : ℕ) × (k < base) × (longest_in c present k ≡ m)) → m ≤ greatest (2 ^ N) (longest_in c present)
      reached (inl z) = omega arith
      reached (inr (k, u, e)) =
          let p = pow_pos N in
          let g = greatest_above (2 ^ N) (longest_in c present) (k % 2 ^ N) (mod-lt k p) in
          let h = low_longest k in
          omega arith
