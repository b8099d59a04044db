-- A settled when phase comes to each state at most once, so that it sends at most one command for each statement of its class and child.
-- Assumes nothing.
use Prim.Native.Nat.{ℕ, zero, suc, ◌+◌, ◌*◌, ◌<◌, ◌≤◌}
use native.Mathlib.Omega.{arith}
use native.Mathlib.Nat.{mul-le-mul_right}
use mathlib.Core.Path.{◌≡◌, refl, sym, ◌∙◌, ap}
use mathlib.Core.List.{List, [], ◌∷◌, ◌++◌}
use mathlib.Core.Logic.{◌⊎◌, inl, inr}
use mathlib.Core.Option.{Option, none, some}
use lib.Dec.{eqb}
use lib.ListN.{length, get_or, length-append}
use borrow.Author.Tests.{eq-eqb, ne_eqb}
use Rattle.model.specs.Words.{choose, maybe, total}
use Rattle.model.specs.Tree.{Child, move_to, run, stay, Action, Class, no_action}
use Rattle.model.specs.Running.{Sent}
use Rattle.model.specs.Moves.{Next, after, EndsAt, Within}
use Rattle.model.specs.Node.{own_states, state_of, Probed, nothing, found, probe, Ending, next, sends, on_the_way, settled, phase}
use Rattle.model.specs.Sound.{Sound}
use Rattle.model.proofs.Words.{lt_or_le}
use Rattle.model.proofs.Moves.{after_zero, after_some, never_if_returns}
use Rattle.model.proofs.RunLaws.{part_size, part_sends}
use Rattle.model.proofs.NodeLaws.{phase_settled, sent_by, sends_is, next_within}

-- how many statements action clauses have together, and how many those of a class
unfoldable pub actions_size : List Action → ℕ
actions_size [] = 0
actions_size (a ∷ rest) = part_size a.body + actions_size rest

unfoldable pub class_size : Class → ℕ
class_size c = total (own_states c) (λ q. actions_size (state_of c q).actions)

-- sums of the same numbers are the same
pub total_same : (n : ℕ) (u v : ℕ → ℕ) → ((j : ℕ) → j < n → u j ≡ v j) → total n u ≡ total n v
unfolding total
total_same zero u v h = refl
total_same (suc n) u v h = rw (total_same n u v (λ j l. h j (omega arith)), h n (omega arith))

-- the numbers, with 0 in place of that at q
abbrev without : (ℕ → ℕ) → ℕ → ℕ → ℕ
without u q s = choose (eqb s q) (λ _. 0) (λ _. u s)

-- elsewhere they are the same
without_other : (u : ℕ → ℕ) (q s : ℕ) → (s ≡ q → ⊥) → u s ≡ without u q s
without_other u q s h = rw (ne_eqb s q h)

-- so that the sum has lost the number at q
total_without : (S : ℕ) (u : ℕ → ℕ) (q : ℕ) → q < S → total S (without u q) + u q ≡ total S u
unfolding total
total_without zero u q l = absurd (omega arith)
total_without (suc n) u q l = go (lt_or_le q n) (total_without n u q)
  where
    go : (q < n) ⊎ (n ≤ q) → (q < n → total n (without u q) + u q ≡ total n u) → total n (without u q) + without u q n + u q ≡ total n u + u n
    go (inl b) h = let z = h b in let o = without_other u q n (λ e. omega arith) in omega arith
    go (inr b) h =
        let same : total n u ≡ total n (without u q) = total_same n u (without u q) (λ j k. without_other u q j (λ e. omega arith)) in
        let e : n ≡ q = omega arith in
        let here : without u q n ≡ 0 = rw (eq-eqb n q e) in
        let there : u n ≡ u q = ap u e in
        omega arith

module _ (next : Next) where
  -- the sum of u over the states that n moves from q pass, the last one too
  unfoldable pub path_sum : (ℕ → ℕ) → ℕ → ℕ → ℕ
  path_sum u zero q = u q
  path_sum u (suc n) q = u q + maybe (next q) (λ _. 0) (path_sum u n)

  -- a first move, and the rest from where it leads
  path_some : (u : ℕ → ℕ) (n q t : ℕ) → next q ≡ some t → path_sum u (suc n) q ≡ u q + path_sum u n t
  unfolding path_sum
  path_some u n q t e = rw e

  -- where no move is made only q is passed
  path_none : (u : ℕ → ℕ) (n q : ℕ) → next q ≡ none → path_sum u (suc n) q ≡ u q
  unfolding path_sum
  path_none u n q e = rw e (let z : u q + 0 ≡ u q = omega arith in z)

  -- it asks for u at the states passed only
  path_same : (u v : ℕ → ℕ) (n q : ℕ) → ((i s : ℕ) → after next i q ≡ some s → u s ≡ v s) → path_sum u n q ≡ path_sum v n q
  unfolding path_sum
  path_same u v zero q h = h 0 q (after_zero next q)
  path_same u v (suc n) q h = rw (h 0 q (after_zero next q)) (ap (λ (x : ℕ). v q + x) (go (next q) refl (path_same u v n)))
    where
      go : (o : Option ℕ) → next q ≡ o → ((t : ℕ) → ((i s : ℕ) → after next i t ≡ some s → u s ≡ v s) → path_sum u n t ≡ path_sum v n t)
          → maybe o (λ _. 0) (path_sum u n) ≡ maybe o (λ _. 0) (path_sum v n)
      go none e r = refl
      go (some t) e r = r t (λ i s a. h (suc i) s (after_some next i q t e ∙ a))

  -- where the phase ends it never came to a state twice, so that the sum is at most that over all states
  pub path_few : (S : ℕ) → Within next S → (n : ℕ) (u : ℕ → ℕ) (q r : ℕ) → q < S → EndsAt next q n r → path_sum u n q ≤ total S u
  unfolding path_sum
  path_few S w zero u q r l E = let z = total_without S u q l in omega arith
  path_few S w (suc n) u q r l E = go (next q) refl (path_few S w n (without u q))
    where
      go : (o : Option ℕ) → next q ≡ o → ((t r : ℕ) → t < S → EndsAt next t n r → path_sum (without u q) n t ≤ total S (without u q)) → path_sum u (suc n) q ≤ total S u
      go none e h = omega (arith, path_none u n q e, total_without S u q l)
      go (some t) e h =
          let rest = h t r (w q t e) (record { reached = sym (after_some next n q t e) ∙ E.reached; ended = E.ended }) in
          let other : (i s : ℕ) → after next i t ≡ some s → s ≡ q → ⊥ = λ i s a z. never_if_returns next q (i, after_some next i q t e ∙ a ∙ ap some z) (suc n, r, E) in
          let same = path_same u (without u q) n t (λ i s a. without_other u q s (other i s a)) in
          omega (arith, path_some u n q t e, total_without S u q l)

-- an action clause has no more statements than all; past the last there are none
action_few : (xs : List Action) (a : ℕ) → part_size (get_or xs a no_action).body ≤ actions_size xs
unfolding actions_size part_size
action_few [] zero = omega arith
action_few [] (suc a) = omega arith
action_few (x ∷ xs) zero = omega arith
action_few (x ∷ xs) (suc a) = let l = action_few xs a in omega arith

module _ (c : Class) (ks : List Child) where
  -- what a turn in state q sends is sent by the statements of one of the state's action clauses
  pub sends_few : (q : ℕ) → length (sends c ks q) ≤ actions_size (state_of c q).actions * length ks
  sends_few q = rw (sends_is c ks q) (go (probe c ks q))
    where
      go : (p : Probed) → length (sent_by c ks q p) ≤ actions_size (state_of c q).actions * length ks
      go nothing = omega arith
      go (found i (move_to t)) = omega arith
      go (found i (run a)) = omega (arith, part_sends (get_or (state_of c q).actions a no_action).body ks, mul-le-mul_right (length ks) (action_few (state_of c q).actions a))
      go (found i stay) = omega arith

  -- and what is sent on the way by the statements of the states passed
  way_few : (n q : ℕ) → length (on_the_way c ks n q) ≤ path_sum (next c ks) (λ s. actions_size (state_of c s).actions) n q * length ks
  unfolding on_the_way path_sum
  way_few zero q = sends_few q
  way_few (suc n) q = go (next c ks q) (way_few n)
    where
      size : ℕ → ℕ
      size s = actions_size (state_of c s).actions

      go : (o : Option ℕ) → ((t : ℕ) → length (on_the_way c ks n t) ≤ path_sum (next c ks) size n t * length ks)
          → length (sends c ks q ++ maybe o (λ _. []) (on_the_way c ks n)) ≤ (size q + maybe o (λ _. 0) (path_sum (next c ks) size n)) * length ks
      go none h = omega (arith, length-append (sends c ks q) [], sends_few q)
      go (some t) h = omega (arith, length-append (sends c ks q) (on_the_way c ks n t), sends_few q, h t)

-- a settled phase sends at most one command for each statement of its class and child
pub phase_sends : (c : Class) (ks : List Child) → Sound c → (q : ℕ) → q < own_states c → (e : Ending) (r m : ℕ) (sent : List Sent)
    → phase c ks q ≡ settled e r m sent → length sent ≤ class_size c * length ks
unfolding class_size
phase_sends c ks s q l e r m sent h =
    let S = phase_settled c ks q e r m sent h in
    let few = path_few (next c ks) (own_states c) (next_within c ks s) m (λ s. actions_size (state_of c s).actions) q r l S.there in
    rw S.sent_all (omega (arith, way_few c ks m q, mul-le-mul_right (length ks) few))
