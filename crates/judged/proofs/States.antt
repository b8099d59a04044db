-- The clauses and states that are read of bodies that keep the rules: each has right numbers, and passes no limit on operators or ifs.
-- Assumes nothing.
use Prim.Native.Nat.{ℕ, zero, suc, ◌+◌, ◌<◌}
use native.Mathlib.Omega.{arith}
use mathlib.Core.Path.{◌≡◌, refl, sym, ap, ◌∙◌}
use mathlib.Core.Bool.{true, ◌&&◌, not}
use mathlib.Core.List.{List}
use lib.Dec.{eqb, ltb, leb}
use lib.ListN.{get_or}
use borrow.Author.Tests.{eqb-false, not-true, ltb-true, leb-true}
use Rattle.model.specs.Words.{Bytes, choose, listed}
use Rattle.model.specs.Tree.{end, Action, no_action}
use Rattle.model.proofs.Words.{true_not_false, and_left, and_right, each_elim, maybe_case}
use Rattle.model.proofs.Lists.{length_listed, get_or_listed}
use Rattle.records.specs.Bytes.{in_fours, in_eights}
use Rattle.records.specs.GuardRecords.{guard_from, is_read}
use Rattle.records.proofs.GuardLaws.{read_case}
use Rattle.bodies.specs.Clauses.{count_at, count_sum, when_count, action_count, first_when, first_action, guard_place, referrer_number, target, referrer_of, action_command, statements_of, body_of}
use Rattle.bodies.specs.BodyRules.{guards_right, action_right, actions_plain, new_command, none_twice, commands_apart, actions_right}
use Rattle.bodies.proofs.CheckLaws.{sum_next}
use Rattle.bodies.proofs.StatementLaws.{sum_inside}
use Rattle.bodies.proofs.Parts.{of_some}
use Rattle.sheet.specs.Contents.{Bodies}
use Rattle.sheet.specs.Reading.{guard_in, when_in, action_in, state_in}
use Rattle.sheet.proofs.Rules.{BodiesRight}
use Rattle.sheet.proofs.Sizes.{all_whens, all_actions}
use Rattle.sheet.proofs.Sound.{target_at}
use Rattle.encoding.specs.Numbers.{Every, ReferrerNumbers, NoneTwice}
use Rattle.encoding.proofs.Inside.{WhenInside, ActionInside, StateInside}
use Rattle.judged.proofs.Guards.{Fits, from_fits}
use Rattle.judged.proofs.Parts.{PartFits, end_fits, part_fits}

-- what holds of n numbers from a on, of each of those listed
pub every_listed : {A : Type 0} (P : A → Type 0) (f : ℕ → A) (a n : ℕ) → ((i k : ℕ) → i < n → k ≡ a + i → P (f k)) → Every P (listed a n f)
unfolding listed
every_listed P f a zero h = tt
every_listed P f a (suc n) h = (h 0 a (omega arith) (omega arith), every_listed P f (suc a) n (λ i k l e. h (suc i) k (omega arith) (omega arith)))

-- a referrer number n and a target t that pass rule 7 name what there is
referrer_numbers : (n t S own : ℕ) → choose (eqb n 0) (λ _. ltb t S) (λ _. choose (eqb n 1) (λ _. ltb t own) (λ _. eqb n 2 && eqb t 0)) ≡ true
    → ReferrerNumbers (referrer_of n t) S own
unfolding referrer_of
referrer_numbers zero t S own h = ltb-true t S h
referrer_numbers (suc zero) t S own h = ltb-true t own h
referrer_numbers (suc (suc n)) t S own h = tt

-- clause i of state q is one of the sheet's, if the states' counts sum to n
clause_inside : (states : List ℕ) (offset n q i k : ℕ) → count_sum states offset (in_fours states) ≡ n → q < in_fours states → i < count_at states offset q → k ≡ count_sum states offset q + i → k < n
clause_inside states offset n q i k e l m z =
    omega (arith, sum_inside states offset q (in_fours states) n l e, sum_next states offset q (count_sum states offset q) (count_at states offset q) refl refl)

module _ (s : Bodies) (r : BodiesRight s) (bytes : Bytes s.guards) where
  -- the numbers of child classes and of own states
  abbrev K : ℕ
  K = in_fours s.classes

  abbrev S : ℕ
  S = in_fours s.states

  -- the guard of a when clause, by rules 5 and 6
  guard_fits : (w : ℕ) → w < in_fours s.whens → Fits K 16 (guard_in s (guard_place s.whens w))
  unfolding guard_in guards_right
  guard_fits w l =
      let place = guard_place s.whens w in
      let there = each_elim (in_fours s.whens) (λ w. is_read (guard_from s.guards (guard_place s.whens w))) r.guards w l in
      read_case (Fits K 16) (guard_from s.guards place) _ _
      (λ b. absurd (true_not_false there (ap is_read b)))
      (λ g e h. from_fits K s.guards bytes r.records place e g h)

  -- when clause w, which is clause i of state q, by rule 7 too
  when_inside : (q i w : ℕ) → q < S → i < when_count s.states q → w ≡ first_when s.states q + i → WhenInside K S (action_count s.states q) (when_in s w)
  unfolding when_in
  when_inside q i w l m e =
      let fits = guard_fits w (clause_inside s.states 0 (in_fours s.whens) q i w (all_whens s r) l m e) in
      (fits.1, (fits.0, referrer_numbers (referrer_number s.whens w) (target s.whens w) S (action_count s.states q) (rw e (target_at s r q i l m))))

  -- the body of an action clause, by rule 5
  body_fits : (a : ℕ) → PartFits K S 8 (action_in s a).body
  unfolding action_in body_of
  body_fits a =
      let rs = statements_of s.actions s.statements a in
      let fits = part_fits K S s.guards bytes r.records 8 rs in
      maybe_case (PartFits K S 8) (body_of K S s.guards s.actions s.statements a) (λ _. end) (λ p. p) (λ _. end_fits K S 8)
      (λ p e. of_some (PartFits K S 8) (body_of K S s.guards s.actions s.statements a) p e fits)

  -- action clause a, by rule 8 too
  action_inside : (a : ℕ) → a < in_fours s.actions → ActionInside K S (action_in s a)
  unfolding action_in actions_right actions_plain
  action_inside a l =
      let fits = body_fits a in
      let rest = commands_apart s.states s.actions && eqb (count_sum s.actions 2 (in_fours s.actions)) (in_eights s.statements) in
      let right = each_elim (in_fours s.actions) (action_right s.actions) (and_left (actions_plain s.actions) rest r.actions) a l in
      record {
        numbers = (leb-true (action_command s.actions a) 63 (and_left (leb (action_command s.actions a) 63) _ right), fits.numbers);
        depth = fits.depth;
        paths = fits.paths;
      }

  -- no command stands twice in a state, by rule 8
  commands_differ : (q i j : ℕ) → q < S → i < action_count s.states q → j < i
      → action_command s.actions (first_action s.states q + j) ≡ action_command s.actions (first_action s.states q + i) → ⊥
  unfolding actions_right commands_apart none_twice new_command
  commands_differ q i j l m n =
      let first = first_action s.states q in
      let command = action_command s.actions in
      let sums = eqb (count_sum s.actions 2 (in_fours s.actions)) (in_eights s.statements) in
      let apart = and_left (commands_apart s.states s.actions) sums (and_right (actions_plain s.actions) (commands_apart s.states s.actions && sums) r.actions) in
      let here = each_elim S (none_twice s.states s.actions) apart q l in
      let new = each_elim (action_count s.states q) (new_command s.actions first) here i m in
      eqb-false (command (first + j)) (command (first + i))
      (not-true (eqb (command (first + j)) (command (first + i))) (each_elim i (λ j. not (eqb (command (first + j)) (command (first + i)))) new j n))

  twice_none : (q : ℕ) → q < S → NoneTwice (listed (first_action s.states q) (action_count s.states q) (action_in s))
  unfolding action_in
  twice_none q l i j n m e =
      let first = first_action s.states q in
      let count = action_count s.states q in
      let z : i < count = omega (arith, length_listed first count (action_in s)) in
      let y : j < count = omega arith in
      let at : (k : ℕ) → k < count → (get_or (listed first count (action_in s)) k no_action).command ≡ action_command s.actions (first + k) =
      λ k u. ap (λ (a : Action). a.command) (get_or_listed first count (action_in s) no_action k (first + k) u refl) in
      commands_differ q i j l z n (sym (at j y) ∙ e ∙ at i z)

  -- so of each state
  pub state_inside : (q : ℕ) → q < S → StateInside K S (state_in s q)
  unfolding state_in
  state_inside q l =
      let first = first_action s.states q in
      let count = action_count s.states q in
      record {
        whens =
            rw (length_listed first count (action_in s))
            (every_listed (WhenInside K S count) (when_in s) (first_when s.states q) (when_count s.states q) (λ i w m e. when_inside q i w l m e));
        actions =
            every_listed (ActionInside K S) (action_in s) first count
            (λ i a m e. action_inside a (clause_inside s.states 2 (in_fours s.actions) q i a (all_actions s r) l m e));
        none_twice = twice_none q l;
      }
