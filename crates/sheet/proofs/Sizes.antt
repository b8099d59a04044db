-- The class of a right sheet has no more statements than the sheet, at most 1,024.
-- Assumes nothing.
use Prim.Native.Nat.{ℕ, zero, suc, ◌+◌, ◌<◌, ◌≤◌}
use native.Mathlib.Omega.{arith}
use mathlib.Core.Path.{◌≡◌, refl, ap}
use mathlib.Core.Bool.{◌&&◌}
use mathlib.Core.List.{List}
use mathlib.Core.Option.{Option, none, some}
use lib.Dec.{eqb}
use borrow.Author.Tests.{eqb-true}
use Rattle.model.specs.Words.{maybe, listed, total}
use Rattle.model.specs.Tree.{Part, end, Action, State}
use Rattle.model.specs.Node.{state_of}
use Rattle.model.proofs.Words.{and_left, and_right}
use Rattle.model.proofs.RunLaws.{part_size}
use Rattle.model.proofs.PhaseSize.{actions_size, class_size, total_same}
use Rattle.records.specs.Bytes.{in_fours, in_eights}
use Rattle.bodies.specs.Clauses.{count_at, count_sum, statement_count, body_of}
use Rattle.bodies.specs.BodyRules.{counts_right, actions_plain, commands_apart, actions_right}
use Rattle.bodies.proofs.Parts.{body_counted}
use Rattle.sheet.specs.Contents.{Bodies, bodies}
use Rattle.sheet.specs.Reading.{action_in, state_in, class_in, class_of}
use Rattle.sheet.proofs.Contents.{counted}
use Rattle.sheet.proofs.Reading.{own_states_in, state_of_in}
use Rattle.sheet.proofs.Rules.{BodiesRight, Right}

-- an action clause has no more statements than its record counts
pub body_few : (s : Bodies) (a : ℕ) → part_size (action_in s a).body ≤ statement_count s.actions a
unfolding action_in part_size
body_few s a = go (body_of (in_fours s.classes) (in_fours s.states) s.guards s.actions s.statements a) refl
  where
    go : (o : Option Part) → body_of (in_fours s.classes) (in_fours s.states) s.guards s.actions s.statements a ≡ o → part_size (maybe o (λ _. end) (λ p. p)) ≤ statement_count s.actions a
    go none e = omega arith
    go (some p) e = body_counted (in_fours s.classes) (in_fours s.states) s.guards s.actions s.statements a p e

-- action clauses of which clause a has at most w a statements
module _ (f : ℕ → Action) (w : ℕ → ℕ) (few : (a : ℕ) → part_size (f a).body ≤ w a) where
  -- those from i on to k have no more than lie between the sums
  listed_few : (i n k : ℕ) → k ≡ i + n → total i w + actions_size (listed i n f) ≤ total k w
  unfolding listed actions_size total
  listed_few i zero k e = let z : k ≡ i = omega arith in rw z (let y : total i w + 0 ≤ total i w = omega arith in y)
  listed_few i (suc n) k e = omega (arith, listed_few (suc i) n k (omega arith), few i)

  -- those that n states list, one state behind the other, have no more than the sum over all that are listed
  states_few : (count : ℕ → ℕ) (n : ℕ) → total n (λ q. actions_size (listed (total q count) (count q) f)) ≤ total (total n count) w
  unfolding total
  states_few count zero = omega arith
  states_few count (suc n) = omega (arith, states_few count n, listed_few (total n count) (count n) (total n count + count n) refl)

module _ (s : Bodies) (r : BodiesRight s) where
  -- the states list all when clauses and all action clauses, by rule 4
  pub all_whens : count_sum s.states 0 (in_fours s.states) ≡ in_fours s.whens
  unfolding counts_right
  all_whens =
      eqb-true (count_sum s.states 0 (in_fours s.states)) (in_fours s.whens)
      (and_left (eqb (count_sum s.states 0 (in_fours s.states)) (in_fours s.whens)) (eqb (count_sum s.states 2 (in_fours s.states)) (in_fours s.actions)) r.counts)

  pub all_actions : count_sum s.states 2 (in_fours s.states) ≡ in_fours s.actions
  unfolding counts_right
  all_actions =
      eqb-true (count_sum s.states 2 (in_fours s.states)) (in_fours s.actions)
      (and_right (eqb (count_sum s.states 0 (in_fours s.states)) (in_fours s.whens)) (eqb (count_sum s.states 2 (in_fours s.states)) (in_fours s.actions)) r.counts)

  -- and the action clauses count all statements, by rule 8
  pub all_statements : count_sum s.actions 2 (in_fours s.actions) ≡ in_eights s.statements
  unfolding actions_right
  all_statements =
      let sums = eqb (count_sum s.actions 2 (in_fours s.actions)) (in_eights s.statements) in
      eqb-true (count_sum s.actions 2 (in_fours s.actions)) (in_eights s.statements)
      (and_right (commands_apart s.states s.actions) sums
      (and_right (actions_plain s.actions) (commands_apart s.states s.actions && sums) r.actions))

  -- a state's action clauses are listed from its first on
  listed_in : (q : ℕ) → q < in_fours s.states → actions_size (state_of (class_in s) q).actions ≡ actions_size (listed (total q (count_at s.states 2)) (count_at s.states 2 q) (action_in s))
  unfolding state_in count_sum
  listed_in q l = ap (λ (x : State). actions_size x.actions) (state_of_in s q l)

  -- so that the class has no more statements than the sheet
  pub class_in_few : class_size (class_in s) ≤ in_eights s.statements
  unfolding class_size count_sum
  class_in_few =
      let S = in_fours s.states in
      let count = count_at s.states 2 in
      let same = total_same S (λ q. actions_size (state_of (class_in s) q).actions) (λ q. actions_size (listed (total q count) (count q) (action_in s))) listed_in in
      let few = states_few (action_in s) (statement_count s.actions) (body_few s) count S in
      let most : total (total S count) (statement_count s.actions) ≡ in_eights s.statements = rw all_actions all_statements in
      rw (own_states_in s) (omega arith)

-- at most 1,024
pub class_few : (b : List ℕ) → Right b → class_size (class_of b) ≤ 1024
unfolding class_of
class_few b right = omega (arith, class_in_few (bodies b) right.bodies, (counted b right.contents).statements_most)
