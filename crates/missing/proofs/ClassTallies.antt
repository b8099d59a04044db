-- The tally of the class of an accepted sheet is that of all its when clauses, action clauses and statements: each belongs to one state.
-- Assumes nothing.
use Prim.Native.Nat.{ℕ, zero, suc, ◌+◌, ◌<◌, ◌≤◌}
use native.Mathlib.Omega.{arith}
use mathlib.Core.Path.{◌≡◌, refl, sym, ◌∙◌, ap}
use mathlib.Core.Bool.{true}
use mathlib.Core.List.{List}
use mathlib.Core.Option.{Option, none, some}
use lib.ListN.{length, take, length-append}
use lib.Seq.{take_all}
use Rattle.model.specs.Words.{maybe, is_some, every, total}
use Rattle.model.specs.Tree.{Part, end}
use Rattle.model.proofs.Words.{clash, each_elim}
use Rattle.records.specs.Bytes.{records, in_fours, in_eights}
use Rattle.records.proofs.Bytes.{length_records}
use Rattle.bodies.specs.Clauses.{count_at, count_sum, statement_count, statements_of, body_of}
use Rattle.bodies.specs.BodyRules.{statements_right}
use Rattle.sheet.specs.Contents.{Bodies}
use Rattle.sheet.specs.Reading.{guard_in, when_in, action_in, state_in, class_in}
use Rattle.sheet.proofs.Rules.{BodiesRight}
use Rattle.sheet.proofs.Sizes.{all_whens, all_actions, all_statements}
use Rattle.encoding.specs.Encoding.{gathered, when_guards, action_guards, state_guards}
use Rattle.writings.specs.Missing.{guard_named, action_named, state_named}
use Rattle.missing.specs.Tallies.{joined, sum_of, guard_tally, place_tally, when_tally, whens_tally, statements_tally, part_tally, command_named, commands_named, class_tally}
use Rattle.missing.specs.declared.Tally.{Tally}
use Rattle.missing.proofs.TallyLaws.{same_tally, sum_joined, sum_runs, sum_tests, sum_listed}
use Rattle.missing.proofs.PartTallies.{weigh, weigh_take, part_weighed, weigh_records}

module _ (n m : ℕ) (s : Bodies) where
  -- of when clause w, of the command of action clause a, and of its statements
  abbrev when_is : ℕ → Tally
  when_is w = when_tally n s.guards s.whens w

  abbrev head_is : ℕ → Tally
  head_is a = record { named = command_named m s.actions a; count = 0 }

  abbrev body_is : ℕ → Tally
  body_is a = part_tally n m (action_in s a).body

  abbrev action_is : ℕ → Tally
  action_is a = joined (head_is a) (body_is a)

  -- of the when clauses of state q, and of its action clauses
  abbrev whens_of : ℕ → Tally
  whens_of q = sum_of (count_at s.states 0 q) (λ j. when_is (count_sum s.states 0 q + j))

  abbrev actions_of : ℕ → Tally
  actions_of q = sum_of (count_at s.states 2 q) (λ j. action_is (count_sum s.states 2 q + j))

  -- an action clause is its command and its statements
  action_joined : (a : ℕ) → record { named = action_named n m (action_in s a); count = length (action_guards (action_in s a)) } ≡ action_is a
  unfolding action_in part_tally action_named command_named
  action_joined a = same_tally _ (action_is a) refl (omega arith)

  -- a state is its when clauses and its action clauses
  state_joined : (q : ℕ) → record { named = state_named n m (state_in s q); count = length (state_guards (state_in s q)) } ≡ joined (whens_of q) (actions_of q)
  unfolding state_named state_in when_in guard_in place_tally guard_tally
  state_joined q =
      let fw = count_sum s.states 0 q in
      let fa = count_sum s.states 2 q in
      let whens = sum_listed (λ w. guard_named n w.guard) when_guards (when_in s) fw (count_at s.states 0 q) (λ j. when_is (fw + j)) (λ j a e l. ap when_is e) in
      let actions = sum_listed (action_named n m) action_guards (action_in s) fa (count_at s.states 2 q) (λ j. action_is (fa + j)) (λ j a e l. action_joined a ∙ ap action_is e) in
      same_tally _ _ refl (length-append (gathered when_guards (state_in s q).whens) (gathered action_guards (state_in s q).actions))
      ∙ ap (λ (t : Tally). joined t (record { named = every (action_named n m) (state_in s q).actions; count = length (gathered action_guards (state_in s q).actions) })) whens
      ∙ ap (joined (whens_of q)) actions

  -- all states together
  states_joined : class_tally n m (class_in s)
      ≡ joined (sum_of (count_sum s.states 0 (in_fours s.states)) when_is) (joined (sum_of (count_sum s.states 2 (in_fours s.states)) head_is) (sum_of (count_sum s.states 2 (in_fours s.states)) body_is))
  unfolding class_tally class_in count_sum
  states_joined =
      let S = in_fours s.states in
      let A = total S (count_at s.states 2) in
      sum_listed (state_named n m) state_guards (state_in s) 0 S (λ q. joined (whens_of q) (actions_of q)) (λ j a e l. state_joined a ∙ ap (λ (q : ℕ). joined (whens_of q) (actions_of q)) (let z : a ≡ j = omega arith in z))
      ∙ sum_joined S whens_of actions_of
      ∙ ap (λ (t : Tally). joined t (sum_of S actions_of)) (sum_runs when_is (count_at s.states 0) S)
      ∙ ap (joined (sum_of (total S (count_at s.states 0)) when_is)) (sum_runs action_is (count_at s.states 2) S ∙ sum_joined A head_is body_is)

  module _ (r : BodiesRight s) where
    -- all statement records, and the part that action clause a reads as
    abbrev all_records : List (List ℕ)
    all_records = records (in_eights s.statements) s.statements

    abbrev body_at : ℕ → Option Part
    body_at a = body_of (in_fours s.classes) (in_fours s.states) s.guards s.actions s.statements a

    -- the clause's part is that of its records
    body_weighed : (a : ℕ) → a < in_fours s.actions → body_is a ≡ weigh n m s.guards (statements_of s.actions s.statements a)
    unfolding action_in statements_right body_of
    body_weighed a l = go (body_at a) refl (each_elim (in_fours s.actions) (λ a. is_some (body_at a)) r.statements a l)
      where
        go : (o : Option Part) → body_at a ≡ o → is_some o ≡ true → part_tally n m (maybe o (λ _. end) (λ p. p)) ≡ weigh n m s.guards (statements_of s.actions s.statements a)
        go none e t = absurd (clash (cc))
        go (some p) e t = part_weighed n m s.guards 8 (in_fours s.classes) (in_fours s.states) (statements_of s.actions s.statements a) p e

    -- those of the first k clauses stand one behind the other
    first_bodies : (k : ℕ) → k ≤ in_fours s.actions → sum_of k body_is ≡ weigh n m s.guards (take (count_sum s.actions 2 k) all_records)
    unfolding sum_of count_sum total weigh statements_of
    first_bodies zero l = refl
    first_bodies (suc k) l =
        ap (λ (t : Tally). joined t (body_is k)) (first_bodies k (omega arith))
        ∙ ap (joined (weigh n m s.guards (take (count_sum s.actions 2 k) all_records))) (body_weighed k (omega arith))
        ∙ sym (weigh_take n m s.guards (count_sum s.actions 2 k) (statement_count s.actions k) all_records)

    -- so those of all clauses are all records
    all_bodies : sum_of (in_fours s.actions) body_is ≡ statements_tally n m s.guards s.statements
    unfolding statements_tally
    all_bodies =
        first_bodies (in_fours s.actions) (omega arith)
        ∙ ap (weigh n m s.guards) (rw (all_statements s r) (take_all (in_eights s.statements) all_records (let z = length_records (in_eights s.statements) s.statements in omega arith)))
        ∙ weigh_records n m s.guards (in_eights s.statements) s.statements

    -- so the three walks tell of the class
    pub class_joined : class_tally n m (class_in s)
        ≡ joined (whens_tally n s.guards s.whens) (joined (record { named = commands_named m s.actions; count = 0 }) (statements_tally n m s.guards s.statements))
    unfolding whens_tally commands_named
    class_joined =
        states_joined
        ∙ rw (all_whens s r, all_actions s r, all_bodies, sum_tests (in_fours s.actions) (command_named m s.actions))
