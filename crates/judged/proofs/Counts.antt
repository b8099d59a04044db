-- How many clauses and statements the class has that is read of bodies that keep the rules: no more than the sheet has records for them.
-- Assumes nothing.
use Prim.Native.Nat.{ℕ, zero, suc, ◌+◌, ◌<◌}
use native.Mathlib.Omega.{arith}
use mathlib.Core.Path.{◌≡◌, refl, ap, ◌∙◌}
use mathlib.Core.List.{List, [], ◌∷◌}
use lib.ListN.{length, get_or}
use Rattle.model.specs.Words.{total}
use Rattle.model.specs.Tree.{Statement, send, go_to, branch, Part, end, ◌then◌, Action, State, Class, no_state}
use Rattle.model.specs.Node.{own_states, state_of}
use Rattle.model.proofs.RunLaws.{one_size, part_size as run_size}
use Rattle.model.proofs.PhaseSize.{actions_size, class_size, total_same}
use Rattle.records.specs.Bytes.{in_fours}
use Rattle.bodies.specs.Clauses.{count_at, count_sum}
use Rattle.sheet.specs.Contents.{Bodies}
use Rattle.sheet.specs.Reading.{class_in}
use Rattle.sheet.proofs.Rules.{BodiesRight}
use Rattle.sheet.proofs.Reading.{own_states_in, whens_in, actions_in}
use Rattle.sheet.proofs.Sizes.{all_whens, all_actions}
use Rattle.encoding.specs.Encoding.{gathered, when_records, action_records, statement_records}
use Rattle.encoding.proofs.RecordCounts.{summed, summed_append, length_gathered, part_size, statement_size, when_number, action_number, statement_number}

-- a sum, its first number put in front
total_front : (n : ℕ) (u : ℕ → ℕ) → total (suc n) u ≡ u 0 + total n (λ j. u (suc j))
unfolding total
total_front zero u = omega arith
total_front (suc n) u = omega (arith, total_front n u)

-- the sum over a list goes by the places in it
summed_total : {A : Type 0} (f : A → ℕ) (d : A) (xs : List A) → summed f xs ≡ total (length xs) (λ j. f (get_or xs j d))
unfolding summed total
summed_total f d [] = refl
summed_total f d (x ∷ xs) = omega (arith, summed_total f d xs, total_front (length xs) (λ j. f (get_or (x ∷ xs) j d)))

-- the sum over what is gathered goes by what it is gathered from
summed_gathered : {A B : Type 0} (f : B → ℕ) (g : A → List B) (xs : List A) → summed f (gathered g xs) ≡ summed (λ x. summed f (g x)) xs
unfolding summed gathered
summed_gathered f g [] = refl
summed_gathered f g (x ∷ xs) = omega (arith, summed_append f (g x) (gathered g xs), summed_gathered f g xs)

-- a part has as many statements as it has where it is run
mutual
  unfolding part_size run_size

  same_size : (p : Part) → part_size p ≡ run_size p
  same_size end = refl
  same_size (s then p) = omega (arith, same_one s, same_size p)

  same_one : (s : Statement) → statement_size s ≡ one_size s
  same_one (send c p) = refl
  same_one (go_to q) = refl
  same_one (branch g a b) = omega (arith, same_size a, same_size b)

same_actions : (xs : List Action) → summed (λ a. part_size a.body) xs ≡ actions_size xs
unfolding summed actions_size
same_actions [] = refl
same_actions (a ∷ xs) = omega (arith, same_size a.body, same_actions xs)

-- a class has one statement record for each statement
pub statements_sized : (c : Class) → length (statement_records c) ≡ class_size c
unfolding class_size
statements_sized c =
    statement_number c
    ∙ summed_gathered (λ a. part_size a.body) (λ s. s.actions) c.states
    ∙ summed_total (λ s. summed (λ a. part_size a.body) s.actions) no_state c.states
    ∙ total_same (own_states c) (λ q. summed (λ a. part_size a.body) (state_of c q).actions) (λ q. actions_size (state_of c q).actions) (λ q l. same_actions (state_of c q).actions)

-- the clauses of one kind are as many as the states count
clauses_counted : {A : Type 0} (s : Bodies) (clauses : State → List A) (offset : ℕ)
    → ((q : ℕ) → q < in_fours s.states → length (clauses (state_of (class_in s) q)) ≡ count_at s.states offset q)
    → length (gathered clauses (class_in s).states) ≡ count_sum s.states offset (in_fours s.states)
unfolding count_sum
clauses_counted s clauses offset h =
    length_gathered clauses (class_in s).states
    ∙ summed_total (λ x. length (clauses x)) no_state (class_in s).states
    ∙ ap (λ (n : ℕ). total n (λ q. length (clauses (state_of (class_in s) q)))) (own_states_in s)
    ∙ total_same (in_fours s.states) (λ q. length (clauses (state_of (class_in s) q))) (count_at s.states offset) h

module _ (s : Bodies) (r : BodiesRight s) where
  -- so when clauses are W, action clauses A
  pub whens_counted : length (when_records (class_in s)) ≡ in_fours s.whens
  whens_counted = when_number (class_in s) ∙ clauses_counted s (λ x. x.whens) 0 (whens_in s) ∙ all_whens s r

  pub actions_counted : length (action_records (class_in s)) ≡ in_fours s.actions
  actions_counted = action_number (class_in s) ∙ clauses_counted s (λ x. x.actions) 2 (actions_in s) ∙ all_actions s r
