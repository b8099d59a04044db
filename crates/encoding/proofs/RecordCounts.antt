-- How many records a class has in each body, counted in the class: clauses, statements with nested ones, records of guards.
-- Assumes nothing.
use Prim.Native.Nat.{ℕ, suc, ◌+◌}
use native.Mathlib.Omega.{arith}
use mathlib.Core.Path.{◌≡◌, refl, ◌∙◌, ap}
use mathlib.Core.List.{List, [], ◌∷◌, ◌++◌}
use lib.ListN.{length, length-append}
use Rattle.model.specs.Tree.{Statement, send, go_to, branch, Part, end, ◌then◌, Action, State, Class}
use Rattle.encoding.specs.Records.{Eight}
use Rattle.encoding.specs.Encoding.{guard_records, part_guards, statement_guards, part_records, inner_records, gathered, placed, when_guards, action_guards, state_guards, when_record, action_record, state_whens, after_whens, state_actions, state_statements, when_records, all_guards, action_records, statement_records}
use Rattle.encoding.specs.Limits.{guards_of, actions_of}
use Rattle.encoding.proofs.All.{length_singles}
use Rattle.encoding.proofs.Order.{guards_written}

-- the sum of f over a list
unfoldable pub summed : {A : Type 0} → (A → ℕ) → List A → ℕ
summed f [] = 0
summed f (x ∷ xs) = f x + summed f xs

-- the statements of a part, those of an if's parts counted
unfoldable mutual
  pub part_size : Part → ℕ
  part_size end = 0
  part_size (s then p) = statement_size s + part_size p

  pub statement_size : Statement → ℕ
  statement_size (send c p) = 1
  statement_size (go_to q) = 1
  statement_size (branch g a b) = suc (part_size a + part_size b)

-- one record for each, wherever its guards stand
mutual
  unfolding part_records part_size

  pub part_number : (p : Part) (n : ℕ) → length (part_records p n) ≡ part_size p
  part_number end n = refl
  part_number (s then p) n =
      let m : ℕ = n + length (statement_guards s) in
      let e = length-append (inner_records s n) (part_records p m) in
      omega (arith, inner_number s n, part_number p m)

  inner_number : (s : Statement) (n : ℕ) → suc (length (inner_records s n)) ≡ statement_size s
  inner_number (send c p) n = refl
  inner_number (go_to q) n = refl
  inner_number (branch g a b) n =
      let m : ℕ = n + length (guard_records g) in
      let k : ℕ = m + length (part_guards a) in
      let e = length-append (part_records a m) (part_records b k) in
      omega (arith, part_number a m, part_number b k)

pub summed_append : {A : Type 0} (f : A → ℕ) (xs ys : List A) → summed f (xs ++ ys) ≡ summed f xs + summed f ys
unfolding summed
summed_append f [] ys = omega arith
summed_append f (x ∷ xs) ys = let e = summed_append f xs ys in omega arith

pub length_gathered : {A B : Type 0} (f : A → List B) (xs : List A) → length (gathered f xs) ≡ summed (λ x. length (f x)) xs
unfolding gathered summed
length_gathered f [] = refl
length_gathered f (x ∷ xs) = let e = length-append (f x) (gathered f xs) in omega (arith, length_gathered f xs)

-- as many as f has in its entries, if each has as many as that
length_placed : {A B C : Type 0} (guards : A → List Eight) (f : A → ℕ → List B) (g : A → List C) → ((x : A) (n : ℕ) → length (f x n) ≡ length (g x))
    → (xs : List A) (n : ℕ) → length (placed guards f xs n) ≡ length (gathered g xs)
unfolding placed gathered
length_placed guards f g h [] n = refl
length_placed guards f g h (x ∷ xs) n =
    let m : ℕ = n + length (guards x) in
    let e = length-append (f x n) (placed guards f xs m) in
    let k = length-append (g x) (gathered g xs) in
    omega (arith, h x n, length_placed guards f g h xs m)

bodies_number : (l : List Action) (n : ℕ) → length (placed action_guards (λ a m. part_records a.body m) l n) ≡ summed (λ a. part_size a.body) l
unfolding placed summed
bodies_number [] n = refl
bodies_number (a ∷ l) n =
    let m : ℕ = n + length (action_guards a) in
    let e = length-append (part_records a.body n) (placed action_guards (λ a m. part_records a.body m) l m) in
    omega (arith, part_number a.body n, bodies_number l m)

statements_number : (ss : List State) (n : ℕ) → length (placed state_guards state_statements ss n) ≡ summed (λ a. part_size a.body) (gathered (λ s. s.actions) ss)
unfolding placed gathered summed
statements_number [] n = refl
statements_number (s ∷ ss) n =
    let m : ℕ = n + length (state_guards s) in
    let e = length-append (state_statements s n) (placed state_guards state_statements ss m) in
    let k = summed_append (λ a. part_size a.body) s.actions (gathered (λ s. s.actions) ss) in
    omega (arith, bodies_number s.actions (after_whens s n), statements_number ss m)

module _ (c : Class) where
  pub when_number : length (when_records c) ≡ length (gathered (λ s. s.whens) c.states)
  when_number = length_placed state_guards state_whens (λ s. s.whens) (λ s n. length_singles when_guards when_record s.whens n) c.states 0

  pub action_number : length (action_records c) ≡ length (actions_of c)
  action_number = length_placed state_guards state_actions (λ s. s.actions) (λ s n. length_singles action_guards action_record s.actions (after_whens s n)) c.states 0

  pub statement_number : length (statement_records c) ≡ summed (λ a. part_size a.body) (actions_of c)
  statement_number = statements_number c.states 0

  pub guard_number : length (all_guards c) ≡ summed (λ g. length (guard_records g)) (guards_of c)
  guard_number = ap length (guards_written c) ∙ length_gathered guard_records (guards_of c)
