-- Laws about the search for the action clause of a command: by its number in the bytes, and among the clauses of the tree.
-- Assumes nothing.
use Prim.Native.Nat.{ℕ, zero, suc, ◌+◌, ◌<◌, ◌≤◌}
use native.Mathlib.Omega.{arith}
use mathlib.Core.Path.{◌≡◌, refl, sym, ◌∙◌, ap}
use mathlib.Core.Bool.{Bool, true, false}
use mathlib.Core.List.{List}
use mathlib.Core.Option.{Option, none, some}
use lib.Dec.{eqb}
use borrow.Author.Tests.{eq-eqb, ne_eqb}
use Rattle.std.specs.Prelude.{Option as Maybe, Some, None}
use Rattle.model.specs.Words.{maybe, listed}
use Rattle.model.specs.Tree.{Action}
use Rattle.model.specs.Commands as Tree
use Rattle.model.proofs.Words.{clash, below_next, least_found, least_not}
use Rattle.sheet.specs.Contents.{body}
use Rattle.bodies.specs.Clauses.{first_action, action_count, action_command}
use Rattle.commands.specs.Commands.{first_action_for}

-- no clause before the i-th from the first on is for the command
abbrev pub Passed : List ℕ → ℕ → ℕ → ℕ → Type 0
Passed actions first m i = (j : ℕ) → j < i → eqb (action_command actions (first + j)) m ≡ false

pub passed_more : (actions : List ℕ) (first m i x : ℕ) → Passed actions first m i → x ≡ action_command actions (first + i) → (x ≡ m → ⊥) → Passed actions first m (i + 1)
passed_more actions first m i x h e ne j l =
    below_next (λ j. eqb (action_command actions (first + j)) m ≡ false) i h (ne_eqb (action_command actions (first + i)) m (λ z. ne (e ∙ z))) j (omega arith)

module _ (b actions : List ℕ) (q m first n i : ℕ) (ea : actions ≡ body b 4) (ef : first ≡ first_action (body b 1) q) (en : n ≡ action_count (body b 1) q) (h : Passed actions first m i) where
  abbrev for_it : ℕ → Bool
  for_it j = eqb (action_command (body b 4) (first_action (body b 1) q + j)) m

  before_it : (j : ℕ) → j < i → for_it j ≡ false
  before_it j l = rw (ea, ef) at (h j l)

  pub search_ends : n ≤ i → None ≡ first_action_for b q m
  unfolding first_action_for
  search_ends e = rw (least_not (action_count (body b 1) q) for_it (λ j l. before_it j (omega arith)))

  pub search_finds : (x : ℕ) → i < n → x ≡ action_command actions (first + i) → x ≡ m → Some i ≡ first_action_for b q m
  unfolding first_action_for
  search_finds x l ex em =
      let t : action_command actions (first + i) ≡ m = sym ex ∙ em in
      let u : for_it i ≡ true = eq-eqb (action_command (body b 4) (first_action (body b 1) q + i)) m (rw (ea, ef) at t) in
      let k : i < action_count (body b 1) q = omega arith in
      rw (least_found (action_count (body b 1) q) for_it i k u before_it)

-- what was found tells the smallest number that passes
pub none_least : (o : Option ℕ) → maybe {B = Maybe ℕ} o (λ _. None) Some ≡ None → o ≡ none
none_least none e = refl
none_least (some k) e = absurd (clash (cc))

pub some_least : (o : Option ℕ) (k : ℕ) → maybe o (λ _. None) Some ≡ Some k → o ≡ some k
some_least none k e = absurd (clash (cc))
some_least (some j) k e = ap some (cc)

-- the clause for a command among those that are listed
pub clause_none : (i n : ℕ) (g : ℕ → Action) (m : ℕ) → ((j a : ℕ) → j < n → a ≡ i + j → eqb (g a).command m ≡ false) → Tree.clause_for m (listed i n g) ≡ none
unfolding Tree.clause_for listed
clause_none i zero g m h = refl
clause_none i (suc n) g m h =
    let z = h 0 i (omega arith) (omega arith) in
    rw z (clause_none (suc i) n g m (λ j a l e. h (suc j) a (omega arith) (omega arith)))

pub clause_found : (i n : ℕ) (g : ℕ → Action) (m k a : ℕ) → k < n → a ≡ i + k → eqb (g a).command m ≡ true → ((j c : ℕ) → j < k → c ≡ i + j → eqb (g c).command m ≡ false)
    → Tree.clause_for m (listed i n g) ≡ some (g a).body
unfolding Tree.clause_for listed
clause_found i zero g m k a l e t h = absurd (omega arith)
clause_found i (suc n) g m zero a l e t h =
    let f : a ≡ i = omega arith in
    let u : eqb (g i).command m ≡ true = rw f at t in
    rw (u, f)
clause_found i (suc n) g m (suc k) a l e t h =
    let z = h 0 i (omega arith) (omega arith) in
    rw z (clause_found (suc i) n g m k a (omega arith) (omega arith) t (λ j c l e. h (suc j) c (omega arith) (omega arith)))
