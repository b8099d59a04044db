-- The rows of a class's tree, as lists: its states, whens and actions in their order.
-- Assumes nothing.
use Prim.Native.Nat.{ℕ, suc, ◌≤◌}
use native.Mathlib.Omega.{arith}
use mathlib.Core.Path.{◌≡◌, refl, ◌∙◌, ap}
use mathlib.Core.List.{List, [], ◌∷◌, ◌++◌, append-nil}
use lib.ListN.{length}
use Rattle.model.specs.Tree as M
use Rattle.grammar.specs.Grammar as G
use Rattle.grammar.specs.Grammar.{Name, Token, Row, none, ◌then◌, row_words}
use Rattle.naming.specs.NameLists.{Lists, characters}
use Rattle.naming.specs.Naming.{in_order, all_states}
use Rattle.naming.proofs.Rows.{list_words, row_as_list}
use Rattle.writings.specs.Layout.{Named}
use Rattle.readback.specs.Trees.{row_of, state_trees, text_of, text_tree}

order_back : {A : Type 0} (xs : List A) (before : Row A) (rest : List A) → in_order (row_of before xs) rest ≡ in_order before (xs ++ rest)
unfolding in_order row_of
order_back [] before rest = refl
order_back (x ∷ xs) before rest = order_back xs (before then x) rest

-- a row of a list's entries has these entries, and their words
pub row_back : {A : Type 0} (xs : List A) → in_order (row_of none xs) [] ≡ xs
unfolding in_order
row_back xs = order_back xs none [] ∙ append-nil xs

pub row_said : {A : Type 0} (f : A → List Token → List Token) (xs : List A) (rest : List Token) → row_words f (row_of none xs) rest ≡ list_words f xs rest
row_said f xs rest = row_as_list f (row_of none xs) rest ∙ ap (λ (ys : List _). list_words f ys rest) (row_back xs)

-- the states of a text that has some, and its class's name
states_from : (n : Name) (ss : List G.State) (before : Row G.State) (s : G.State) → all_states (text_of n before (s ∷ ss)) ≡ in_order before (s ∷ ss)
unfolding all_states text_of in_order
states_from n [] before s = refl
states_from n (u ∷ ss) before s = states_from n ss (before then s) u

states_back : (n : Name) (ss : List G.State) → 1 ≤ length ss → all_states (text_of n none ss) ≡ ss
unfolding in_order
states_back n [] h = absurd (omega arith)
states_back n (s ∷ ss) h = states_from n ss none s

pub class_name : (n : Name) (ss : List G.State) (before : Row G.State) → (text_of n before ss).class ≡ n
unfolding text_of
class_name n [] before = refl
class_name n (s ∷ []) before = refl
class_name n (s ∷ (u ∷ ss)) before = class_name n (u ∷ ss) (before then s)

-- as many trees as states
length_trees : (own : List ℕ) (l : Lists) (q : ℕ) (ss : List M.State) → length (state_trees own l q ss) ≡ length ss
unfolding state_trees
length_trees own l q [] = refl
length_trees own l q (s ∷ ss) = ap suc (length_trees own l (suc q) ss)

-- the states of a class's tree
pub trees_are : (n : Named) (c : M.Class) → 1 ≤ length c.states → all_states (text_tree n c) ≡ state_trees n.own_states n.lists 0 c.states
unfolding text_tree
trees_are n c some =
    states_back (characters n.own_name) (state_trees n.own_states n.lists 0 c.states)
    (omega (arith, length_trees n.own_states n.lists 0 c.states))
