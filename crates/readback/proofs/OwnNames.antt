-- The names of a tree's own states and of a state's actions: as many as there are, none twice, each at its number.
-- Assumes nothing.
use Prim.Native.Nat.{ℕ, zero, suc, ◌+◌, ◌<◌, ◌≤◌}
use native.Mathlib.Omega.{arith}
use mathlib.Core.Path.{◌≡◌, refl, sym, ◌∙◌, ap}
use mathlib.Core.Bool.{true}
use mathlib.Core.List.{List, [], ◌∷◌, map}
use lib.ListN.{length, get_or, length-map}
use borrow.Author.Tests.{lt-ltb}
use Rattle.model.specs.Tree as M
use Rattle.grammar.specs.Grammar as G
use Rattle.grammar.specs.Grammar.{Name}
use Rattle.grammar.specs.Words.{position}
use Rattle.encoding.specs.Numbers.{Every, NoneTwice}
use Rattle.naming.specs.NameLists.{Lists, padded, characters, records_in, command_names, number_in, none_twice}
use Rattle.naming.specs.Naming.{joined, own_names, table_of}
use Rattle.naming.specs.Known.{among}
use Rattle.writings.specs.Layout.{Named, name_at, own_text, command_text}
use Rattle.readback.specs.Trees.{action_tree, state_tree, state_trees, text_tree}
use Rattle.readback.proofs.RightLists.{RightList, position_at, once_each, number_back, names_in, names_once, all_back, table_back}
use Rattle.readback.proofs.Nameable.{NamedAction, Nameable}
use Rattle.readback.proofs.TreeRows.{trees_are}
use Rattle.readback.proofs.Clauses.{every_get}

-- entry i of what f makes of a list
get_or_made : {A B : Type 0} (f : A → B) (d : A) (e : B) (xs : List A) (i : ℕ) → i < length xs → get_or (map f xs) i e ≡ f (get_or xs i d)
get_or_made f d e [] i l = absurd (omega arith)
get_or_made f d e (x ∷ xs) zero l = refl
get_or_made f d e (x ∷ xs) (suc i) l = get_or_made f d e xs i (omega arith)

-- an entry of a list is among its names
pub among_at : (ns : List Name) (n : Name) (i : ℕ) → position ns n ≡ i → i < length ns → among ns n ≡ true
unfolding among
among_at ns n i e l = rw e (lt-ltb i (length ns) l)

-- own states
abbrev pub own_list : List ℕ → List Name
own_list own = names_in (records_in 32 own)

pub own_number : (own : List ℕ) → length (own_list own) ≡ length (records_in 32 own)
unfolding names_in
own_number own = length-map (records_in 32 own) characters

module _ (own : List ℕ) (o : RightList 32 own) where
  pub own_once : none_twice (own_list own) ≡ true
  own_once = names_once (records_in 32 own) o.right o.once

  own_at : (l : Lists) (q : ℕ) → q < length (records_in 32 own) → get_or (own_list own) q [] ≡ own_text own l q
  unfolding names_in own_text name_at
  own_at l q b = get_or_made characters [] [] (records_in 32 own) q b

  pub own_position : (l : Lists) (q : ℕ) → q < length (records_in 32 own) → position (own_list own) (own_text own l q) ≡ q
  own_position l q b = ap (position (own_list own)) (sym (own_at l q b)) ∙ position_at (own_list own) own_once q (omega (arith, own_number own))

  -- the trees have these names
  trees_own : (l : Lists) (ss : List M.State) (table : List Name) (q : ℕ) → length table ≡ length ss
      → ((j k : ℕ) → j < length table → k ≡ q + j → own_text own l k ≡ get_or table j []) → map (λ s. s.own) (state_trees own l q ss) ≡ table
  unfolding state_trees state_tree
  trees_own l [] [] q e h = refl
  trees_own l (s ∷ ss) [] q e h = absurd (omega arith)
  trees_own l [] (t ∷ ts) q e h = absurd (omega arith)
  trees_own l (s ∷ ss) (t ∷ ts) q e h =
      λ j. h 0 q (omega arith) (omega arith) j ∷ trees_own l ss ts (suc q) (omega arith) (λ j k b z. h (suc j) k (omega arith) (omega arith)) j

  all_own : (l : Lists) (ss : List M.State) → length (records_in 32 own) ≡ length ss → map (λ s. s.own) (state_trees own l 0 ss) ≡ own_list own
  all_own l ss e =
      trees_own l ss (own_list own) 0 (omega (arith, own_number own))
      (λ j k b z. ap (own_text own l) (let y : k ≡ j = omega arith in y) ∙ sym (own_at l j (omega (arith, own_number own))))

-- actions of a state, none of whose commands stands twice
module _ (own : List ℕ) (l : Lists) (cs : RightList 32 l.commands) (S : ℕ) (actions : List M.Action) (h : Every (NamedAction l S) actions) (once : NoneTwice actions) where
  abbrev pub action_list : List Name
  action_list = map (λ a. a.command) (map (action_tree own l) actions)

  pub action_number : length action_list ≡ length actions
  action_number = length-map (map (action_tree own l) actions) (λ a. a.command) ∙ length-map actions (action_tree own l)

  action_at : (i : ℕ) → i < length actions → get_or action_list i [] ≡ command_text own l (get_or actions i M.no_action).command
  unfolding action_tree
  action_at i b =
      get_or_made (λ a. a.command) (action_tree own l M.no_action) [] (map (action_tree own l) actions) i (omega (arith, length-map actions (action_tree own l)))
      ∙ ap (λ (a : G.Action). a.command) (get_or_made (action_tree own l) M.no_action (action_tree own l M.no_action) actions i b)

  number_at : (i : ℕ) → i < length actions → number_in (command_names l) (get_or action_list i []) ≡ (get_or actions i M.no_action).command
  unfolding command_text
  number_at i b =
      ap (number_in (command_names l)) (action_at i b)
      ∙ number_back cs (get_or actions i M.no_action).command (every_get (NamedAction l S) M.no_action actions h i b).0

  pub action_once : none_twice action_list ≡ true
  action_once =
      once_each action_list
      (λ i j b d e. once i j b (omega (arith, action_number))
      (sym (number_at j (omega (arith, action_number))) ∙ (ap (number_in (command_names l)) e ∙ number_at i (omega (arith, action_number)))))

  pub action_position : (a : ℕ) → a < length actions → position action_list (command_text own l (get_or actions a M.no_action).command) ≡ a
  action_position a b = ap (position action_list) (sym (action_at a b)) ∙ position_at action_list action_once a (omega (arith, action_number))

-- THE TABLE: the names of the tree's states are the table's, and so is its table
module _ (n : Named) (c : M.Class) (k : Nameable n c) (some : 1 ≤ length c.states) where
  pub names_are : own_names (text_tree n c) ≡ own_list n.own_states
  unfolding own_names
  names_are =
      ap (map (λ (s : G.State). s.own)) (trees_are n c some)
      ∙ all_own n.own_states k.table n.lists c.states k.number

  pub names_number : length (own_names (text_tree n c)) ≡ length c.states
  names_number = ap length names_are ∙ (own_number n.own_states ∙ k.number)

  pub table_is : table_of (text_tree n c) ≡ n.own_states
  unfolding table_of
  table_is =
      ap (λ (ns : List Name). joined (map padded ns)) names_are
      ∙ (ap joined (all_back (records_in 32 n.own_states) k.table.right) ∙ table_back n.own_states (length c.states) k.long)
