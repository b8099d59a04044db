-- The text tree of a class with its names: brackets round every atom and every operator, an else only where its part is not empty.
-- Assumes nothing.
use Rattle.std.specs.Prelude.{ℕ, suc, List, [], ◌∷◌, map, get_or}
use Rattle.model.specs.Tree as M
use Rattle.grammar.specs.Grammar as G
use Rattle.grammar.specs.Grammar.{Name, Row, none, ◌then◌}
use Rattle.naming.specs.NameLists.{Lists, characters}
use Rattle.writings.specs.Layout.{Named, name_at, names_of, own_text, command_text}

-- a row and the entries of a list behind it
unfoldable pub row_of : {A : Type 0} → Row A → List A → Row A
row_of before [] = before
row_of before (x ∷ xs) = row_of (before then x) xs

-- names and others behind them
unfoldable pub names_from : G.Names → List Name → G.Names
names_from before [] = before
names_from before (n ∷ ns) = names_from (G.more before n) ns

-- NAME where there is one, else {NAME, NAME, NAME}; a set that is written has a name
unfoldable pub set_tree : List Name → G.Set
set_tree [] = G.single []
set_tree (n ∷ []) = G.single n
set_tree (n ∷ (m ∷ ns)) = G.braces (names_from (G.one n) (m ∷ ns))

unfoldable pub quantifier_in : M.Kind → G.Quantifier
quantifier_in M.any_in = G.any
quantifier_in M.any_not_in = G.any
quantifier_in M.all_in = G.all
quantifier_in M.all_not_in = G.all

unfoldable pub side_in : M.Kind → G.Side
side_in M.any_in = G.inside
side_in M.any_not_in = G.outside
side_in M.all_in = G.inside
side_in M.all_not_in = G.outside

unfoldable pub kin_tree : List ℕ → M.Pattern → G.Kin
kin_tree classes M.everyone = G.children
kin_tree classes (M.of_class c) = G.kin (name_at 36 classes c)

-- a guard in its brackets
unfoldable pub guard_tree : List ℕ → List ℕ → M.Guard → G.Operand
guard_tree names classes (M.atom k p s) =
    G.brackets (G.just (G.only (G.atom (quantifier_in k) (kin_tree classes p) (side_in k) (set_tree (names_of names s)))))
guard_tree names classes (M.both g h) = G.brackets (G.just (G.and (G.only (guard_tree names classes g)) (guard_tree names classes h)))
guard_tree names classes (M.either g h) = G.brackets (G.or (G.just (G.only (guard_tree names classes g))) (G.only (guard_tree names classes h)))
guard_tree names classes (M.opposite g) = G.brackets (G.just (G.only (G.not (guard_tree names classes g))))

-- an if behind other statements; an empty else-part is not written
abbrev pub if_tree : G.Part → G.Guard → G.Part → M.Part → G.Part → G.Part
if_tree before g q M.end r = G.if_then before g q
if_tree before g q (M.◌then◌ s p) r = G.if_else before g q r

-- with the table of own states and the lists
module _ (own : List ℕ) (l : Lists) where
  abbrev pub condition_tree : M.Guard → G.Guard
  condition_tree g = G.just (G.only (guard_tree l.names l.classes g))

  -- statements behind others
  unfoldable mutual
    pub part_tree : M.Part → G.Part → G.Part
    part_tree M.end before = before
    part_tree (M.◌then◌ s p) before = part_tree p (statement_tree s before)

    pub statement_tree : M.Statement → G.Part → G.Part
    statement_tree (M.send m p) before = G.send before (command_text own l m) (kin_tree l.classes p)
    statement_tree (M.go_to q) before = G.go_to before (own_text own l q)
    statement_tree (M.branch g a b) before = if_tree before (condition_tree g) (part_tree a G.nothing) b (part_tree b G.nothing)

  -- in state q, which has these action clauses; behind stay_in_state its own name
  unfoldable pub referrer_tree : ℕ → List M.Action → M.Referrer → G.Referrer
  referrer_tree q actions (M.move_to t) = G.move_to (own_text own l t)
  referrer_tree q actions (M.run a) = G.run (command_text own l (get_or actions a M.no_action).command)
  referrer_tree q actions M.stay = G.stay_in (own_text own l q)

  unfoldable pub when_tree : ℕ → List M.Action → M.When → G.When
  when_tree q actions w = record { guard = condition_tree w.guard; referrer = referrer_tree q actions w.referrer }

  unfoldable pub action_tree : M.Action → G.Action
  action_tree a = record { command = command_text own l a.command; body = part_tree a.body G.nothing }

  unfoldable pub state_tree : ℕ → M.State → G.State
  state_tree q s =
      record {
        own = own_text own l q;
        whens = row_of none (map (when_tree q s.actions) s.whens);
        actions = row_of none (map action_tree s.actions);
      }

  -- states q, q + 1, and so on
  unfoldable pub state_trees : ℕ → List M.State → List G.State
  state_trees q [] = []
  state_trees q (s ∷ ss) = state_tree q s ∷ state_trees (suc q) ss

-- a text whose last state stands by itself; a class has a state
unfoldable pub text_of : Name → Row G.State → List G.State → G.Text
text_of n before [] = record { class = n; earlier = before; last = record { own = []; whens = none; actions = none } }
text_of n before (s ∷ []) = record { class = n; earlier = before; last = s }
text_of n before (s ∷ (u ∷ ss)) = text_of n (before then s) (u ∷ ss)

-- THE TREE of a class
unfoldable pub text_tree : Named → M.Class → G.Text
text_tree n c = text_of (characters n.own_name) none (state_trees n.own_states n.lists 0 c.states)
