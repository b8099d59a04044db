-- The tree of a class stands for that class: names become their numbers again, brackets go.
-- Assumes nothing.
use Prim.Native.Nat.{ℕ, suc, ◌≤◌}
use mathlib.Core.Path.{◌≡◌, refl, ◌∙◌, ap}
use mathlib.Core.List.{List, [], ◌∷◌, map}
use lib.ListN.{length}
use Rattle.model.specs.Tree as M
use Rattle.grammar.specs.Grammar as G
use Rattle.grammar.specs.Grammar.{Name, none}
use Rattle.encoding.specs.Numbers.{Every, NoneTwice, ReferrerNumbers}
use Rattle.naming.specs.NameLists.{Lists, records_in}
use Rattle.naming.specs.Naming.{in_order, all_states, own_names, action_names, pattern_of, kind_of, guard_of, operand_of, part_of, referrer_of, when_of, action_of, state_of, class_in}
use Rattle.writings.specs.Layout.{Named, command_text}
use Rattle.readback.specs.Trees.{row_of, quantifier_in, side_in, kin_tree, guard_tree, if_tree, condition_tree, part_tree, statement_tree, referrer_tree, when_tree, action_tree, state_tree, state_trees, text_tree}
use Rattle.readback.proofs.RightLists.{RightList, number_back}
use Rattle.readback.proofs.Nameable.{NamedPattern, NamedGuard, NamedPart, NamedStatement, NamedWhen, NamedAction, NamedState, Nameable}
use Rattle.readback.proofs.Sets.{set_back}
use Rattle.readback.proofs.TreeRows.{row_back, trees_are}
use Rattle.readback.proofs.OwnNames.{own_list, own_position, action_list, action_position, names_are}

-- each entry comes back
map_back : {A B : Type 0} (Q : A → Type 0) (f : A → B) (g : B → A) → ((x : A) → Q x → g (f x) ≡ x) → (xs : List A) → Every Q xs → map g (map f xs) ≡ xs
map_back Q f g e [] h = refl
map_back Q f g e (x ∷ xs) h = λ j. e x h.0 j ∷ map_back Q f g e xs h.1 j

-- statements behind others
unfoldable followed : M.Part → M.Part → M.Part
followed M.end rest = rest
followed (M.◌then◌ s p) rest = M.◌then◌ s (followed p rest)

followed_end : (p : M.Part) → followed p M.end ≡ p
unfolding followed
followed_end M.end = refl
followed_end (M.◌then◌ s p) = ap (M.◌then◌ s) (followed_end p)

kind_back : (k : M.Kind) → kind_of (quantifier_in k) (side_in k) ≡ k
unfolding kind_of quantifier_in side_in
kind_back M.any_in = refl
kind_back M.any_not_in = refl
kind_back M.all_in = refl
kind_back M.all_not_in = refl

module _ (own : List ℕ) (l : Lists) (o : RightList 32 own) (ns : RightList 32 l.names) (cs : RightList 32 l.commands) (ks : RightList 36 l.classes) where
  abbrev S : ℕ
  S = length (records_in 32 own)

  abbrev table : List Name
  table = own_list own

  kin_back : (p : M.Pattern) → NamedPattern l p → pattern_of l (kin_tree l.classes p) ≡ p
  unfolding pattern_of kin_tree
  kin_back M.everyone h = refl
  kin_back (M.of_class c) h = ap M.of_class (number_back ks c h)

  guard_back : (g : M.Guard) → NamedGuard l g → operand_of (guard_tree l.names l.classes g) l ≡ g
  unfolding guard_of guard_tree
  guard_back (M.atom k p s) h = λ j. M.atom (kind_back k j) (kin_back p h.0 j) (set_back l ns s h.1 j)
  guard_back (M.both g q) h = λ j. M.both (guard_back g h.0 j) (guard_back q h.1 j)
  guard_back (M.either g q) h = λ j. M.either (guard_back g h.0 j) (guard_back q h.1 j)
  guard_back (M.opposite g) h = ap M.opposite (guard_back g h)

  -- an if, whose else-part is none where it is empty
  if_back : (before : G.Part) (g : G.Guard) (q : G.Part) (b : M.Part) (r : G.Part) (rest : M.Part) → part_of l table r M.end ≡ b
      → part_of l table (if_tree before g q b r) rest ≡ part_of l table before (M.◌then◌ (M.branch (guard_of g l) (part_of l table q M.end) b) rest)
  unfolding part_of
  if_back before g q M.end r rest e = refl
  if_back before g q (M.◌then◌ s p) r rest e =
      ap (λ (b : M.Part). part_of l table before (M.◌then◌ (M.branch (guard_of g l) (part_of l table q M.end) b) rest)) e

  mutual
    unfolding part_of part_tree NamedPart followed guard_of command_text

    part_back : (p : M.Part) (before : G.Part) (rest : M.Part) → NamedPart l p S
        → part_of l table (part_tree own l p before) rest ≡ part_of l table before (followed p rest)
    part_back M.end before rest h = refl
    part_back (M.◌then◌ s p) before rest h =
        part_back p (statement_tree own l s before) rest h.1 ∙ statement_back s before (followed p rest) h.0

    statement_back : (s : M.Statement) (before : G.Part) (rest : M.Part) → NamedStatement l s S
        → part_of l table (statement_tree own l s before) rest ≡ part_of l table before (M.◌then◌ s rest)
    statement_back (M.send m p) before rest h = λ j. part_of l table before (M.◌then◌ (M.send (number_back cs m h.0 j) (kin_back p h.1 j)) rest)
    statement_back (M.go_to q) before rest h = λ j. part_of l table before (M.◌then◌ (M.go_to (own_position own o l q h j)) rest)
    statement_back (M.branch g a b) before rest h =
        if_back before (condition_tree own l g) (part_tree own l a G.nothing) b (part_tree own l b G.nothing) rest (part_back b G.nothing M.end h.2 ∙ followed_end b)
        ∙ (λ j. part_of l table before (M.◌then◌ (M.branch (guard_back g h.0 j) ((part_back a G.nothing M.end h.1 ∙ followed_end a) j) b) rest))

  body_back : (p : M.Part) → NamedPart l p S → part_of l table (part_tree own l p G.nothing) M.end ≡ p
  unfolding part_of
  body_back p h = part_back p G.nothing M.end h ∙ followed_end p

  -- in state q, which has these action clauses
  module _ (q : ℕ) (actions : List M.Action) (h : Every (NamedAction l S) actions) (once : NoneTwice actions) where
    abbrev commands : List Name
    commands = action_list own l cs S actions h once

    referrer_back : (r : M.Referrer) → ReferrerNumbers r S (length actions) → referrer_of l table commands (referrer_tree own l q actions r) ≡ r
    unfolding referrer_of referrer_tree
    referrer_back (M.move_to t) b = ap M.move_to (own_position own o l t b)
    referrer_back (M.run a) b = ap M.run (action_position own l cs S actions h once a b)
    referrer_back M.stay b = refl

    when_back : (w : M.When) → NamedWhen l S actions w → when_of l table commands (when_tree own l q actions w) ≡ w
    unfolding when_of when_tree guard_of
    when_back w b = λ j. record { guard = guard_back w.guard b.0 j; referrer = referrer_back w.referrer b.1 j }

  action_back : (a : M.Action) → NamedAction l S a → action_of l table (action_tree own l a) ≡ a
  unfolding action_of action_tree command_text
  action_back a h = λ j. record { command = number_back cs a.command h.0 j; body = body_back a.body h.1 j }

  state_back : (q : ℕ) (s : M.State) → NamedState l S s → state_of l table (state_tree own l q s) ≡ s
  unfolding state_of state_tree action_names
  state_back q s h = λ j. record { whens = clauses j; actions = bodies j }
    where
      actions : List G.Action
      actions = map (action_tree own l) s.actions

      whens : List G.When
      whens = map (when_tree own l q s.actions) s.whens

      clauses : map (when_of l table (map (λ a. a.command) (in_order (row_of none actions) []))) (in_order (row_of none whens) []) ≡ s.whens
      clauses =
          (λ j. map (when_of l table (map (λ a. a.command) (row_back actions j))) (row_back whens j))
          ∙ map_back (NamedWhen l S s.actions) (when_tree own l q s.actions) (when_of l table (map (λ a. a.command) actions))
          (when_back q s.actions h.actions h.none_twice)
          s.whens
          h.whens

      bodies : map (action_of l table) (in_order (row_of none actions) []) ≡ s.actions
      bodies =
          (λ j. map (action_of l table) (row_back actions j)) ∙ map_back (NamedAction l S) (action_tree own l) (action_of l table) action_back s.actions h.actions

  trees_back : (ss : List M.State) (q : ℕ) → Every (NamedState l S) ss → map (state_of l table) (state_trees own l q ss) ≡ ss
  unfolding state_trees
  trees_back [] q h = refl
  trees_back (s ∷ ss) q h = λ j. state_back q s h.0 j ∷ trees_back ss (suc q) h.1 j

-- THE CLASS of the tree is the class
pub class_back : (n : Named) (c : M.Class) → Nameable n c → 1 ≤ length c.states → class_in n.lists (text_tree n c) ≡ c
unfolding class_in
class_back n c k some = λ j. record { children = k.sets j; states = states j }
  where
    states : map (state_of n.lists (own_names (text_tree n c))) (all_states (text_tree n c)) ≡ c.states
    states =
        (λ j. map (state_of n.lists (names_are n c k some j)) (trees_are n c some j))
        ∙ trees_back n.own_states n.lists k.table k.names k.commands k.classes c.states 0 k.states
