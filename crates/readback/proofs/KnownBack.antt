-- Every name of a class's tree is known, no state stands twice and no command twice in a state, and each do has its action.
-- Assumes nothing.
use Prim.Native.Nat.{ℕ, suc, ◌+◌, ◌<◌, ◌≤◌}
use native.Mathlib.Omega.{arith}
use mathlib.Core.Path.{◌≡◌, refl}
use mathlib.Core.Bool.{Bool, true, ◌&&◌}
use mathlib.Core.List.{List, [], ◌∷◌, map}
use lib.ListN.{length, get_or}
use Rattle.model.specs.Words.{every}
use Rattle.model.proofs.Words.{and_both}
use Rattle.model.specs.Tree as M
use Rattle.grammar.specs.Grammar as G
use Rattle.grammar.specs.Grammar.{Name}
use Rattle.encoding.specs.Numbers.{Every, NoneTwice, ReferrerNumbers}
use Rattle.naming.specs.NameLists.{Lists, records_in, command_names, listed_in, none_twice}
use Rattle.naming.specs.Naming.{action_names}
use Rattle.naming.specs.Known.{among, set_known, kin_known, guard_known, operand_known, part_known, referrer_known, when_known, action_known, state_known, text_known}
use Rattle.writings.specs.Layout.{Named, names_of, own_text, command_text}
use Rattle.readback.specs.Trees.{set_tree, kin_tree, guard_tree, if_tree, condition_tree, part_tree, statement_tree, referrer_tree, when_tree, action_tree, state_tree, state_trees, text_tree}
use Rattle.readback.proofs.RightLists.{RightList, listed_back}
use Rattle.readback.proofs.Nameable.{NamedPattern, NamedGuard, NamedPart, NamedStatement, NamedWhen, NamedAction, NamedState, Nameable}
use Rattle.readback.proofs.Sets.{set_is_known}
use Rattle.readback.proofs.TreeRows.{row_back, trees_are}
use Rattle.readback.proofs.Clauses.{every_get}
use Rattle.readback.proofs.OwnNames.{among_at, own_list, own_number, own_once, own_position, action_list, action_number, action_once, action_position, names_are}

-- each entry passes that is made of one for which Q holds
every_passes : {A B : Type 0} (Q : A → Type 0) (f : A → B) (t : B → Bool) → ((x : A) → Q x → t (f x) ≡ true) → (xs : List A) → Every Q xs → every t (map f xs) ≡ true
unfolding every
every_passes Q f t e [] h = refl
every_passes Q f t e (x ∷ xs) h = and_both (t (f x)) (every t (map f xs)) (e x h.0) (every_passes Q f t e xs h.1)

module _ (own : List ℕ) (l : Lists) (o : RightList 32 own) (ns : RightList 32 l.names) (cs : RightList 32 l.commands) (ks : RightList 36 l.classes) where
  abbrev S : ℕ
  S = length (records_in 32 own)

  abbrev table : List Name
  table = own_list own

  own_known : (q : ℕ) → q < S → among table (own_text own l q) ≡ true
  own_known q b = among_at table (own_text own l q) q (own_position own o l q b) (omega (arith, own_number own))

  command_known : (m : ℕ) → m < length (command_names l) → listed_in (command_names l) (command_text own l m) ≡ true
  unfolding command_text
  command_known m b = listed_back cs m b

  kin_is_known : (p : M.Pattern) → NamedPattern l p → kin_known l (kin_tree l.classes p) ≡ true
  unfolding kin_known kin_tree
  kin_is_known M.everyone h = refl
  kin_is_known (M.of_class c) h = listed_back ks c h

  abbrev guarded : M.Guard → Bool
  guarded g = operand_known (guard_tree l.names l.classes g) l

  guard_is_known : (g : M.Guard) → NamedGuard l g → guarded g ≡ true
  unfolding guard_known guard_tree
  guard_is_known (M.atom k p s) h =
      and_both (kin_known l (kin_tree l.classes p)) (set_known l (set_tree (names_of l.names s))) (kin_is_known p h.0) (set_is_known l ns s h.1)
  guard_is_known (M.both g q) h = and_both (guarded g) (guarded q) (guard_is_known g h.0) (guard_is_known q h.1)
  guard_is_known (M.either g q) h = and_both (guarded g) (guarded q) (guard_is_known g h.0) (guard_is_known q h.1)
  guard_is_known (M.opposite g) h = guard_is_known g h

  abbrev bodied : G.Part → Bool
  bodied p = part_known l table p

  if_is_known : (before : G.Part) (g : G.Guard) (q : G.Part) (b : M.Part) (r : G.Part) → bodied before ≡ true → guard_known g l ≡ true → bodied q ≡ true
      → bodied r ≡ true → bodied (if_tree before g q b r) ≡ true
  unfolding part_known
  if_is_known before g q M.end r x y z u = rw (x, y, z)
  if_is_known before g q (M.◌then◌ s p) r x y z u = rw (x, y, z, u)

  mutual
    unfolding part_known part_tree NamedPart guard_known

    part_is_known : (p : M.Part) (before : G.Part) → NamedPart l p S → bodied before ≡ true → bodied (part_tree own l p before) ≡ true
    part_is_known M.end before h b = b
    part_is_known (M.◌then◌ s p) before h b = part_is_known p (statement_tree own l s before) h.1 (statement_is_known s before h.0 b)

    statement_is_known : (s : M.Statement) (before : G.Part) → NamedStatement l s S → bodied before ≡ true → bodied (statement_tree own l s before) ≡ true
    statement_is_known (M.send m p) before h b = rw (b, command_known m h.0, kin_is_known p h.1)
    statement_is_known (M.go_to q) before h b = rw (b, own_known q h)
    statement_is_known (M.branch g a b) before h z =
        if_is_known before (condition_tree own l g) (part_tree own l a G.nothing) b (part_tree own l b G.nothing) z (guard_is_known g h.0)
        (part_is_known a G.nothing h.1 refl)
        (part_is_known b G.nothing h.2 refl)

  action_is_known : (a : M.Action) → NamedAction l S a → action_known l table (action_tree own l a) ≡ true
  unfolding action_known action_tree part_known
  action_is_known a h =
      and_both (listed_in (command_names l) (command_text own l a.command)) (bodied (part_tree own l a.body G.nothing)) (command_known a.command h.0)
      (part_is_known a.body G.nothing h.1 refl)

  -- in state q, which has these action clauses
  module _ (q : ℕ) (b : q < S) (actions : List M.Action) (h : Every (NamedAction l S) actions) (once : NoneTwice actions) where
    abbrev commands : List Name
    commands = action_list own l cs S actions h once

    referrer_is_known : (r : M.Referrer) → ReferrerNumbers r S (length actions) → referrer_known l table commands (referrer_tree own l q actions r) ≡ true
    unfolding referrer_known referrer_tree
    referrer_is_known (M.move_to t) k = own_known t k
    referrer_is_known (M.run a) k =
        let m : ℕ = (get_or actions a M.no_action).command in
        and_both (listed_in (command_names l) (command_text own l m)) (among commands (command_text own l m))
        (command_known m (every_get (NamedAction l S) M.no_action actions h a k).0)
        (among_at commands (command_text own l m) a (action_position own l cs S actions h once a k) (omega (arith, action_number own l cs S actions h once)))
    referrer_is_known M.stay k = own_known q b

    when_is_known : (w : M.When) → NamedWhen l S actions w → when_known l table commands (when_tree own l q actions w) ≡ true
    unfolding when_known when_tree guard_known
    when_is_known w k =
        and_both (guarded w.guard) (referrer_known l table commands (referrer_tree own l q actions w.referrer)) (guard_is_known w.guard k.0)
        (referrer_is_known w.referrer k.1)

  state_is_known : (q : ℕ) → q < S → (s : M.State) → NamedState l S s → state_known l table (state_tree own l q s) ≡ true
  unfolding state_known state_tree action_names
  state_is_known q b s h =
      rw (row_back (map (when_tree own l q s.actions) s.whens), row_back (map (action_tree own l) s.actions))
      (and_both (every (when_known l table commands') (map (when_tree own l q s.actions) s.whens))
      (every (action_known l table) (map (action_tree own l) s.actions) && none_twice commands')
      (every_passes (NamedWhen l S s.actions) (when_tree own l q s.actions) (when_known l table commands')
      (when_is_known q b s.actions h.actions h.none_twice)
      s.whens
      h.whens)
      (and_both (every (action_known l table) (map (action_tree own l) s.actions)) (none_twice commands')
      (every_passes (NamedAction l S) (action_tree own l) (action_known l table) action_is_known s.actions h.actions)
      (action_once own l cs S s.actions h.actions h.none_twice)))
    where
      commands' : List Name
      commands' = action_list own l cs S s.actions h.actions h.none_twice

  trees_known : (ss : List M.State) (q : ℕ) → q + length ss ≤ S → Every (NamedState l S) ss → every (state_known l table) (state_trees own l q ss) ≡ true
  unfolding state_trees every
  trees_known [] q b h = refl
  trees_known (s ∷ ss) q b h =
      and_both (state_known l table (state_tree own l q s)) (every (state_known l table) (state_trees own l (suc q) ss))
      (state_is_known q (omega arith) s h.0)
      (trees_known ss (suc q) (omega arith) h.1)

-- THE TREE of a class is known: reading its text is not refused for 17
pub tree_known : (n : Named) (c : M.Class) → Nameable n c → 1 ≤ length c.states → text_known n.lists (text_tree n c) ≡ true
unfolding text_known
tree_known n c k some =
    rw (names_are n c k some, trees_are n c some)
    (and_both (every (state_known n.lists (own_list n.own_states)) (state_trees n.own_states n.lists 0 c.states)) (none_twice (own_list n.own_states))
    (trees_known n.own_states n.lists k.table k.names k.commands k.classes c.states 0 (let e = k.number in omega arith) k.states)
    (own_once n.own_states k.table))
