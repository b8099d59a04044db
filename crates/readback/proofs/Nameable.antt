-- A class each of whose numbers has a name: what the test of the names and the numbers of the class tell of each of its parts.
-- Assumes nothing.
use Prim.Native.Nat.{ℕ, zero, suc, ◌+◌, ◌*◌, ◌/◌, ◌^◌, ◌<◌}
use native.Mathlib.Omega.{arith}
use mathlib.Core.Path.{◌≡◌, refl, sym, ◌∙◌, ap, subst}
use mathlib.Core.Bool.{Bool, true, false, ◌&&◌, ◌||◌, not}
use mathlib.Core.List.{List, [], ◌∷◌}
use lib.Dec.{eqb, ltb}
use lib.ListN.{length}
use borrow.Author.Tests.{eqb-true, ltb-true}
use Rattle.model.specs.Words.{kept, keep, every, listed, has}
use Rattle.model.proofs.Words.{and_left, and_right, each_elim}
use Rattle.model.proofs.Lists.{length_listed}
use Rattle.model.specs.Tree as M
use Rattle.grammar.specs.Words.{is_name, same}
use Rattle.grammar.proofs.Words.{same_equal}
use Rattle.encoding.specs.Numbers.{Every, PatternNumbers, GuardNumbers, ReferrerNumbers, WhenNumbers, PartNumbers, StatementNumbers, ActionNumbers, NoneTwice, StateNumbers, Numbers}
use Rattle.naming.specs.NameLists.{Lists, characters, record_right, records_in, list_right, child_names, command_names, class_names, class_sets, bits_named, lists_right, lists_within}
use Rattle.writings.specs.Layout.{Named}
use Rattle.writings.specs.Missing.{guard_named, part_named, statement_named, action_named, state_named, class_named, own_right, lent_right, names_right}
use Rattle.readback.proofs.RightLists.{RightList, right_list, characters_named}

-- the numbers in a set, in rising order
abbrev pub bits : ℕ → List ℕ
bits s = keep (has s) (listed 0 32 (λ i. i))

-- each number has a name, where there are S own states
module _ (l : Lists) where
  abbrev pub NamedPattern : M.Pattern → Type 0
  NamedPattern M.everyone = Unit {0}
  NamedPattern (M.of_class c) = c < length (class_names l)

  abbrev pub NamedSet : ℕ → Type 0
  NamedSet s = (0 < s) × (s < 2 ^ 32) × Every (λ i. i < length (child_names l)) (bits s)

  abbrev pub NamedGuard : M.Guard → Type 0
  NamedGuard (M.atom k p s) = NamedPattern p × NamedSet s
  NamedGuard (M.both g h) = NamedGuard g × NamedGuard h
  NamedGuard (M.either g h) = NamedGuard g × NamedGuard h
  NamedGuard (M.opposite g) = NamedGuard g

  unfoldable mutual
    pub NamedPart : M.Part → ℕ → Type 0
    NamedPart M.end S = Unit {0}
    NamedPart (M.◌then◌ s p) S = NamedStatement s S × NamedPart p S

    pub NamedStatement : M.Statement → ℕ → Type 0
    NamedStatement (M.send c p) S = (c < length (command_names l)) × NamedPattern p
    NamedStatement (M.go_to q) S = q < S
    NamedStatement (M.branch g a b) S = NamedGuard g × NamedPart a S × NamedPart b S

  abbrev pub NamedWhen : ℕ → List M.Action → M.When → Type 0
  NamedWhen S actions w = NamedGuard w.guard × ReferrerNumbers w.referrer S (length actions)

  abbrev pub NamedAction : ℕ → M.Action → Type 0
  NamedAction S a = (a.command < length (command_names l)) × NamedPart a.body S

  pub record NamedState (S : ℕ) (s : M.State) : Type 0 where
    pub whens : Every (NamedWhen S s.actions) s.whens
    pub actions : Every (NamedAction S) s.actions
    pub none_twice : NoneTwice s.actions

-- what holds of each number that passes holds of those that are kept
every_kept : (f : ℕ → Bool) (P : ℕ → Type 0) (i n : ℕ) → ((j : ℕ) → j < i + n → f j ≡ true → P j) → Every P (keep f (listed i n (λ j. j)))
unfolding keep listed
every_kept f P i zero h = tt
every_kept f P i (suc n) h = go (f i) refl (every_kept f P (suc i) n (λ j b e. h j (omega arith) e))
  where
    go : (b : Bool) → f i ≡ b → Every P (keep f (listed (suc i) n (λ j. j))) → Every P (kept b i (keep f (listed (suc i) n (λ j. j))))
    go true e r = (h i (omega arith) e, r)
    go false e r = r

bits_below : (n s : ℕ) → bits_named n s ≡ true → Every (λ i. i < n) (bits s)
unfolding bits_named
bits_below n s h =
    every_kept (has s) (λ i. i < n) 0 32
    (λ i b e. ltb-true i n (let k : (not (has s i) || ltb i n) ≡ true = each_elim 32 (λ i. not (has s i) || ltb i n) h i b in rw e at k))

module _ (l : Lists) (K S : ℕ) (e : K ≡ length (class_names l)) where
  abbrev N : ℕ
  N = length (child_names l)

  abbrev C : ℕ
  C = length (command_names l)

  pattern_is : (p : M.Pattern) → PatternNumbers p K → NamedPattern l p
  pattern_is M.everyone h = tt
  pattern_is (M.of_class c) h = let z : c < length (class_names l) = omega arith in z

  guard_is : (g : M.Guard) → GuardNumbers g K → guard_named N g ≡ true → NamedGuard l g
  unfolding guard_named
  guard_is (M.atom k p s) h t = (pattern_is p h.0, (h.1, h.2, bits_below N s t))
  guard_is (M.both g q) h t =
      (guard_is g h.0 (and_left (guard_named N g) (guard_named N q) t), guard_is q h.1 (and_right (guard_named N g) (guard_named N q) t))
  guard_is (M.either g q) h t =
      (guard_is g h.0 (and_left (guard_named N g) (guard_named N q) t), guard_is q h.1 (and_right (guard_named N g) (guard_named N q) t))
  guard_is (M.opposite g) h t = guard_is g h t

  mutual
    unfolding part_named PartNumbers NamedPart

    part_is : (p : M.Part) → PartNumbers p K S → part_named N C p ≡ true → NamedPart l p S
    part_is M.end h t = tt
    part_is (M.◌then◌ s p) h t = (
      statement_is s h.0 (and_left (statement_named N C s) (part_named N C p) t),
      part_is p h.1 (and_right (statement_named N C s) (part_named N C p) t),
    )

    statement_is : (s : M.Statement) → StatementNumbers s K S → statement_named N C s ≡ true → NamedStatement l s S
    statement_is (M.send c p) h t = (ltb-true c C t, pattern_is p h.1)
    statement_is (M.go_to q) h t = h
    statement_is (M.branch g a b) h t =
        let parts : Bool = part_named N C a && part_named N C b in
        let k = and_right (guard_named N g) parts t in (
          guard_is g h.0 (and_left (guard_named N g) parts t),
          part_is a h.1 (and_left (part_named N C a) (part_named N C b) k),
          part_is b h.2 (and_right (part_named N C a) (part_named N C b) k),
        )

  whens_are : (actions : List M.Action) (ws : List M.When) → Every (WhenNumbers K S (length actions)) ws → every (λ w. guard_named N w.guard) ws ≡ true
      → Every (NamedWhen l S actions) ws
  unfolding every
  whens_are actions [] h t = tt
  whens_are actions (w ∷ ws) h t =
      let here : Bool = guard_named N w.guard in
      let rest : Bool = every (λ w. guard_named N w.guard) ws in
      ((guard_is w.guard h.0.0 (and_left here rest t), h.0.1), whens_are actions ws h.1 (and_right here rest t))

  actions_are : (xs : List M.Action) → Every (ActionNumbers K S) xs → every (action_named N C) xs ≡ true → Every (NamedAction l S) xs
  unfolding every action_named
  actions_are [] h t = tt
  actions_are (a ∷ xs) h t =
      let t0 = and_left (action_named N C a) (every (action_named N C) xs) t in
      let command : Bool = ltb a.command C in
      let body : Bool = part_named N C a.body in (
        (ltb-true a.command C (and_left command body t0), part_is a.body h.0.1 (and_right command body t0)),
        actions_are xs h.1 (and_right (action_named N C a) (every (action_named N C) xs) t),
      )

  state_is : (s : M.State) → StateNumbers K S s → state_named N C s ≡ true → NamedState l S s
  unfolding state_named
  state_is s h t =
      let whens : Bool = every (λ w. guard_named N w.guard) s.whens in
      let actions : Bool = every (action_named N C) s.actions in
      record {
        whens = whens_are s.actions s.whens h.whens (and_left whens actions t);
        actions = actions_are s.actions h.actions (and_right whens actions t);
        none_twice = h.none_twice;
      }

  states_are : (ss : List M.State) → Every (StateNumbers K S) ss → every (state_named N C) ss ≡ true → Every (NamedState l S) ss
  unfolding every
  states_are [] h t = tt
  states_are (s ∷ ss) h t = (
    state_is s h.0 (and_left (state_named N C s) (every (state_named N C) ss) t),
    states_are ss h.1 (and_right (state_named N C s) (every (state_named N C) ss) t),
  )

-- all that the names tell
pub record Nameable (n : Named) (c : M.Class) : Type 0 where
  pub own : is_name (characters n.own_name) ≡ true
  pub table : RightList 32 n.own_states
  pub long : length n.own_states ≡ 32 * length c.states
  pub names : RightList 32 n.lists.names
  pub commands : RightList 32 n.lists.commands
  pub classes : RightList 36 n.lists.classes
  pub sets : class_sets n.lists ≡ c.children
  pub number : length (records_in 32 n.own_states) ≡ length c.states
  pub states : Every (NamedState n.lists (length (records_in 32 n.own_states))) c.states

-- there are as many class names as sets
classes_number : (l : Lists) → length (class_sets l) ≡ length (class_names l)
unfolding class_sets records_in
classes_number l = length_listed 0 (length l.classes / 36) _ ∙ sym (length_listed 0 (length l.classes / 36) _)

-- as many records as the table has names
table_number : (b : List ℕ) (n : ℕ) → length b ≡ 32 * n → length (records_in 32 b) ≡ n
unfolding records_in
table_number b n e = length_listed 0 (length b / 32) _ ∙ (let z : length b / 32 ≡ n = omega arith in z)

-- tests that all hold
three : (a b c : Bool) → (a && (b && c)) ≡ true → (a ≡ true) × (b ≡ true) × (c ≡ true)
three a b c h = let k = and_right a (b && c) h in (and_left a (b && c) h, and_left b c k, and_right b c k)

four : (a b c d : Bool) → (a && (b && (c && d))) ≡ true → (a ≡ true) × (b ≡ true) × (c ≡ true) × (d ≡ true)
four a b c d h = let (x, y, z) = three a b (c && d) h in (x, y, and_left c d z, and_right c d z)

-- the own name, the table, and how long it is
own_told : (n : Named) (c : M.Class) → own_right n c ≡ true
    → (record_right n.own_name ≡ true) × (list_right 32 n.own_states ≡ true) × (length n.own_states ≡ 32 * length c.states)
unfolding own_right
own_told n c h =
    let long : Bool = eqb (length n.own_states) (32 * length c.states) in
    let (x, r, t, e) = four (eqb (length n.own_name) 32) (record_right n.own_name) (list_right 32 n.own_states) long h in
    (r, t, eqb-true (length n.own_states) (32 * length c.states) e)

-- the three lists
lists_told : (l : Lists) → lists_right l ≡ true → (list_right 32 l.names ≡ true) × (list_right 32 l.commands ≡ true) × (list_right 36 l.classes ≡ true)
unfolding lists_right
lists_told l h =
    let sets : Bool = every (bits_named (length (child_names l))) (class_sets l) in
    let (x, y, z, t) = four (list_right 32 l.names) (list_right 32 l.commands) (list_right 36 l.classes) sets h in
    (x, y, z)

-- THE NAMES of a class whose names are right
pub nameable : (n : Named) (c : M.Class) → names_right n c ≡ true → Numbers c → Nameable n c
unfolding names_right lent_right class_named
nameable n c h k =
    let l : Lists = n.lists in
    let equal : Bool = same (class_sets l) c.children in
    let (own, lent, named) = three (own_right n c) (lists_right l && (lists_within l && equal)) (class_named l c) h in
    let (name, table, long) = own_told n c own in
    let (lists, within, e) = three (lists_right l) (lists_within l) equal lent in
    let (names, commands, classes) = lists_told l lists in
    let sets = same_equal (class_sets l) c.children e in
    let number = table_number n.own_states (length c.states) long in
    record {
      own = characters_named n.own_name name;
      table = right_list 32 n.own_states table;
      long = long;
      names = right_list 32 l.names names;
      commands = right_list 32 l.commands commands;
      classes = right_list 36 l.classes classes;
      sets = sets;
      number = number;
      states =
          subst (λ (m : ℕ). Every (NamedState l m) c.states) (sym number)
          (states_are l (length c.children) (length c.states) (ap length (sym sets) ∙ classes_number l) c.states k.states named);
    }
