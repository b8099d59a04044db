-- Names to numbers: the class that a text stands for, with the lists that it is read with. Brackets go here.
-- Assumes nothing.
use Rattle.std.specs.Prelude.{ℕ, ◌+◌, ◌^◌, Bool, true, false, List, [], ◌∷◌, ◌++◌, map}
use Rattle.model.specs.Words.{has}
use Rattle.model.specs.Tree as M
use Rattle.grammar.specs.Grammar as G
use Rattle.grammar.specs.Grammar.{Name, Row, none, ◌then◌}
use Rattle.grammar.specs.Words.{position}
use Rattle.naming.specs.NameLists.{Lists, child_names, command_names, class_names, class_sets, number_in, padded}

-- the entries of a row, in front of others
unfoldable pub in_order : {A : Type 0} → Row A → List A → List A
in_order none rest = rest
in_order (xs then x) rest = in_order xs (x ∷ rest)

unfoldable pub all_states : G.Text → List G.State
all_states t = in_order t.earlier (t.last ∷ [])

-- own states are numbered as they stand in the text, and a state's action clauses too
unfoldable pub own_names : G.Text → List Name
own_names t = map (λ s. s.own) (all_states t)

unfoldable pub action_names : G.State → List Name
action_names s = map (λ a. a.command) (in_order s.actions [])

-- the set with bit n, each counted once
abbrev pub with_bit : Bool → ℕ → ℕ → ℕ
with_bit true s n = s
with_bit false s n = s + 2 ^ n

unfoldable pub names_set : List (List ℕ) → G.Names → ℕ
names_set l (G.one n) = 2 ^ number_in l n
names_set l (G.more ns n) = with_bit (has (names_set l ns) (number_in l n)) (names_set l ns) (number_in l n)

unfoldable pub set_of : List (List ℕ) → G.Set → ℕ
set_of l (G.single n) = 2 ^ number_in l n
set_of l (G.braces ns) = names_set l ns

unfoldable pub pattern_of : Lists → G.Kin → M.Pattern
pattern_of l G.children = M.everyone
pattern_of l (G.kin n) = M.of_class (number_in (class_names l) n)

unfoldable pub kind_of : G.Quantifier → G.Side → M.Kind
kind_of G.any G.inside = M.any_in
kind_of G.any G.outside = M.any_not_in
kind_of G.all G.inside = M.all_in
kind_of G.all G.outside = M.all_not_in

unfoldable mutual
  pub guard_of : G.Guard → Lists → M.Guard
  guard_of (G.just c) l = conj_of c l
  guard_of (G.or g c) l = M.either (guard_of g l) (conj_of c l)

  pub conj_of : G.Conj → Lists → M.Guard
  conj_of (G.only u) l = operand_of u l
  conj_of (G.and c u) l = M.both (conj_of c l) (operand_of u l)

  pub operand_of : G.Operand → Lists → M.Guard
  operand_of (G.not u) l = M.opposite (operand_of u l)
  operand_of (G.brackets g) l = guard_of g l
  operand_of (G.atom q k s t) l = M.atom (kind_of q s) (pattern_of l k) (set_of (child_names l) t)

module _ (l : Lists) (own : List Name) where
  -- statements, in front of others; an empty else-part is none
  unfoldable pub part_of : G.Part → M.Part → M.Part
  part_of G.nothing rest = rest
  part_of (G.send p c k) rest = part_of p (M.◌then◌ (M.send (number_in (command_names l) c) (pattern_of l k)) rest)
  part_of (G.go_to p s) rest = part_of p (M.◌then◌ (M.go_to (position own s)) rest)
  part_of (G.if_then p g q) rest = part_of p (M.◌then◌ (M.branch (guard_of g l) (part_of q M.end) M.end) rest)
  part_of (G.if_else p g q r) rest = part_of p (M.◌then◌ (M.branch (guard_of g l) (part_of q M.end) (part_of r M.end)) rest)

  -- DO: the number of the action clause within its state; the state behind stay_in_state is not kept
  unfoldable pub referrer_of : List Name → G.Referrer → M.Referrer
  referrer_of actions (G.move_to n) = M.move_to (position own n)
  referrer_of actions (G.run n) = M.run (position actions n)
  referrer_of actions G.stay = M.stay
  referrer_of actions (G.stay_in n) = M.stay

  unfoldable pub when_of : List Name → G.When → M.When
  when_of actions w = record { guard = guard_of w.guard l; referrer = referrer_of actions w.referrer }

  unfoldable pub action_of : G.Action → M.Action
  action_of a = record { command = number_in (command_names l) a.command; body = part_of a.body M.end }

  unfoldable pub state_of : G.State → M.State
  state_of s = record { whens = map (when_of (action_names s)) (in_order s.whens []); actions = map action_of (in_order s.actions []) }

-- the class of a text
unfoldable pub class_in : Lists → G.Text → M.Class
class_in l t = record { children = class_sets l; states = map (state_of l (own_names t)) (all_states t) }

-- the table of own states: their names' records, in order
unfoldable pub joined : List (List ℕ) → List ℕ
joined [] = []
joined (b ∷ bs) = b ++ joined bs

unfoldable pub table_of : G.Text → List ℕ
table_of t = joined (map padded (own_names t))
