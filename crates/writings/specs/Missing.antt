-- 17, of a class whose text is asked for: every list is right, the table and the classes are the class's, and no name is missing that is
-- to be written. A guard record that nothing uses is not written, and what it names is not missed.
-- Assumes nothing.
use Rattle.std.specs.Prelude.{ℕ, ◌*◌, Bool, true, ◌&&◌, eqb, ltb, length}
use Rattle.model.specs.Words.{every}
use Rattle.model.specs.Tree.{Guard, atom, both, either, opposite, Statement, send, go_to, branch, Part, end, ◌then◌, Action, State, Class}
use Rattle.grammar.specs.Words.{same}
use Rattle.naming.specs.NameLists.{Lists, child_names, command_names, class_sets, record_right, list_right, bits_named, lists_right, lists_within}
use Rattle.writings.specs.Layout.{Named}

-- the child state names of a guard, where there are n
unfoldable pub guard_named : ℕ → Guard → Bool
guard_named n (atom k p s) = bits_named n s
guard_named n (both g h) = guard_named n g && guard_named n h
guard_named n (either g h) = guard_named n g && guard_named n h
guard_named n (opposite g) = guard_named n g

-- those of statements, and their commands, where there are m
unfoldable mutual
  pub part_named : ℕ → ℕ → Part → Bool
  part_named n m end = true
  part_named n m (s then p) = statement_named n m s && part_named n m p

  pub statement_named : ℕ → ℕ → Statement → Bool
  statement_named n m (send c p) = ltb c m
  statement_named n m (go_to q) = true
  statement_named n m (branch g a b) = guard_named n g && (part_named n m a && part_named n m b)

unfoldable pub action_named : ℕ → ℕ → Action → Bool
action_named n m a = ltb a.command m && part_named n m a.body

unfoldable pub state_named : ℕ → ℕ → State → Bool
state_named n m s = every (λ w. guard_named n w.guard) s.whens && every (action_named n m) s.actions

unfoldable pub class_named : Lists → Class → Bool
class_named l c = every (state_named (length (child_names l)) (length (command_names l))) c.states

-- the own name is one record; the table has one for each own state
unfoldable pub own_right : Named → Class → Bool
own_right n c =
    eqb (length n.own_name) 32 && (record_right n.own_name
    && (list_right 32 n.own_states && eqb (length n.own_states) (32 * length c.states)))

-- the lists are in order, none is too long, and the classes are the class's, with its name sets
unfoldable pub lent_right : Named → Class → Bool
lent_right n c = lists_right n.lists && (lists_within n.lists && same (class_sets n.lists) c.children)

-- no refusal 17
unfoldable pub names_right : Named → Class → Bool
names_right n c = own_right n c && (lent_right n c && class_named n.lists c)
