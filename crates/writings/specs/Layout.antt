-- The text of a class with its names, in one fixed layout. Every line is indented by two blanks a level and ended by a line feed; each
-- atom and each operator stands in brackets.
-- Assumes nothing.
use Rattle.std.specs.Prelude.{ℕ, zero, suc, List, [], ◌∷◌, ◌++◌, map, get_or}
use Rattle.model.specs.Words.{keep, listed, has}
use Rattle.model.specs.Tree.{Pattern, everyone, of_class, Kind, any_in, any_not_in, all_in, all_not_in, Guard, atom, both, either, opposite, Referrer, move_to, run, stay, When, Statement, send, go_to, branch, Part, end, ◌then◌, Action, State, Class, no_action}
use Rattle.grammar.specs.Grammar.{Name}
use Rattle.grammar.specs.Words.{spelled}
use Rattle.encoding.specs.Encoding.{gathered}
use Rattle.naming.specs.NameLists.{Lists, characters, records_in}

-- what is lent beside a sheet: the class's own name and the table of own states, as records, and the lists
pub record Named : Type 0 where
  pub own_name : List ℕ
  pub own_states : List ℕ
  pub lists : Lists

-- name i of a list whose records have that many bytes; none past its end
unfoldable pub name_at : ℕ → List ℕ → ℕ → Name
name_at size b i = characters (get_or (records_in size b) i [])

-- two blanks a level
unfoldable pub indent : ℕ → List ℕ
indent zero = []
indent (suc v) = 32 ∷ 32 ∷ indent v

-- what stands in a line, at its level
unfoldable pub line : ℕ → List ℕ → List ℕ
line v words = indent v ++ words ++ (10 ∷ [])

-- the names of a set, in rising order
unfoldable pub names_of : List ℕ → ℕ → List Name
names_of names s = map (name_at 32 names) (keep (has s) (listed 0 32 (λ i. i)))

-- , NAME, NAME
unfoldable pub commas : List Name → List ℕ
commas [] = []
commas (n ∷ ns) = spelled ", " ++ n ++ commas ns

-- NAME where there is one, else {NAME, NAME, NAME}
unfoldable pub set_text : List Name → List ℕ
set_text [] = spelled "{}"
set_text (n ∷ []) = n
set_text (n ∷ (m ∷ ns)) = spelled "{" ++ n ++ commas (m ∷ ns) ++ spelled "}"

unfoldable pub quantifier_text : Kind → List ℕ
quantifier_text any_in = spelled "$ANY$"
quantifier_text any_not_in = spelled "$ANY$"
quantifier_text all_in = spelled "$ALL$"
quantifier_text all_not_in = spelled "$ALL$"

unfoldable pub side_text : Kind → List ℕ
side_text any_in = spelled " in_state "
side_text any_not_in = spelled " not_in_state "
side_text all_in = spelled " in_state "
side_text all_not_in = spelled " not_in_state "

unfoldable pub kin_text : List ℕ → Pattern → List ℕ
kin_text classes everyone = spelled "FwCHILDREN"
kin_text classes (of_class c) = name_at 36 classes c

unfoldable pub guard_text : List ℕ → List ℕ → Guard → List ℕ
guard_text names classes (atom k p s) =
    spelled "( " ++ quantifier_text k ++ kin_text classes p ++ side_text k ++ set_text (names_of names s) ++ spelled " )"
guard_text names classes (both g h) = spelled "( " ++ guard_text names classes g ++ spelled " and " ++ guard_text names classes h ++ spelled " )"
guard_text names classes (either g h) = spelled "( " ++ guard_text names classes g ++ spelled " or " ++ guard_text names classes h ++ spelled " )"
guard_text names classes (opposite g) = spelled "( not " ++ guard_text names classes g ++ spelled " )"

-- an else-part at a level, of which the body is this; an empty one is not written
abbrev pub else_text : Part → ℕ → List ℕ → List ℕ
else_text end v body = []
else_text (s then p) v body = line v (spelled "else") ++ body

-- with the table of own states and the lists
module _ (own : List ℕ) (l : Lists) where
  -- the name of an own state, of a command, and a guard
  unfoldable pub own_text : ℕ → List ℕ
  own_text q = name_at 32 own q

  unfoldable pub command_text : ℕ → List ℕ
  command_text m = name_at 32 l.commands m

  abbrev pub condition : Guard → List ℕ
  condition g = guard_text l.names l.classes g

  unfoldable mutual
    pub part_text : Part → ℕ → List ℕ
    part_text end v = []
    part_text (s then p) v = statement_text s v ++ part_text p v

    pub statement_text : Statement → ℕ → List ℕ
    statement_text (send m p) v = line v (spelled "do " ++ command_text m ++ spelled " $ALL$" ++ kin_text l.classes p)
    statement_text (go_to q) v = line v (spelled "move_to " ++ own_text q)
    statement_text (branch g a b) v =
        line v (spelled "if " ++ condition g ++ spelled " then") ++ part_text a (suc v) ++ else_text b v (part_text b (suc v)) ++ line v (spelled "endif")

  -- in state q, which has these action clauses
  unfoldable pub referrer_text : ℕ → List Action → Referrer → List ℕ
  referrer_text q actions (move_to t) = spelled "move_to " ++ own_text t
  referrer_text q actions (run a) = spelled "do " ++ command_text (get_or actions a no_action).command
  referrer_text q actions stay = spelled "stay_in_state " ++ own_text q

  unfoldable pub when_text : ℕ → List Action → When → List ℕ
  when_text q actions w = line 2 (spelled "when " ++ condition w.guard ++ spelled " " ++ referrer_text q actions w.referrer)

  unfoldable pub action_text : Action → List ℕ
  action_text a = line 2 (spelled "action: " ++ command_text a.command) ++ part_text a.body 3

  unfoldable pub state_text : ℕ → State → List ℕ
  state_text q s = line 1 (spelled "state: " ++ own_text q) ++ gathered (when_text q s.actions) s.whens ++ gathered action_text s.actions

  -- states q, q + 1, and so on
  unfoldable pub states_text : ℕ → List State → List ℕ
  states_text q [] = []
  states_text q (s ∷ ss) = state_text q s ++ states_text (suc q) ss

-- THE TEXT of a class
unfoldable pub class_text : Named → Class → List ℕ
class_text n c = line 0 (spelled "class: $FWPART_$TOP$" ++ characters n.own_name) ++ states_text n.own_states n.lists 0 c.states
