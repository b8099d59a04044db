-- The records of the states and of the action clauses that words stand for, and what the functions that write them promise.
-- Assumes nothing.
use Rattle.std.specs.Prelude.{ℕ, ◌/◌, ◌%◌, ◌≡◌, true, List, [], ◌∷◌, eqb, replicate}
use Rattle.model.specs.Tree.{atom, any_in, everyone, stay, State, no_action}
use Rattle.model.specs.Words.{kept}
use Rattle.grammar.specs.Grammar.{Token, Text}
use Rattle.grammar.specs.Words.{words, tokens}
use Rattle.grammar.specs.Kinds.{kind_of}
use Rattle.grammar.specs.Reading.{Says}
use Rattle.naming.specs.NameLists.{Lists}
use Rattle.naming.specs.Naming.{class_in}
use Rattle.naming.specs.Known.{text_known}
use Rattle.encoding.specs.Records.{Four, four, fours}
use Rattle.encoding.specs.Encoding.{state_record, state_records, state_bytes, action_records}
use Rattle.encoding.specs.Within.{Within}
use Rattle.pen.specs.Writing.{Puts}
use Rattle.whens.specs.Ahead.{low4}
use Rattle.clauses.specs.Ahead.{whens_ahead, actions_ahead, statements_ahead, command_ahead}

-- a state of that many clauses, whatever they are
abbrev pub of_so_many : ℕ → ℕ → State
of_so_many whens actions =
    record { whens = replicate whens (record { guard = atom any_in everyone 0; referrer = stay }); actions = replicate actions no_action }

-- its record, cut to bytes
unfoldable pub state_as : ℕ → ℕ → Four
state_as whens actions = low4 (state_record (of_so_many whens actions) 0 0)

-- the record of an action clause, cut to bytes
abbrev pub action_as : ℕ → ℕ → Four
action_as command statements = four command 0 (statements % 256) (statements / 256 % 256)

-- the states of these words
unfoldable pub states_from : List Token → List Four
states_from [] = []
states_from (w ∷ ws) = kept (eqb (kind_of w) 2) (state_as (whens_ahead ws) (actions_ahead ws)) (states_from ws)

-- the action clauses of these words
unfoldable pub actions_from : List ℕ → List Token → List Four
actions_from commands [] = []
actions_from commands (w ∷ ws) =
    kept (eqb (kind_of w) 3) (action_as (command_ahead commands ws) (statements_ahead ws)) (actions_from commands ws)

-- the states of the words stand in the buffer from a place on: of a text, those of its class
pub record WritesStates (text before : List ℕ) (at : ℕ) (after : List ℕ) (r : ℕ) : Type 0 where
  pub told : Puts (state_bytes (states_from (tokens (words text)))) before at after r
  pub of_text : (l : Lists) (t : Text) → Says text t → Within (class_in l t) → Puts (state_bytes (state_records (class_in l t).states 0 0)) before at after r

-- the action clauses of the words stand in the buffer from a place on: of a text whose names are known, those of its class
pub record WritesActions (text commands before : List ℕ) (at : ℕ) (after : List ℕ) (r : ℕ) : Type 0 where
  pub told : Puts (fours (actions_from commands (tokens (words text)))) before at after r
  pub of_text : (l : Lists) (t : Text) → l.commands ≡ commands → Says text t → text_known l t ≡ true → Within (class_in l t)
      → Puts (fours (action_records (class_in l t))) before at after r
