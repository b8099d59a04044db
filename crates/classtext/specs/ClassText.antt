-- What the code that writes clauses and states as text leaves in the lent buffer.
-- Assumes nothing.
use Rattle.std.specs.Prelude.{ℕ, ◌+◌, ◌<◌, ◌≤◌, List, ◌++◌}
use Rattle.model.specs.Tree.{Referrer, move_to, run, stay, Action}
use Rattle.grammar.specs.Words.{spelled}
use Rattle.records.specs.Bytes.{in_fours}
use Rattle.bodies.specs.Clauses.{when_count, first_when, action_command}
use Rattle.sheet.specs.Contents.{body, bodies}
use Rattle.sheet.specs.Reading.{when_in, action_in, state_in}
use Rattle.naming.specs.NameLists.{Lists}
use Rattle.encoding.specs.Encoding.{gathered}
use Rattle.writings.specs.Layout.{name_at, when_text, action_text, state_text}

-- a referrer in state q, whose action clauses stand from a place of the body on
unfoldable pub referrer_words : List ℕ → ℕ → ℕ → List ℕ → List ℕ → Referrer → List ℕ
referrer_words actions first q own commands (move_to t) = spelled "move_to " ++ name_at 32 own t
referrer_words actions first q own commands (run a) = spelled "do " ++ name_at 32 commands (action_command actions (first + a))
referrer_words actions first q own commands stay = spelled "stay_in_state " ++ name_at 32 own q

-- the action clauses of state q of a sheet
abbrev pub own_actions : List ℕ → ℕ → List Action
own_actions b q = (state_in (bodies b) q).actions

-- when clause w is one of state q
pub record WhenOf (b : List ℕ) (q w : ℕ) : Type 0 where
  pub state : q < in_fours (body b 1)
  pub low : first_when (body b 1) q ≤ w
  pub high : w < first_when (body b 1) q + when_count (body b 1) q

-- its text
abbrev pub when_in_text : List ℕ → ℕ → List ℕ → Lists → ℕ → List ℕ
when_in_text b q own l w = when_text own l q (own_actions b q) (when_in (bodies b) w)

-- the text of action clause a
abbrev pub action_in_text : List ℕ → List ℕ → Lists → ℕ → List ℕ
action_in_text b own l a = action_text own l (action_in (bodies b) a)

-- the text of state q
abbrev pub state_in_text : List ℕ → ℕ → List ℕ → Lists → List ℕ
state_in_text b q own l = state_text own l q (state_in (bodies b) q)

-- all when clauses of state q, all its action clauses, all states
abbrev pub whens_text : List ℕ → ℕ → List ℕ → Lists → List ℕ
whens_text b q own l = gathered (when_text own l q (own_actions b q)) (state_in (bodies b) q).whens

abbrev pub actions_text : List ℕ → ℕ → List ℕ → Lists → List ℕ
actions_text b q own l = gathered (action_text own l) (state_in (bodies b) q).actions
