-- What is told by the words ahead: how many clauses or statements, and which command.
-- Assumes nothing.
use Rattle.std.specs.Prelude.{ℕ, ◌%◌, Bool, false, ◌||◌, Option, Some, None, List, [], ◌∷◌, eqb}
use Rattle.model.specs.Words.{choose}
use Rattle.grammar.specs.Grammar.{Token, Name}
use Rattle.grammar.specs.Kinds.{kind_of, bytes_of}
use Rattle.naming.specs.NameLists.{padded, records_in}
use Rattle.lists.specs.Lent.{found_from}
use Rattle.sizes.specs.Counting.{tick}

-- the kind is one of these
abbrev pub one_of : List ℕ → ℕ → Bool
one_of [] k = false
one_of (j ∷ js) k = eqb k j || one_of js k

-- how many words of the kinds that are counted stand in these words, up to the first of a kind that stops
unfoldable pub number_ahead : List ℕ → List ℕ → List Token → ℕ
number_ahead counted stops [] = 0
number_ahead counted stops (w ∷ ws) = choose (one_of stops (kind_of w)) (λ _. 0) (λ _. tick (one_of counted (kind_of w)) (number_ahead counted stops ws))

-- the words when, and the words action:, up to the next state:
abbrev pub whens_ahead : List Token → ℕ
whens_ahead = number_ahead (7 ∷ []) (2 ∷ [])

abbrev pub actions_ahead : List Token → ℕ
actions_ahead = number_ahead (3 ∷ []) (2 ∷ [])

-- the first words of statements, up to the next action: or state:
abbrev pub statements_ahead : List Token → ℕ
statements_ahead = number_ahead (8 ∷ 9 ∷ 11 ∷ []) (2 ∷ 3 ∷ [])

-- a number that was found, in a byte
abbrev pub numbered : Option ℕ → ℕ
numbered (Some i) = i % 256
numbered None = 0

-- the number of a command in a list of them
unfoldable pub command_number : List ℕ → Name → ℕ
command_number commands n = numbered (found_from 0 (records_in 32 commands) (padded n))

-- where the first of these words names it
unfoldable pub command_ahead : List ℕ → List Token → ℕ
command_ahead commands [] = 0
command_ahead commands (w ∷ ws) = choose (eqb (kind_of w) 0) (λ _. command_number commands (bytes_of w)) (λ _. 0)
