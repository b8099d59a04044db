-- The names ahead in the words of a text tree: its own states, and the actions of a state.
-- Assumes nothing.
use Prim.Native.Nat.{ℕ}
use mathlib.Core.Path.{◌≡◌, refl, sym, ◌∙◌, ap}
use mathlib.Core.Bool.{false}
use mathlib.Core.List.{List, [], ◌∷◌, map}
use Rattle.grammar.specs.Grammar.{Token, fixed, name, Name, Row, none, ◌then◌, Action, State, Text, end_word, row_words, when_words, action_words, state_words, text_words}
use Rattle.grammar.specs.Words.{words}
use Rattle.grammar.specs.Reading.{Says}
use Rattle.grammar.specs.Kinds.{kind_of, bytes_of}
use Rattle.naming.specs.Naming.{in_order, all_states, own_names, action_names}
use Rattle.words.specs.Scanning.{words_from, tokens_from}
use Rattle.own.specs.Ahead.{first_bytes, names_ahead, names_from}
use Rattle.own.proofs.Passing.{other_kind, inner, Passes, when_pass, part_pass, row_pass}

-- own states and actions are told by words that stand inside of no clause
pub ahead_passes : (kind stop : ℕ) → inner kind ≡ false → inner stop ≡ false → Passes (names_ahead kind stop)
unfolding names_ahead
ahead_passes kind stop a b w ws h = rw (other_kind inner stop (kind_of w) b h, other_kind inner kind (kind_of w) a h)

abbrev command_of : Action → Name
command_of a = a.command

-- the actions of a state
actions_row : (as' : Row Action) (xs : List Action) (rest : List Token) → names_ahead 3 2 rest ≡ map command_of xs
    → names_ahead 3 2 (row_words action_words as' rest) ≡ map command_of (in_order as' xs)
unfolding row_words in_order action_words names_ahead kind_of first_bytes bytes_of
actions_row none xs rest h = h
actions_row (as' then a) xs rest h =
    actions_row as' (a ∷ xs) (action_words a rest)
    (ap (λ (ns : List Name). a.command ∷ ns) (part_pass (names_ahead 3 2) (ahead_passes 3 2 refl refl) a.body rest ∙ h))

-- from the word behind state: on
pub state_actions : (s : State) (rest : List Token) → names_ahead 3 2 rest ≡ []
    → names_ahead 3 2 (name s.own ∷ row_words when_words s.whens (row_words action_words s.actions rest)) ≡ action_names s
unfolding action_names names_ahead kind_of
state_actions s rest h =
    row_pass (names_ahead 3 2) when_words (when_pass (names_ahead 3 2) (ahead_passes 3 2 refl refl)) s.whens (row_words action_words s.actions rest)
    ∙ actions_row s.actions [] rest h

-- a state's words, for own states
action_pass : (a : Action) (rest : List Token) → names_ahead 2 26 (action_words a rest) ≡ names_ahead 2 26 rest
unfolding action_words names_ahead kind_of
action_pass a rest = part_pass (names_ahead 2 26) (ahead_passes 2 26 refl refl) a.body rest

state_named : (s : State) (rest : List Token) → names_ahead 2 26 (state_words s rest) ≡ s.own ∷ names_ahead 2 26 rest
unfolding state_words names_ahead kind_of first_bytes bytes_of
state_named s rest =
    ap (λ (ns : List Name). s.own ∷ ns)
    (row_pass (names_ahead 2 26) when_words (when_pass (names_ahead 2 26) (ahead_passes 2 26 refl refl)) s.whens (row_words action_words s.actions rest)
    ∙ row_pass (names_ahead 2 26) action_words action_pass s.actions rest)

own_row : (ss : Row State) (xs : List State) (rest : List Token) → names_ahead 2 26 rest ≡ map (λ s. s.own) xs
    → names_ahead 2 26 (row_words state_words ss rest) ≡ map (λ s. s.own) (in_order ss xs)
unfolding row_words in_order
own_row none xs rest h = h
own_row (ss then s) xs rest h =
    own_row ss (s ∷ xs) (state_words s rest) (state_named s rest ∙ ap (λ (ns : List Name). s.own ∷ ns) h)

-- the own states of a text
pub own_ahead : (t : Text) → names_ahead 2 26 (text_words t) ≡ own_names t
unfolding text_words own_names all_states names_ahead kind_of
own_ahead t = own_row t.earlier (t.last ∷ []) (state_words t.last (fixed end_word ∷ [])) (state_named t.last (fixed end_word ∷ []))

pub own_from : (text : List ℕ) (t : Text) → Says text t → names_from text 2 26 0 ≡ own_names t
unfolding names_from tokens_from words_from words
own_from text t s = ap (names_ahead 2 26) (sym s) ∙ own_ahead t
