-- 17, the text, word by word: what is asked of each word by the word before it.
-- Assumes nothing.
use Rattle.std.specs.Prelude.{ℕ, ◌≡◌, Bool, true, false, ◌&&◌, ◌||◌, List, [], ◌∷◌, eqb}
use Rattle.model.specs.Words.{choose}
use Rattle.grammar.specs.Grammar.{Token, Name, Text}
use Rattle.grammar.specs.Kinds.{kind_of, bytes_of}
use Rattle.grammar.specs.Reading.{Says}
use Rattle.naming.specs.NameLists.{Lists, child_names, command_names, class_names, listed_in, none_twice}
use Rattle.naming.specs.Known.{among, text_known}
use Rattle.own.specs.Ahead.{names_ahead, names_from}
use Rattle.own.specs.Held.{all_names, Holds}

-- the answer for a text and lists: of every tree that the text says
abbrev pub Known : List ℕ → Lists → Bool → Type 0
Known text l r = (t : Text) → Says text t → r ≡ text_known l t

-- behind a word of these kinds a command, a child class, a child state name, an own state
abbrev pub before_command : ℕ → Bool
before_command k = eqb k 3 || eqb k 9

abbrev pub before_class : ℕ → Bool
before_class k = eqb k 5 || eqb k 6

abbrev pub before_child : ℕ → Bool
before_child k = (eqb k 18 || eqb k 19) || (eqb k 23 || eqb k 25)

abbrev pub before_own : ℕ → Bool
before_own k = eqb k 8 || eqb k 10

-- a name is one of the state's actions, where a do refers to one: before the first action:
unfoldable pub action_for : Bool → List Name → ℕ → Name → Bool
action_for referring actions k n = choose (eqb k 9 && referring) (λ _. among actions n) (λ _. true)

-- it is an own state, where one is asked for
unfoldable pub own_for : List Name → ℕ → Name → Bool
own_for own k n = choose (before_own k) (λ _. among own n) (λ _. true)

-- it is in the list that is asked for
unfoldable pub listed_for : Lists → ℕ → Name → Bool
listed_for l k n =
    choose (before_command k) (λ _. listed_in (command_names l) n)
    (λ _. choose (before_class k) (λ _. listed_in (class_names l) n) (λ _. choose (before_child k) (λ _. listed_in (child_names l) n) (λ _. true)))

-- all that is asked of a name behind a word of kind k
unfoldable pub name_known : Lists → List Name → Bool → List Name → ℕ → Name → Bool
name_known l own referring actions k n = action_for referring actions k n && (own_for own k n && listed_for l k n)

-- a word, if it is a name
unfoldable pub word_known : Lists → List Name → Bool → List Name → ℕ → ℕ → Name → Bool
word_known l own referring actions k kind n = choose (eqb kind 0) (λ _. name_known l own referring actions k n) (λ _. true)

-- a state's actions, told at its state:, which the words behind it follow
unfoldable pub actions_differ : ℕ → List Name → Bool
actions_differ kind ahead = choose (eqb kind 2) (λ _. none_twice ahead) (λ _. true)

-- behind a word: a do refers to an action from state: to action:
unfoldable pub referring_after : ℕ → Bool → Bool
referring_after kind referring = choose (eqb kind 2) (λ _. true) (λ _. choose (eqb kind 3) (λ _. false) (λ _. referring))

unfoldable pub actions_after : ℕ → List Name → List Name → List Name
actions_after kind ahead actions = choose (eqb kind 2) (λ _. ahead) (λ _. actions)

-- what is known of the state that the words stand in, behind a word: before it of these actions, then of those
pub record Entered (text : List ℕ) (kind end : ℕ) (referring : Bool) (actions : List Name) (after : Bool) (table : List ℕ) (count rest : ℕ) : Type 0 where
  pub holds : Holds text table count rest
  pub refers : after ≡ referring_after kind referring
  pub names : all_names text table count 3 2 rest ≡ actions_after kind (names_from text 3 2 end) actions

-- all words that are left, behind one of kind k
unfoldable pub words_known : Lists → List Name → ℕ → Bool → List Name → List Token → Bool
words_known l own k referring actions [] = true
words_known l own k referring actions (w ∷ ws) =
    word_known l own referring actions k (kind_of w) (bytes_of w)
    && (actions_differ (kind_of w) (names_ahead 3 2 ws)
    && words_known l own (kind_of w) (referring_after (kind_of w) referring) (actions_after (kind_of w) (names_ahead 3 2 ws) actions) ws)
