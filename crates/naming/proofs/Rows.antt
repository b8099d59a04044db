-- Rows as lists: the words of a text, state by state, clause by clause.
-- Assumes nothing.
use mathlib.Core.Path.{◌≡◌, refl, ap, ◌∙◌}
use mathlib.Core.List.{List, [], ◌∷◌}
use Rattle.grammar.specs.Grammar.{Token, fixed, name, class_word, state_word, top_word, end_word, Row, none, ◌then◌, State, Text, row_words, when_words, action_words, state_words, text_words}
use Rattle.naming.specs.Naming.{in_order, all_states}

-- the words of a list's entries, in front of others
unfoldable pub list_words : {A : Type 0} → (A → List Token → List Token) → List A → List Token → List Token
list_words f [] rest = rest
list_words f (x ∷ xs) rest = f x (list_words f xs rest)

row_is : {A : Type 0} (f : A → List Token → List Token) (xs : Row A) (ys : List A) (rest : List Token) → row_words f xs (list_words f ys rest) ≡ list_words f (in_order xs ys) rest
unfolding row_words in_order list_words
row_is f none ys rest = refl
row_is f (xs then x) ys rest = row_is f xs (x ∷ ys) rest

-- a row
pub row_as_list : {A : Type 0} (f : A → List Token → List Token) (xs : Row A) (rest : List Token) → row_words f xs rest ≡ list_words f (in_order xs []) rest
unfolding list_words
row_as_list f xs rest = row_is f xs [] rest

-- a state
pub state_as_lists : (s : State) (rest : List Token)
    → state_words s rest ≡ fixed state_word ∷ name s.own ∷ list_words when_words (in_order s.whens []) (list_words action_words (in_order s.actions []) rest)
unfolding state_words
state_as_lists s rest =
    ap (λ (ws : List Token). fixed state_word ∷ name s.own ∷ ws)
    (ap (row_words when_words s.whens) (row_as_list action_words s.actions rest)
    ∙ row_as_list when_words s.whens (list_words action_words (in_order s.actions []) rest))

-- a text
pub text_as_list : (t : Text) → text_words t ≡ fixed class_word ∷ fixed top_word ∷ name t.class ∷ list_words state_words (all_states t) (fixed end_word ∷ [])
unfolding text_words all_states list_words
text_as_list t =
    ap (λ (ws : List Token). fixed class_word ∷ fixed top_word ∷ name t.class ∷ ws) (row_is state_words t.earlier (t.last ∷ []) (fixed end_word ∷ []))
