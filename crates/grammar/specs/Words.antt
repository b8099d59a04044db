-- The words of a text: where each begins and ends, and which it is.
-- Assumes nothing.
use Rattle.std.specs.Prelude.{ℕ, zero, suc, ◌+◌, ◌-◌, List, [], ◌∷◌, Bool, true, false, ◌&&◌, ◌||◌, eqb, leb, ltb, length, get_or, take}
use Prim.Native.Char.{code}
use Prim.Native.String.{String, len, char_at}
use Rattle.model.specs.Words.{choose, every, listed}
use Rattle.grammar.specs.Grammar.{Token, fixed, name, end_word, foreign_word}

pub record Word : Type 0 where
  pub start : ℕ
  pub end : ℕ
  pub token : Token

-- the bytes of a written word
unfoldable pub spelled : String → List ℕ
spelled s = listed 0 (len s) (λ i. code (char_at s i))

-- blank, tab, line feed, carriage return
unfoldable pub white : ℕ → Bool
white b = eqb b 32 || (eqb b 9 || (eqb b 10 || eqb b 13))

-- A-Z a-z 0-9 _
unfoldable pub name_char : ℕ → Bool
name_char b = (leb 65 b && leb b 90) || ((leb 97 b && leb b 122) || ((leb 48 b && leb b 57) || eqb b 95))

-- two byte strings are the same
unfoldable pub same : List ℕ → List ℕ → Bool
same [] [] = true
same [] (y ∷ ys) = false
same (x ∷ xs) [] = false
same (x ∷ xs) (y ∷ ys) = eqb x y && same xs ys

-- the place of the first entry that is the word; the table's length if none is
unfoldable pub position : List (List ℕ) → List ℕ → ℕ
position [] w = 0
position (t ∷ ts) w = choose (same t w) (λ _. 0) (λ _. suc (position ts w))

-- the 25 fixed words, in the order of their numbers
unfoldable pub fixed_words : List (List ℕ)
fixed_words =
    spelled "class:" ∷ spelled "state:" ∷ spelled "action:" ∷ spelled "$FWPART_$TOP$" ∷ spelled "$ANY$" ∷ spelled "$ALL$" ∷ spelled "when"
    ∷ spelled "move_to" ∷ spelled "do" ∷ spelled "stay_in_state" ∷ spelled "if" ∷ spelled "then" ∷ spelled "else" ∷ spelled "endif" ∷ spelled "and"
    ∷ spelled "or" ∷ spelled "not" ∷ spelled "in_state" ∷ spelled "not_in_state" ∷ spelled "FwCHILDREN" ∷ spelled "(" ∷ spelled ")" ∷ spelled "{"
    ∷ spelled "}" ∷ spelled "," ∷ []

-- what else no name may be: the runs of which fixed words are made
unfoldable pub bare_runs : List (List ℕ)
bare_runs = spelled "class" ∷ spelled "state" ∷ spelled "action" ∷ spelled "FWPART_" ∷ spelled "TOP" ∷ spelled "ANY" ∷ spelled "ALL" ∷ []

-- a name: 1 to 31 name characters, and no word of the grammar
unfoldable pub is_name : List ℕ → Bool
is_name w = (leb 1 (length w) && leb (length w) 31) && (every name_char w && (eqb (position fixed_words w) 25 && eqb (position bare_runs w) 7))

-- how many name characters the bytes begin with
unfoldable pub run_length : List ℕ → ℕ
run_length [] = 0
run_length (b ∷ bs) = choose (name_char b) (λ _. suc (run_length bs)) (λ _. 0)

-- the bytes begin with the word
abbrev pub begins : List ℕ → List ℕ → Bool
begins w l = same w (take (length w) l)

-- the runs that a colon belongs to, if it is the very next byte
unfoldable pub colon_run : List ℕ → Bool
colon_run w = same (spelled "class") w || (same (spelled "state") w || same (spelled "action") w)

-- a run of n name characters, with its colon
unfoldable pub run_end : List ℕ → ℕ → ℕ
run_end l n = choose (colon_run (take n l) && eqb (get_or l n 0) 58) (λ _. suc n) (λ _. n)

-- a word that begins with $
unfoldable pub dollar_length : List ℕ → ℕ
dollar_length l =
    choose (begins (spelled "$FWPART_$TOP$") l) (λ _. 13) (λ _. choose (begins (spelled "$ANY$") l || begins (spelled "$ALL$") l) (λ _. 5) (λ _. 1))

-- how long the word is that the bytes begin with
unfoldable pub word_length : List ℕ → ℕ
word_length [] = 0
word_length (b ∷ bs) =
    choose (name_char b) (λ _. run_end (b ∷ bs) (run_length (b ∷ bs))) (λ _. choose (eqb b 36) (λ _. dollar_length (b ∷ bs)) (λ _. 1))

-- which word the bytes are: a fixed one, a name, or one that stands nowhere
unfoldable pub token_of : List ℕ → Token
token_of w =
    choose (ltb (position fixed_words w) 25) (λ _. fixed (position fixed_words w)) (λ _. choose (is_name w) (λ _. name w) (λ _. fixed foreign_word))

-- the word of the first n bytes, which stand at a place
unfoldable pub word_at : ℕ → List ℕ → ℕ → Word
word_at at l n = record { start = at; end = at + n; token = token_of (take n l) }

-- the end of the text is a word too
unfoldable pub end_at : ℕ → Word
end_at at = record { start = at; end = at; token = fixed end_word }

-- the words of the bytes that stand at a place, the first k of which are passed over
unfoldable pub cut : ℕ → ℕ → List ℕ → List Word
cut k at [] = end_at at ∷ []
cut (suc k) at (b ∷ bs) = cut k (suc at) bs
cut zero at (b ∷ bs) =
    choose (white b) (λ _. cut zero (suc at) bs) (λ _. word_at at (b ∷ bs) (word_length (b ∷ bs)) ∷ cut (word_length (b ∷ bs) - 1) (suc at) bs)

-- the words of a text
unfoldable pub words : List ℕ → List Word
words text = cut 0 0 text

-- which they are, without their places
unfoldable pub tokens : List Word → List Token
tokens [] = []
tokens (w ∷ ws) = w.token ∷ tokens ws
