-- The when clauses that the words that are left stand for, and what the function that writes them promises.
-- Assumes nothing.
use Rattle.std.specs.Prelude.{ℕ, ◌/◌, ◌≡◌, true, ◌||◌, List, [], ◌∷◌, eqb}
use Rattle.model.specs.Words.{choose, kept}
use Rattle.grammar.specs.Grammar.{Token, Name, Text, Referrer, move_to, run, stay, stay_in}
use Rattle.grammar.specs.Kinds.{kind_of}
use Rattle.grammar.specs.Reading.{Says}
use Rattle.naming.specs.NameLists.{Lists}
use Rattle.naming.specs.Naming.{class_in}
use Rattle.naming.specs.Known.{text_known}
use Rattle.encoding.specs.Records.{Four, four, fours}
use Rattle.encoding.specs.Encoding.{when_records}
use Rattle.encoding.specs.Within.{Within}
use Rattle.words.specs.Scanning.{tokens_from}
use Rattle.pen.specs.Writing.{Puts}
use Rattle.own.specs.Ahead.{first_bytes, names_ahead, names_from}
use Rattle.whens.specs.Ahead.{guards_after, number_among, low4}

-- the first referrer ahead, without the state behind a stay_in_state; stay where there is none
unfoldable pub referrer_ahead : List Token → Referrer
referrer_ahead [] = stay
referrer_ahead (w ∷ ws) =
    choose (eqb (kind_of w) 8) (λ _. move_to (first_bytes ws)) (λ _.
    choose (eqb (kind_of w) 9) (λ _. run (first_bytes ws)) (λ _.
    choose (eqb (kind_of w) 10 || eqb (kind_of w) 26) (λ _. stay) (λ _. referrer_ahead ws)))

-- 0 MOVE_TO, 1 DO, 2 STAY
abbrev pub referrer_number : Referrer → ℕ
referrer_number (move_to n) = 0
referrer_number (run n) = 1
referrer_number stay = 2
referrer_number (stay_in n) = 2

-- its target, where own and actions number the own states and the state's action clauses
abbrev pub target_number : (Name → ℕ) → (Name → ℕ) → Referrer → ℕ
target_number own actions (move_to n) = own n
target_number own actions (run n) = actions n
target_number own actions stay = 0
target_number own actions (stay_in n) = 0

module _ (own : Name → ℕ) (among : List Name → Name → ℕ) where
  -- a when clause by the words behind its first, with n guard records before it
  unfoldable pub when_ahead : ℕ → List Token → Four
  when_ahead n ws =
      low4 (four n (n / 256) (referrer_number (referrer_ahead ws)) (target_number own (among (names_ahead 3 2 ws)) (referrer_ahead ws)))

  -- the when clauses of the words that are left, with n guard records before them
  unfoldable pub whens_from : ℕ → List Token → List Four
  whens_from n [] = []
  whens_from n (w ∷ ws) = kept (eqb (kind_of w) 7) (when_ahead n ws) (whens_from (guards_after n (kind_of w)) ws)

-- the number of an own state of a text
unfoldable pub own_number : List ℕ → Name → ℕ
own_number text n = number_among (names_from text 2 26 0) n

-- the when clause whose words behind its first stand at a place of the text, and those of the words from there on
abbrev pub when_at : List ℕ → ℕ → ℕ → Four
when_at text at n = when_ahead (own_number text) number_among n (tokens_from text at)

abbrev pub whens_left : List ℕ → ℕ → ℕ → List Four
whens_left text at n = whens_from (own_number text) number_among n (tokens_from text at)

-- the when clauses of the text's class stand in the buffer from a place on
abbrev pub WritesWhens : List ℕ → List ℕ → ℕ → List ℕ → ℕ → Type 0
WritesWhens text before at after r =
    (l : Lists) (t : Text) → Says text t → text_known l t ≡ true → Within (class_in l t) → Puts (fours (when_records (class_in l t))) before at after r
