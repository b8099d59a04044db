-- The statements that the words that are left stand for, and what the function that writes them promises.
-- Assumes nothing.
use Rattle.std.specs.Prelude.{ℕ, ◌+◌, ◌-◌, ◌/◌, ◌≡◌, Bool, true, false, ◌&&◌, ◌||◌, List, [], ◌∷◌, eqb, drop}
use Rattle.model.specs.Words.{choose, kept}
use Rattle.grammar.specs.Grammar.{Token, Name, Text}
use Rattle.grammar.specs.Kinds.{kind_of, bytes_of}
use Rattle.grammar.specs.Reading.{Says}
use Rattle.naming.specs.NameLists.{records_in, padded}
use Rattle.naming.specs.Naming.{class_in}
use Rattle.naming.specs.Known.{text_known}
use Rattle.encoding.specs.Records.{Eight, four, eight, zeros, eights}
use Rattle.encoding.specs.Encoding.{statement_records}
use Rattle.encoding.specs.Within.{Within}
use Rattle.pen.specs.Writing.{Puts}
use Rattle.words.specs.Scanning.{tokens_from}
use Rattle.lists.specs.Lent.{lent}
use Rattle.own.specs.Ahead.{first_bytes}
use Rattle.whens.specs.Whens.{own_number}
use Rattle.whens.specs.Ahead.{guards_after, number_among, low8}

-- move_to, do, if: each is the first word of a statement, behind an action:
abbrev pub is_statement : ℕ → Bool
is_statement k = eqb k 8 || (eqb k 9 || eqb k 11)

-- the number of statements before the next word, where n stand before a word of that kind
unfoldable pub count_after : ℕ → ℕ → ℕ
count_after n k = choose (is_statement k) (λ _. n + 1) (λ _. n)

-- how many ifs are open before the next word, where d are before a word of that kind
unfoldable pub depth_after : ℕ → ℕ → ℕ
depth_after d k = choose (eqb k 11) (λ _. d + 1) (λ _. choose (eqb k 14) (λ _. d - 1) (λ _. d))

-- else and endif end a part where no if is open in it
abbrev pub ends_part : ℕ → ℕ → Bool
ends_part d k = (eqb k 13 || eqb k 14) && eqb d 0

-- a part that is ahead: how many statements it has, and the words from the one on that ends it
pub record PartAhead : Type 0 where
  pub size : ℕ
  pub behind : List Token

-- the part ahead, of which n statements have been passed, with d ifs open in it
unfoldable pub part_ahead : ℕ → ℕ → List Token → PartAhead
part_ahead d n [] = record { size = n; behind = [] }
part_ahead d n (w ∷ ws) =
    choose (ends_part d (kind_of w)) (λ _. record { size = n; behind = w ∷ ws }) (λ _. part_ahead (depth_after d (kind_of w)) (count_after n (kind_of w)) ws)

-- the size of the part behind an else; none behind any other word
unfoldable pub else_size : List Token → ℕ
else_size [] = 0
else_size (w ∷ ws) = choose (eqb (kind_of w) 13) (λ _. (part_ahead 0 0 ws).size) (λ _. 0)

-- statements stand behind an action: and before the next state:
unfoldable pub on_after : Bool → ℕ → Bool
on_after on k = choose (eqb k 3) (λ _. true) (λ _. choose (eqb k 2) (λ _. false) (λ _. on))

-- the pattern of the kin that is next, where class numbers the child classes
unfoldable pub kin_ahead : (Name → ℕ) → List Token → ℕ
kin_ahead class [] = 0
kin_ahead class (w ∷ ws) = choose (eqb (kind_of w) 20) (λ _. 255) (λ _. class (bytes_of w))

-- the record of a move_to, a do, an if, by the words behind its first, with n guard records before it; own, command and class number the names
abbrev pub move_ahead : (Name → ℕ) → List Token → Eight
move_ahead own ws = low8 (eight (four 1 (own (first_bytes ws)) 0 0) zeros)

abbrev pub do_ahead : (Name → ℕ) → (Name → ℕ) → List Token → Eight
do_ahead command class ws = low8 (eight (four 0 (command (first_bytes ws)) (kin_ahead class (drop 2 ws)) 0) zeros)

abbrev pub if_ahead : ℕ → List Token → Eight
if_ahead n ws =
    let p = part_ahead 0 0 ws in
    let a : ℕ = p.size in
    let b : ℕ = else_size p.behind in
    low8 (eight (four 2 0 n (n / 256)) (four a (a / 256) b (b / 256)))

module _ (own command class : Name → ℕ) where
  -- the record of a statement of a first word of kind k
  unfoldable pub statement_ahead : ℕ → ℕ → List Token → Eight
  statement_ahead n k ws = choose (eqb k 8) (λ _. move_ahead own ws) (λ _. choose (eqb k 9) (λ _. do_ahead command class ws) (λ _. if_ahead n ws))

  -- the statements of the words that are left, with n guard records before them; on says that an action: stands before them
  unfoldable pub statements_from : Bool → ℕ → List Token → List Eight
  statements_from on n [] = []
  statements_from on n (w ∷ ws) =
      kept (on && is_statement (kind_of w)) (statement_ahead n (kind_of w) ws) (statements_from (on_after on (kind_of w)) (guards_after n (kind_of w)) ws)

-- the number of a name in a list of records of that many bytes; 0 where it has none
unfoldable pub number_of : ℕ → List ℕ → Name → ℕ
number_of size list n = number_among (records_in size list) (padded n)

module _ (text commands classes : List ℕ) where
  -- the statement of a first word of kind k whose words behind it stand at a place, and those of the words from a place on
  abbrev pub statement_at : ℕ → ℕ → ℕ → Eight
  statement_at at n k = statement_ahead (own_number text) (number_of 32 commands) (number_of 36 classes) n k (tokens_from text at)

  abbrev pub statements_left : Bool → ℕ → ℕ → List Eight
  statements_left on at n = statements_from (own_number text) (number_of 32 commands) (number_of 36 classes) on n (tokens_from text at)

  -- the statements of the text's class stand in the buffer from a place on
  abbrev pub WritesStatements : List ℕ → ℕ → List ℕ → ℕ → Type 0
  WritesStatements before at after r =
      (names : List ℕ) (t : Text) → Says text t → text_known (lent names commands classes) t ≡ true → Within (class_in (lent names commands classes) t)
      → Puts (eights (statement_records (class_in (lent names commands classes) t))) before at after r
