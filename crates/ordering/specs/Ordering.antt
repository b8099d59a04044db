-- The guard records of a text, put in the sheet's order on one walk over its words. An operator's record goes in front of those of its left
-- operand, which are as many of the latest as bind at least as tightly as it does. Brackets only count.
-- Assumes nothing.
use Rattle.std.specs.Prelude.{ℕ, suc, ◌+◌, ◌-◌, ◌*◌, Bool, ◌&&◌, ◌||◌, List, [], ◌∷◌, ◌++◌, eqb, leb, ltb, length, take, drop, Option, Some, None}
use Rattle.model.specs.Words.{choose, has}
use Rattle.grammar.specs.Grammar.{Token, fixed, name, Name}
use Rattle.grammar.specs.Kinds.{kind_of}
use Rattle.naming.specs.NameLists.{number_in}
use Rattle.naming.specs.Naming.{with_bit}
use Rattle.encoding.specs.Records.{Eight, four, eight, number}
use Rattle.encoding.specs.Encoding.{operator_record}
use Rattle.ordering.specs.declared.Mark.{Mark}
use Rattle.ordering.specs.declared.Mark.TheVariants.{Any, All, Edge, And, Or, Not, Open, Close, Other}

-- what stands behind a quantifier: an atom's kind, pattern and name set, or none, where a do sends to children
abbrev pub Ahead : Type 0
Ahead = Option (ℕ × ℕ × ℕ)

-- what is known on the way: how many brackets are open, the keys of the guard that is read, the latest first, and all records so far
pub record Way : Type 0 where
  pub level : ℕ
  pub keys : List ℕ
  pub records : List Eight

-- the ranks of or, and of and and not
abbrev pub or_rank : ℕ
or_rank = 1

abbrev pub and_rank : ℕ
and_rank = 2

-- an operator's key, greater the tighter it binds: first by the brackets round it, then by its rank; an atom's key is 0
abbrev pub key : ℕ → ℕ → ℕ
key level rank = level * 2 + rank

-- what has key x binds at least as tightly as an operator of key k
abbrev pub reaches : ℕ → ℕ → Bool
reaches k x = eqb x 0 || leb k x

-- of how many of the latest that is so, up to the first of which it is not
unfoldable pub run : ℕ → List ℕ → ℕ
run k [] = 0
run k (x ∷ xs) = choose (reaches k x) (λ _. suc (run k xs)) (λ _. 0)

-- the records with one more, behind which m stand
unfoldable pub inserted : {A : Type 0} → ℕ → A → List A → List A
inserted m r rs = take (length rs - m) rs ++ (r ∷ drop (length rs - m) rs)

-- one record more, in front of the last m, with its key
abbrev pub put : ℕ → ℕ → Eight → Way → Way
put m k r w = record { level = w.level; keys = k ∷ w.keys; records = inserted m r w.records }

-- an atom's record
abbrev pub atom_record : ℕ → ℕ → ℕ → Eight
atom_record k p s = eight (four k p 0 0) (number s)

-- a kin's pattern: its class, or 255
unfoldable pub pattern_in : List (List ℕ) → Token → ℕ
pattern_in classes (fixed k) = 255
pattern_in classes (name n) = choose (ltb (number_in classes n) 255) (λ _. number_in classes n) (λ _. 255)

module _ (names : List (List ℕ)) where
  -- a set with the bit of a name, once
  unfoldable pub with_name : ℕ → Name → ℕ
  with_name s n = choose (ltb (number_in names n) 32) (λ _. with_bit (has s (number_in names n)) s (number_in names n)) (λ _. s)

  -- a set with the names up to the brace that closes
  unfoldable pub braced : List Token → ℕ → ℕ
  braced [] s = s
  braced (fixed k ∷ rest) s = choose (eqb (suc k) 24) (λ _. s) (λ _. braced rest s)
  braced (name n ∷ rest) s = braced rest (with_name s n)

  -- the set that the words begin with: one name, or names in braces
  unfoldable pub set_ahead : List Token → ℕ
  set_ahead [] = 0
  set_ahead (fixed k ∷ rest) = choose (eqb (suc k) 23) (λ _. braced rest 0) (λ _. 0)
  set_ahead (name n ∷ rest) = with_name 0 n

  -- behind a kin of that pattern: in_state or not_in_state, and a set
  unfoldable pub side_ahead : ℕ → ℕ → List Token → Ahead
  side_ahead k p [] = None
  side_ahead k p (t ∷ rest) =
      choose (eqb (kind_of t) 18) (λ _. Some (k, p, set_ahead rest)) (λ _. choose (eqb (kind_of t) 19) (λ _. Some (k + 1, p, set_ahead rest)) (λ _. None))

-- behind a quantifier: a kin, and what stands behind it
unfoldable pub atom_ahead : List (List ℕ) → List (List ℕ) → ℕ → List Token → Ahead
atom_ahead names classes k [] = None
atom_ahead names classes k (t ∷ rest) = side_ahead names k (pattern_in classes t) rest

-- what a word is, by its kind: $ANY$, $ALL$; when, move_to, do, stay_in_state, if, then; and, or, not; brackets
unfoldable pub mark_of : ℕ → Mark
mark_of k =
    choose (eqb k 5) (λ _. Any)
    (λ _. choose (eqb k 6) (λ _. All)
    (λ _. choose (leb 7 k && leb k 12) (λ _. Edge)
    (λ _. choose (eqb k 15) (λ _. And)
    (λ _. choose (eqb k 16) (λ _. Or)
    (λ _. choose (eqb k 17) (λ _. Not)
    (λ _. choose (eqb k 21) (λ _. Open)
    (λ _. choose (eqb k 22) (λ _. Close) (λ _. Other))))))))

-- an atom goes behind all
abbrev pub with_atom : Ahead → Way → Way
with_atom (Some (k, p, s)) w = put 0 0 (atom_record k p s) w
with_atom None w = w

-- an operator on two goes in front of its left operand
abbrev pub with_operator : ℕ → ℕ → Way → Way
with_operator kind rank w = put (run (key w.level rank) w.keys) (key w.level rank) (operator_record kind) w

module _ (names classes : List (List ℕ)) where
  -- what a word does, with the words behind it
  unfoldable pub turn : Mark → List Token → Way → Way
  turn Any rest w = with_atom (atom_ahead names classes 0 rest) w
  turn All rest w = with_atom (atom_ahead names classes 2 rest) w
  turn Edge rest w = record { level = w.level; keys = []; records = w.records }
  turn And rest w = with_operator 4 and_rank w
  turn Or rest w = with_operator 5 or_rank w
  turn Not rest w = put 0 (key w.level and_rank) (operator_record 6) w
  turn Open rest w = record { level = w.level + 1; keys = w.keys; records = w.records }
  turn Close rest w = record { level = w.level - 1; keys = w.keys; records = w.records }
  turn Other rest w = w

  -- the whole walk from a word on
  unfoldable pub walked : List Token → Way → Way
  walked [] w = w
  walked (t ∷ rest) w = walked rest (turn (mark_of (kind_of t)) rest w)

-- where the walk begins
abbrev pub at_first : Way
at_first = record { level = 0; keys = []; records = [] }

-- the guard records of the words of a text
unfoldable pub in_prefix_order : List (List ℕ) → List (List ℕ) → List Token → List Eight
in_prefix_order names classes tokens = (walked names classes tokens at_first).records
