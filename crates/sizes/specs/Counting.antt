-- The sizes of a text, counted word by word.
-- Assumes nothing.
use Rattle.std.specs.Prelude.{ℕ, suc, ◌+◌, ◌-◌, ◌≤◌, max, Bool, true, false, ◌&&◌, ◌||◌, not, List, [], ◌∷◌, eqb, leb}
use Rattle.grammar.specs.Grammar.{Token, state_word, action_word, when_word, move_word, do_word, if_word, endif_word, and_word, out_word}
use Rattle.grammar.specs.Kinds.{kind_of}
use Rattle.sizes.specs.declared.Sizes.{Sizes}

-- the word of that kind is the fixed word of that number
abbrev pub is : ℕ → ℕ → Bool
is word kind = eqb kind (suc word)

-- one more, where the test holds
abbrev pub tick : Bool → ℕ → ℕ
tick true n = n + 1
tick false n = n

-- one less, where the test holds
abbrev pub untick : Bool → ℕ → ℕ
untick true n = n - 1
untick false n = n

-- the greater of two, where the test holds
abbrev pub raised : Bool → ℕ → ℕ → ℕ
raised true deepest ifs = max deepest ifs
raised false deepest ifs = deepest

-- a guard record's word: and, or, not, in_state, not_in_state
abbrev pub of_guard : ℕ → Bool
of_guard kind = leb (suc and_word) kind && leb kind (suc out_word)

-- a statement's first word
abbrev pub of_statement : ℕ → Bool
of_statement kind = is move_word kind || (is do_word kind || is if_word kind)

-- whether an action: stands before, in the same state: what stands behind it are statements, and what before it are referrers
abbrev pub acting_after : Bool → ℕ → Bool
acting_after acting kind = not (is state_word kind) && (is action_word kind || acting)

-- how many ifs are open
abbrev pub open_after : ℕ → ℕ → ℕ
open_after ifs kind = untick (is endif_word kind) (tick (is if_word kind) ifs)

-- one word counted; acting and ifs are what they are behind it
unfoldable pub counted : Sizes → Bool → ℕ → ℕ → Sizes
counted n acting ifs kind =
    record {
      states = tick (is state_word kind) n.states;
      whens = tick (is when_word kind) n.whens;
      guards = tick (of_guard kind) n.guards;
      actions = tick (is action_word kind) n.actions;
      statements = tick (of_statement kind && acting) n.statements;
      deepest = raised (is if_word kind) n.deepest ifs;
    }

-- all words counted, behind those that were
unfoldable pub tally : Sizes → Bool → ℕ → List Token → Sizes
tally n acting ifs [] = n
tally n acting ifs (w ∷ ws) =
    let a : Bool = acting_after acting (kind_of w) in
    let o : ℕ = open_after ifs (kind_of w) in
    tally (counted n a o (kind_of w)) a o ws

-- nothing counted
abbrev pub nothing_yet : Sizes
nothing_yet = record { states = 0; whens = 0; guards = 0; actions = 0; statements = 0; deepest = 0 }

-- no number is above m
pub record Below (n : Sizes) (m : ℕ) : Type 0 where
  pub states : n.states ≤ m
  pub whens : n.whens ≤ m
  pub guards : n.guards ≤ m
  pub actions : n.actions ≤ m
  pub statements : n.statements ≤ m
