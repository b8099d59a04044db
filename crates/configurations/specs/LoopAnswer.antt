-- The answer of the loop question over a class and its present child classes.
-- Assumes nothing.
use Rattle.std.specs.Prelude.{ℕ, ◌^◌, Bool, ◌&&◌, List}
use Rattle.std.proofs.Math.Option.{Option}
use Rattle.model.specs.Words.{choose, maybe, is_some, least, greatest}
use Rattle.model.specs.Tree.{Child, Class}
use Rattle.model.specs.Moves.{returns_soon}
use Rattle.model.specs.Node.{own_states, next, phase, moves_of}
use Rattle.model.specs.Crews.{all_occur}
use Rattle.configurations.specs.Configurations.{name_count, list_of}

-- loop: configuration, own state, list; free: the largest number of moves
pub data Loops : Type 0 where
  loop : ℕ → ℕ → List Child → Loops
  free : ℕ → Loops

-- the smallest own state that returns to itself with these children
unfoldable pub returning : Class → List Child → Option ℕ
returning c ks = least (own_states c) (returns_soon (next c ks) (own_states c))

-- configuration k is not skipped: each present class has a set bit
unfoldable pub counts : Class → ℕ → ℕ → Bool
counts c present k = all_occur c present (list_of c present k)

-- configuration k is not skipped and has a loop
unfoldable pub has_loop : Class → ℕ → ℕ → Bool
has_loop c present k = counts c present k && is_some (returning c (list_of c present k))

-- the largest number of moves over all states, with these children
unfoldable pub longest : Class → List Child → ℕ
longest c ks = greatest (own_states c) (λ q. moves_of (phase c ks q))

-- the same in configuration k, 0 where it is skipped
unfoldable pub longest_in : Class → ℕ → ℕ → ℕ
longest_in c present k = choose (counts c present k) (λ _. longest c (list_of c present k)) (λ _. 0)

abbrev pub loop_in : Class → ℕ → ℕ → Loops
loop_in c present k = loop k (maybe (returning c (list_of c present k)) (λ _. 0) (λ q. q)) (list_of c present k)

-- the smallest configuration with a loop and the smallest own state there; else the largest number of moves over all
unfoldable pub loop_answer : Class → ℕ → Loops
loop_answer c present =
    maybe (least (2 ^ name_count c present) (has_loop c present))
    (λ _. free (greatest (2 ^ name_count c present) (longest_in c present)))
    (loop_in c present)
