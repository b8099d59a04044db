-- The sizes of a class, and what the function that counts them in its text promises.
-- Assumes nothing.
use Rattle.std.specs.Prelude.{ℕ, max, ◌≡◌, false, List, [], ◌∷◌, leb, length}
use Rattle.model.specs.Tree.{Action, Class}
use Rattle.grammar.specs.Grammar.{Text}
use Rattle.grammar.specs.Words.{words, tokens}
use Rattle.grammar.specs.Reading.{Says}
use Rattle.naming.specs.NameLists.{Lists}
use Rattle.naming.specs.Naming.{class_in}
use Rattle.encoding.specs.Encoding.{when_records, all_guards, action_records, statement_records}
use Rattle.encoding.specs.Limits.{part_depth, actions_of, depths_within}
use Rattle.sizes.specs.Counting.{tally, nothing_yet}
use Rattle.sizes.specs.declared.Sizes.{Sizes}

-- how deep the deepest if of these action clauses is
unfoldable pub deepest_in : List Action → ℕ
deepest_in [] = 0
deepest_in (a ∷ as') = max (part_depth a.body) (deepest_in as')

-- the numbers of records in the bodies of a class's sheet, and how deep its deepest if is
unfoldable pub sizes_in : Class → Sizes
sizes_in c =
    record {
      states = length c.states;
      whens = length (when_records c);
      guards = length (all_guards c);
      actions = length (action_records c);
      statements = length (statement_records c);
      deepest = deepest_in (actions_of c);
    }

-- r is what the words of the bytes come to: of a text, with whatever lists, the sizes of its class
pub record Sized (b : List ℕ) (r : Sizes) : Type 0 where
  pub counted : r ≡ tally nothing_yet false 0 (tokens (words b))
  pub of_text : (l : Lists) (t : Text) → Says b t → r ≡ sizes_in (class_in l t)
  -- its deepest if says whether its ifs are too deep
  pub depths : (l : Lists) (t : Text) → Says b t → leb r.deepest 8 ≡ depths_within (class_in l t)
