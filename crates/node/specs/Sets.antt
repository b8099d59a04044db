-- Guards on one name set per child class: what the code evaluates, by names.
-- Assumes nothing.
use Rattle.std.specs.Prelude.{ℕ, Bool, ◌&&◌, ◌||◌, not, List}
use Rattle.model.specs.Words.{has, each, some_below}
use Rattle.model.specs.Tree.{Pattern, Kind, any_in, any_not_in, all_in, all_not_in, Guard, atom, both, either, opposite}
use Rattle.children.specs.NameSets.{seen}

unfoldable pub atom_in : List ℕ → Kind → Pattern → ℕ → Bool
atom_in sets any_in p names = some_below 32 (λ n. seen sets p n && has names n)
atom_in sets any_not_in p names = some_below 32 (λ n. seen sets p n && not (has names n))
atom_in sets all_in p names = each 32 (λ n. not (seen sets p n) || has names n)
atom_in sets all_not_in p names = each 32 (λ n. not (seen sets p n) || not (has names n))

unfoldable pub holds_in : List ℕ → Guard → Bool
holds_in sets (atom kind p names) = atom_in sets kind p names
holds_in sets (both g h) = holds_in sets g && holds_in sets h
holds_in sets (either g h) = holds_in sets g || holds_in sets h
holds_in sets (opposite g) = not (holds_in sets g)
