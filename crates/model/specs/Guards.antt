-- When a guard is true of a child list.
-- Assumes nothing.
use Rattle.std.specs.Prelude.{ℕ, Bool, true, ◌&&◌, ◌||◌, not, List, eqb}
use Rattle.model.specs.Words.{has, every, some_in}
use Rattle.model.specs.Tree.{Child, Pattern, everyone, of_class, Kind, any_in, any_not_in, all_in, all_not_in, Guard, atom, both, either, opposite}

-- the child is one of the pattern's
unfoldable pub concerns : Pattern → Child → Bool
concerns everyone k = true
concerns (of_class c) k = eqb k.class c

-- ANY: some child of the pattern has the fact; with no child of the pattern it is false
unfoldable pub any_of : Pattern → (Child → Bool) → List Child → Bool
any_of p fact ks = some_in (λ k. concerns p k && fact k) ks

-- ALL: every child of the pattern has the fact; with no child of the pattern it is true
unfoldable pub all_of : Pattern → (Child → Bool) → List Child → Bool
all_of p fact ks = every (λ k. not (concerns p k) || fact k) ks

-- "in": the child's name is in the set
unfoldable pub named_in : ℕ → Child → Bool
named_in set k = has set k.name

unfoldable pub atom_holds : Kind → Pattern → ℕ → List Child → Bool
atom_holds any_in p set ks = any_of p (named_in set) ks
atom_holds any_not_in p set ks = any_of p (λ k. not (named_in set k)) ks
atom_holds all_in p set ks = all_of p (named_in set) ks
atom_holds all_not_in p set ks = all_of p (λ k. not (named_in set k)) ks

unfoldable pub holds : Guard → List Child → Bool
holds (atom kind p set) ks = atom_holds kind p set ks
holds (both g h) ks = holds g ks && holds h ks
holds (either g h) ks = holds g ks || holds h ks
holds (opposite g) ks = not (holds g ks)
