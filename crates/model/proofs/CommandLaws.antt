-- Laws about specs/Commands.antt: a command leaves an own state.
-- Assumes nothing.
use Prim.Native.Nat.{ℕ, ◌<◌}
use mathlib.Core.Path.{◌≡◌, refl}
use mathlib.Core.Bool.{true}
use mathlib.Core.List.{List, Memᴰ}
use mathlib.Core.Option.{Option, none, some}
use Rattle.model.specs.Words.{maybe}
use Rattle.model.specs.Tree.{Child, Part, Action, Class}
use Rattle.model.specs.Running.{run_part}
use Rattle.model.specs.Node.{own_states, state_of}
use Rattle.model.specs.Commands.{clause_for, ignored, handled_by, command, left_by}
use Rattle.model.specs.Sound.{part_within}
use Rattle.model.proofs.RunLaws.{part_moves, clause_listed}

-- where every move_to of its state's action clauses leads to one
pub left_within : (c : Class) (ks : List Child) (q m : ℕ) → ((a : Action) → Memᴰ a (state_of c q).actions → part_within a.body (own_states c) ≡ true)
    → q < own_states c → left_by (command c ks q m) < own_states c
unfolding command
left_within c ks q m inside low = go (clause_for m (state_of c q).actions) refl
  where
    moved : (p : Part) → part_within p (own_states c) ≡ true → (o : Option ℕ) → (run_part p ks).moved ≡ o → maybe o (λ _. q) (λ t. t) < own_states c
    moved p w none g = low
    moved p w (some t) g = part_moves p ks (own_states c) w t g

    go : (o : Option Part) → clause_for m (state_of c q).actions ≡ o → left_by (maybe o (λ _. ignored q) (λ p. handled_by q (run_part p ks))) < own_states c
    go none f = low
    go (some p) f = let (x, y, z) = clause_listed m (state_of c q).actions p f in moved p (rw z at (inside x y)) (run_part p ks).moved refl
