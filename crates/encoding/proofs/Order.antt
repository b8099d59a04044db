-- The guard records of a class are those of its guards, each written out, in the order of the guards.
-- Assumes nothing.
use mathlib.Core.Path.{◌≡◌, refl, sym, ap}
use mathlib.Core.List.{List, [], ◌∷◌, ◌++◌, map}
use Rattle.model.specs.Tree.{Guard, When, Statement, send, go_to, branch, Part, end, ◌then◌, State, Class}
use Rattle.encoding.specs.Records.{Eight}
use Rattle.encoding.specs.Encoding.{guard_records, part_guards, statement_guards, gathered, when_guards, action_guards, state_guards, all_guards}
use Rattle.encoding.specs.Limits.{part_guards_of, statement_guards_of, state_guards_of, guards_of}
use Rattle.encoding.proofs.All.{gathered_append}

-- if f makes of each entry the records of the guards that g makes of it, it does so of a list
gathered_through : {A : Type 0} (f : A → List Eight) (g : A → List Guard) → ((x : A) → f x ≡ gathered guard_records (g x))
    → (xs : List A) → gathered f xs ≡ gathered guard_records (gathered g xs)
unfolding gathered
gathered_through f g h [] = refl
gathered_through f g h (x ∷ xs) = rw (h x, gathered_through f g h xs) (sym (gathered_append guard_records (g x) (gathered g xs)))

mutual
  unfolding part_guards part_guards_of gathered

  part_written : (p : Part) → part_guards p ≡ gathered guard_records (part_guards_of p)
  part_written end = refl
  part_written (s then p) = rw (statement_written s, part_written p) (sym (gathered_append guard_records (statement_guards_of s) (part_guards_of p)))

  statement_written : (s : Statement) → statement_guards s ≡ gathered guard_records (statement_guards_of s)
  statement_written (send c p) = refl
  statement_written (go_to q) = refl
  statement_written (branch g a b) =
      ap (λ (l : List Eight). guard_records g ++ l) (rw (part_written a, part_written b) (sym (gathered_append guard_records (part_guards_of a) (part_guards_of b))))

whens_written : (ws : List When) → gathered when_guards ws ≡ gathered guard_records (map (λ w. w.guard) ws)
unfolding gathered
whens_written [] = refl
whens_written (w ∷ ws) = ap (λ (l : List Eight). when_guards w ++ l) (whens_written ws)

state_written : (s : State) → state_guards s ≡ gathered guard_records (state_guards_of s)
state_written s =
    let W = map (λ w. w.guard) s.whens in
    let A = gathered (λ a. part_guards_of a.body) s.actions in
    rw (whens_written s.whens, gathered_through action_guards (λ a. part_guards_of a.body) (λ a. part_written a.body) s.actions)
    (sym (gathered_append guard_records W A))

pub guards_written : (c : Class) → all_guards c ≡ gathered guard_records (guards_of c)
guards_written c = gathered_through state_guards state_guards_of state_written c.states
