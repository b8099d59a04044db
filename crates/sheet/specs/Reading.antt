-- The class that a sheet stands for: meant for accepted sheets, and total.
-- Assumes nothing.
use Rattle.std.specs.Prelude.{ℕ, List}
use Rattle.model.specs.Words.{maybe, listed}
use Rattle.model.specs.Tree.{everyone, any_in, Guard, atom, When, end, Action, State, Class}
use Rattle.sheet.specs.Contents.{Bodies, bodies}
use Rattle.records.specs.GuardRecords.{guard_from, by_read}
use Rattle.bodies.specs.Clauses.{name_set, when_count, action_count, first_when, first_action, guard_place, referrer_number, target, referrer_of, action_command, body_of}
use Rattle.records.specs.Bytes.{in_fours}

-- the guard that begins at a place; where none does, one that no child makes true
unfoldable pub guard_in : Bodies → ℕ → Guard
guard_in s place = by_read (guard_from s.guards place) (λ _. atom any_in everyone 0) (λ g _. g)

unfoldable pub when_in : Bodies → ℕ → When
when_in s w = record { guard = guard_in s (guard_place s.whens w); referrer = referrer_of (referrer_number s.whens w) (target s.whens w) }

unfoldable pub action_in : Bodies → ℕ → Action
action_in s a = record { command = action_command s.actions a; body = maybe (body_of (in_fours s.classes) (in_fours s.states) s.guards s.actions s.statements a) (λ _. end) (λ p. p) }

unfoldable pub state_in : Bodies → ℕ → State
state_in s q =
    record {
      whens = listed (first_when s.states q) (when_count s.states q) (when_in s);
      actions = listed (first_action s.states q) (action_count s.states q) (action_in s);
    }

unfoldable pub class_in : Bodies → Class
class_in s = record { children = listed 0 (in_fours s.classes) (name_set s.classes); states = listed 0 (in_fours s.states) (state_in s) }

unfoldable pub class_of : List ℕ → Class
class_of b = class_in (bodies b)
