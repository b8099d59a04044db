-- Rules 3 to 9, each over the bodies that it speaks of. A rule is true where its refusal is not given.
-- Assumes nothing.
use Rattle.std.specs.Prelude.{ℕ, ◌+◌, Bool, ◌&&◌, not, List, eqb, leb, ltb}
use Rattle.model.specs.Words.{choose, is_some, each}
use Rattle.records.specs.Bytes.{record_at}
use Rattle.records.specs.GuardRecords.{record_right, guard_from, is_read}
use Rattle.bodies.specs.Clauses.{count_sum, name_set, when_count, action_count, first_when, first_action, guard_place, referrer_number, target, action_command, action_zero, body_of}
use Rattle.records.specs.Bytes.{in_fours, in_eights}

-- 3: no child class has an empty set
unfoldable pub classes_right : List ℕ → Bool
classes_right classes = each (in_fours classes) (λ i. not (eqb (name_set classes i) 0))

-- 4: the when and action counts of the states sum to W and A
unfoldable pub counts_right : List ℕ → ℕ → ℕ → Bool
counts_right states W A = eqb (count_sum states 0 (in_fours states)) W && eqb (count_sum states 2 (in_fours states)) A

-- 5: every guard record keeps its layout
unfoldable pub records_right : ℕ → List ℕ → Bool
records_right K guards = each (in_eights guards) (λ i. record_right K (record_at guards i))

-- 6: every when clause's guard begins before the end, does not run past it, and is not too deep
unfoldable pub guards_right : List ℕ → List ℕ → Bool
guards_right guards whens = each (in_fours whens) (λ w. is_read (guard_from guards (guard_place whens w)))

-- MOVE_TO an own state, DO one of this state's action clauses, STAY with 0
abbrev pub target_right : ℕ → ℕ → List ℕ → ℕ → Bool
target_right S own_actions whens w =
    choose (eqb (referrer_number whens w) 0) (λ _. ltb (target whens w) S)
    (λ _. choose (eqb (referrer_number whens w) 1) (λ _. ltb (target whens w) own_actions)
    (λ _. eqb (referrer_number whens w) 2 && eqb (target whens w) 0))

-- the clauses of state q
unfoldable pub state_targets_right : List ℕ → List ℕ → ℕ → Bool
state_targets_right states whens q =
    each (when_count states q) (λ i. target_right (in_fours states) (action_count states q) whens (first_when states q + i))

-- 7: every referrer is at most 2, with a right target
unfoldable pub targets_right : List ℕ → List ℕ → Bool
targets_right states whens = each (in_fours states) (state_targets_right states whens)

-- 8: an action clause's command is at most 63, its zero byte is 0
abbrev pub action_right : List ℕ → ℕ → Bool
action_right actions a = leb (action_command actions a) 63 && eqb (action_zero actions a) 0

unfoldable pub actions_plain : List ℕ → Bool
actions_plain actions = each (in_fours actions) (action_right actions)

-- the command of action clause first + i is that of none from the first on
unfoldable pub new_command : List ℕ → ℕ → ℕ → Bool
new_command actions first i = each i (λ j. not (eqb (action_command actions (first + j)) (action_command actions (first + i))))

-- no command stands twice in state q
unfoldable pub none_twice : List ℕ → List ℕ → ℕ → Bool
none_twice states actions q = each (action_count states q) (new_command actions (first_action states q))

unfoldable pub commands_apart : List ℕ → List ℕ → Bool
commands_apart states actions = each (in_fours states) (none_twice states actions)

-- and the statement counts sum to T
unfoldable pub actions_right : List ℕ → List ℕ → ℕ → Bool
actions_right states actions T = actions_plain actions && (commands_apart states actions && eqb (count_sum actions 2 (in_fours actions)) T)

-- 9: every statement keeps its layout, its parts and its depth, and every if's guard keeps rule 6
unfoldable pub statements_right : ℕ → ℕ → List ℕ → List ℕ → List ℕ → Bool
statements_right K S guards actions statements = each (in_fours actions) (λ a. is_some (body_of K S guards actions statements a))
