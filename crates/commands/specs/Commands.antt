-- What the code that handles a command answers, and what it leaves in the lent buffer.
-- Assumes nothing.
use Rattle.std.specs.Prelude.{ℕ, ◌+◌, ◌≡◌, List, Option, Some, None, eqb}
use Rattle.std.proofs.lemmas.List.Edits.{sets}
use Rattle.model.specs.Words.{maybe, least}
use Rattle.model.specs.Commands as Tree
use Rattle.model.specs.Answers.{handled_values, command_numbers, CommandAnswer}
use Rattle.model.specs.Replies.{Answered}
use Rattle.model.specs.declared.OwnState.{OwnState}
use Rattle.model.specs.declared.Handling.{Handling}
use Rattle.model.specs.declared.Handling.TheVariants.{Ignored, Handled}
use Rattle.sheet.specs.Contents.{body}
use Rattle.bodies.specs.Clauses.{first_action, action_count, action_command}
use Rattle.sheet.specs.Reading.{class_of}
use Rattle.children.specs.ChildList.{children_of}
use Rattle.commands.specs.Handling.{bytes_of_handling, handling_values, reply_commanded, commanded_values}

-- the number within state q of its action clause for a command, if there is one
unfoldable pub first_action_for : List ℕ → ℕ → ℕ → Option ℕ
first_action_for b q m = maybe (least (action_count (body b 1) q) (λ i. eqb (action_command (body b 4) (first_action (body b 1) q + i)) m)) (λ _. None) Some

-- the state that a handling leaves, and the number of its own bytes
abbrev pub left_in : Handling → OwnState
left_in (Ignored q) = q
left_in (Handled q n) = q

abbrev pub own_in : Handling → ℕ
own_in (Ignored q) = 0
own_in (Handled q n) = n

-- the values are those of the tree's handling, and its own bytes stand at the buffer's front, as far as that reaches
pub record Ran (h : Tree.Handling) (before after : List ℕ) (r : Handling) : Type 0 where
  pub values_are : handled_values r ≡ handling_values h
  pub written : after ≡ sets before 0 (bytes_of_handling h)

abbrev pub RunsCommand : List ℕ → List ℕ → ℕ → ℕ → List ℕ → List ℕ → Handling → Type 0
RunsCommand b list q m before after r = Ran (Tree.command (class_of b) (children_of list) q m) before after r

-- the answer and the buffer are those of the tree's command, with the when phase behind it
abbrev pub Handles : List ℕ → List ℕ → ℕ → ℕ → List ℕ → List ℕ → CommandAnswer → Type 0
Handles b list q m before after r =
    Answered commanded_values (reply_commanded (Tree.command_then_phase (class_of b) (children_of list) q m) before) before (command_numbers r) after
