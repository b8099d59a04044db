-- What the code that runs statements answers, and what it leaves in the lent buffer.
-- Assumes nothing.
use Rattle.std.specs.Prelude.{ℕ, ◌+◌, ◌<◌, ◌≤◌, ◌≡◌, Bool, List, length, Option as Maybe, Some, None}
use Rattle.std.proofs.Math.Option.{Option, none, some}
use Rattle.std.proofs.lemmas.List.Edits.{sets}
use Rattle.model.specs.Tree.{Pattern, Statement, Part, ◌then◌}
use Rattle.model.specs.Guards.{concerns}
use Rattle.model.specs.declared.OwnState.{OwnState}
use Rattle.model.specs.Running as Tree
use Rattle.model.specs.Node.{action_of}
use Rattle.bodies.specs.PartChecks.{Reads}
use Rattle.sheet.specs.Reading.{class_of}
use Rattle.children.specs.ChildList.{children_of, sent_bytes}
use Rattle.children.specs.NameSets.{Crewed}
use Rattle.running.specs.declared.Ran.{Ran}

-- a child of class i is one of the pattern's, whatever its name
unfoldable pub concerned : Pattern → ℕ → Bool
concerned p i = concerns p (record { class = i; name = 0 })

-- commands stand in the buffer from a place on, as far as it reaches, and end is the place behind them
pub record Writes (sent : List Tree.Sent) (before after : List ℕ) (at end : ℕ) : Type 0 where
  pub buffer : after ≡ sets before at (sent_bytes sent)
  pub place : end ≡ at + length (sent_bytes sent)

-- the place behind commands that are sent from a place on is small enough to be counted
abbrev pub Counted : List Tree.Sent → ℕ → Type 0
Counted sent at = at + length (sent_bytes sent) < 1000000000000

-- where a move_to leads, if one ended the clause
abbrev pub Moved : Type 0
Moved = Maybe OwnState

-- the state moved to, as the tree has it
abbrev pub moved_as : Moved → Option ℕ
moved_as None = none
moved_as (Some t) = some t.0

-- what was run sent these commands and moved there
pub record Does (t : Tree.Ran) (before after : List ℕ) (at : ℕ) (r : Ran) : Type 0 where
  pub writes : Writes t.sent before after at r.at
  pub moved : moved_as r.moved ≡ t.moved

-- the list reads as a part, the sets show the children that it is run on, and what it sends can be counted
pub record Room (sets g list part : List ℕ) (at : ℕ) : Type 0 where
  pub crewed : Crewed sets (children_of list)
  pub short : length list ≤ 8192
  pub tree : Part
  pub reads : Reads g part tree
  pub counted : Counted (Tree.run_part tree (children_of list)).sent at

-- the part that the list reads as was run
abbrev pub RunsPart : List ℕ → List ℕ → List ℕ → List ℕ → List ℕ → ℕ → Ran → Type 0
RunsPart g list part before after at r = (p : Part) → Reads g part p → Does (Tree.run_part p (children_of list)) before after at r

-- the statement that it begins with was run
abbrev pub RunsIf : List ℕ → List ℕ → List ℕ → List ℕ → List ℕ → ℕ → Ran → Type 0
RunsIf g list part before after at r = (s : Statement) (p : Part) → Reads g part (s then p) → Does (Tree.run_one s (children_of list)) before after at r

-- the sets show the children of a list, of whom there are at most 4,096
pub record Runnable (sets list : List ℕ) : Type 0 where
  pub crewed : Crewed sets (children_of list)
  pub short : length list ≤ 8192

-- action clause a of state q was run
abbrev pub RunsAction : List ℕ → List ℕ → ℕ → ℕ → List ℕ → List ℕ → ℕ → Ran → Type 0
RunsAction b list q a before after at r = Does (Tree.run_part (action_of (class_of b) q a).body (children_of list)) before after at r
