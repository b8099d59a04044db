-- A class that a sheet can stand for: its numbers are right, and it passes no limit.
-- Assumes nothing.
use Rattle.std.specs.Prelude.{◌<◌, ◌≤◌, length}
use Rattle.model.specs.Tree.{Class}
use Rattle.encoding.specs.Encoding.{when_records, all_guards, action_records, statement_records}
use Rattle.encoding.specs.Limits.{operators, part_depth, guards_of, actions_of}
use Rattle.encoding.specs.Numbers.{Every, Numbers}

-- the limits are those of specs/Limits.antt
pub record Within (c : Class) : Type 0 where
  pub numbers : Numbers c
  pub classes : length c.children ≤ 8
  pub some_state : 1 ≤ length c.states
  pub states : length c.states ≤ 32
  pub whens : length (when_records c) ≤ 256
  pub guards : length (all_guards c) ≤ 1024
  pub actions : length (action_records c) ≤ 256
  pub statements : length (statement_records c) ≤ 1024
  pub sets : Every (λ s. 0 < s) c.children
  pub paths : Every (λ g. operators g ≤ 16) (guards_of c)
  pub depths : Every (λ a. part_depth a.body ≤ 8) (actions_of c)
