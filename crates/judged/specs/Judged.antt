-- What holds of the class of every accepted sheet: all that a class within the limits has, but for the number of guard records. A sheet may
-- share guard records between clauses, so that written out they can be more than 1,024.
-- Assumes nothing.
use Rattle.std.specs.Prelude.{◌<◌, ◌≤◌, length}
use Rattle.model.specs.Tree.{Class}
use Rattle.encoding.specs.Encoding.{when_records, action_records, statement_records}
use Rattle.encoding.specs.Limits.{operators, part_depth, guards_of, actions_of}
use Rattle.encoding.specs.Numbers.{Every, Numbers}

pub record Judged (c : Class) : Type 0 where
  -- each number names what there is
  pub numbers : Numbers c
  -- at most 8 child classes, 1 to 32 states, 256 when clauses, 256 action clauses, 1,024 statements
  pub classes : length c.children ≤ 8
  pub some_state : 1 ≤ length c.states
  pub states : length c.states ≤ 32
  pub whens : length (when_records c) ≤ 256
  pub actions : length (action_records c) ≤ 256
  pub statements : length (statement_records c) ≤ 1024
  -- no child class has an empty set
  pub sets : Every (λ s. 0 < s) c.children
  -- at most 16 operators lie on one path of a guard
  pub paths : Every (λ g. operators g ≤ 16) (guards_of c)
  -- ifs are at most 8 deep
  pub depths : Every (λ a. part_depth a.body ≤ 8) (actions_of c)
