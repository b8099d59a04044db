-- A class as a tree: name sets, states, when clauses with their guards, action clauses with their statements.
-- Own states, child names and child classes are numbers of three kinds; a field says which it holds.
-- Assumes nothing.
use Rattle.std.specs.Prelude.{ℕ, List, []}

-- a child: its class and the name of the state that it is in
pub record Child : Type 0 where
  pub class : ℕ
  pub name : ℕ

-- whom an atom or a do speaks of: all children (FwCHILDREN), or those of one child class
pub data Pattern : Type 0 where
  everyone : Pattern
  of_class : ℕ → Pattern

pub data Kind : Type 0 where
  any_in any_not_in all_in all_not_in : Kind

-- an atom has its pattern and its name set; both is 'and', either is 'or', opposite is 'not'
pub data Guard : Type 0 where
  atom : Kind → Pattern → ℕ → Guard
  both : Guard → Guard → Guard
  either : Guard → Guard → Guard
  opposite : Guard → Guard

-- MOVE_TO an own state, DO the action clause of that number within this state, STAY
pub data Referrer : Type 0 where
  move_to : ℕ → Referrer
  run : ℕ → Referrer
  stay : Referrer

pub record When : Type 0 where
  pub guard : Guard
  pub referrer : Referrer

infixr 60 ◌then◌
-- send is 'do': a command for the children of a pattern; go-to is 'move_to' an own state; branch is 'if' with its two parts
mutual
  pub data Statement : Type 0 where
    send : ℕ → Pattern → Statement
    go_to : ℕ → Statement
    branch : Guard → Part → Part → Statement

  pub data Part : Type 0 where
    end : Part
    ◌then◌ : Statement → Part → Part

pub record Action : Type 0 where
  pub command : ℕ
  pub body : Part

pub record State : Type 0 where
  pub whens : List When
  pub actions : List Action

-- children: the name set of each child class
pub record Class : Type 0 where
  pub children : List ℕ
  pub states : List State

-- what stands past the end of a list: a state with no clauses, a clause that stays, an action that does nothing
abbrev pub no_state : State
no_state = record { whens = []; actions = [] }

abbrev pub no_action : Action
no_action = record { command = 0; body = end }
