-- The machine by numbers: which words can stand, by what is wanted and what is open, and what is wanted behind them.
-- Assumes nothing.
use Rattle.std.specs.Prelude.{ℕ, zero, suc, Bool, true, false, List, [], ◌∷◌}
use Rattle.grammar.specs.Grammar.{class_word, state_word, action_word, top_word, any_word, all_word, when_word, move_word, do_word, stay_word, if_word, then_word, else_word, endif_word, and_word, or_word, not_word, in_word, out_word, children_word, open_word, close_word, left_word, right_word, comma_word, end_word}
use Rattle.steps.specs.declared.Want.{Want}
use Rattle.steps.specs.declared.Want.TheVariants.{Start, ClassRead, TopRead, ClassNamed, StateRead, InWhens, OperandWanted, KinWanted, SideWanted, SetWanted, LeftRead, CommaRead, NamesRead, OperandRead, MoveRead, DoRead, StayRead, ActionRead, Statements, SendRead, CommandRead, SendAllRead, GoRead, Finished}

-- a kind of word that can stand, and what is wanted behind it
pub record Turn : Type 0 where
  pub kind : ℕ
  pub want : Want

-- at a fixed word, by its number; at a name
abbrev pub at : ℕ → Want → Turn
at k w = record { kind = suc k; want = w }

abbrev pub at_name : Want → Turn
at_name w = record { kind = 0; want = w }

unfoldable pub action_turns : List Turn
action_turns = at action_word ActionRead ∷ at state_word StateRead ∷ at end_word Finished ∷ []

unfoldable pub when_turns : List Turn
when_turns = at when_word OperandWanted ∷ action_turns

unfoldable pub operand_turns : List Turn
operand_turns = at not_word OperandWanted ∷ at open_word OperandWanted ∷ at any_word KinWanted ∷ at all_word KinWanted ∷ []

-- where a guard can end, by its open brackets and whether it is an if's
unfoldable pub closing_turns : ℕ → Bool → List Turn
closing_turns zero false = at move_word MoveRead ∷ at do_word DoRead ∷ at stay_word StayRead ∷ []
closing_turns zero true = at then_word Statements ∷ []
closing_turns (suc n) i = at close_word OperandRead ∷ []

-- where a statement list can end, by the open ifs and whether the innermost one had its else
unfoldable pub ending_turns : ℕ → Bool → List Turn
ending_turns zero e = action_turns
ending_turns (suc d) false = at else_word Statements ∷ at endif_word Statements ∷ []
ending_turns (suc d) true = at endif_word Statements ∷ []

unfoldable pub operator_turns : ℕ → Bool → List Turn
operator_turns n i = at and_word OperandWanted ∷ at or_word OperandWanted ∷ closing_turns n i

unfoldable pub statement_turns : ℕ → Bool → List Turn
statement_turns d e = at do_word SendRead ∷ at move_word GoRead ∷ at if_word OperandWanted ∷ ending_turns d e

-- by what is wanted, the open brackets, whether the guard is an if's, the open ifs, whether the innermost one had its else
unfoldable pub turns : Want → ℕ → Bool → ℕ → Bool → List Turn
turns Start n i d e = at class_word ClassRead ∷ []
turns ClassRead n i d e = at top_word TopRead ∷ []
turns TopRead n i d e = at_name ClassNamed ∷ []
turns ClassNamed n i d e = at state_word StateRead ∷ []
turns StateRead n i d e = at_name InWhens ∷ []
turns InWhens n i d e = when_turns
turns OperandWanted n i d e = operand_turns
turns KinWanted n i d e = at children_word SideWanted ∷ at_name SideWanted ∷ []
turns SideWanted n i d e = at in_word SetWanted ∷ at out_word SetWanted ∷ []
turns SetWanted n i d e = at_name OperandRead ∷ at left_word LeftRead ∷ []
turns LeftRead n i d e = at_name NamesRead ∷ []
turns CommaRead n i d e = at_name NamesRead ∷ []
turns NamesRead n i d e = at comma_word CommaRead ∷ at right_word OperandRead ∷ []
turns OperandRead n i d e = operator_turns n i
turns MoveRead n i d e = at_name InWhens ∷ []
turns DoRead n i d e = at_name InWhens ∷ []
turns StayRead n i d e = at_name InWhens ∷ when_turns
turns ActionRead n i d e = at_name Statements ∷ []
turns Statements n i d e = statement_turns d e
turns SendRead n i d e = at_name CommandRead ∷ []
turns CommandRead n i d e = at all_word SendAllRead ∷ []
turns SendAllRead n i d e = at children_word Statements ∷ at_name Statements ∷ []
turns GoRead n i d e = at_name Statements ∷ []
turns Finished n i d e = []
