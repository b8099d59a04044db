-- Each verb's question is asked.
-- Assumes nothing.
use Rattle.asking.proofs.AskingLaws.{judge_put, same_verb}
use Rattle.asking.specs.Asking.{sheet_answer}
use Rattle.asking.proofs.ask_sheet.Goals as goal

pub returns-in-Judge : goal.returns-in-Judge
returns-in-Judge c = judge_put _ _ _ _ _ _ _ c.in-Judge.is c.judge.ensures.numbers_are c.judge_line.ensures

pub returns-in-Loop : goal.returns-in-Loop
unfolding sheet_answer
returns-in-Loop c = same_verb _ _ _ _ _ _ _ c.in-Loop.is c.ask_loop.ensures

pub returns-in-Placed : goal.returns-in-Placed
unfolding sheet_answer
returns-in-Placed c = same_verb _ _ _ _ _ _ _ c.in-Placed.is c.ask_list.ensures

pub returns-in-Read : goal.returns-in-Read
unfolding sheet_answer
returns-in-Read c = same_verb _ _ _ _ _ _ _ c.in-Read.is c.ask_names.ensures

pub returns-in-Write : goal.returns-in-Write
unfolding sheet_answer
returns-in-Write c = same_verb _ _ _ _ _ _ _ c.in-Write.is c.ask_own_name.ensures

pub returns-in-Other : goal.returns-in-Other
unfolding sheet_answer
returns-in-Other c = same_verb _ _ _ _ _ _ _ c.in-Other.is c.bad_line.ensures
