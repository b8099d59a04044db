-- `tabulate`: the table of the first q states, `Tabulating`; past the last state no move is made.
-- Assumes nothing.
use native.Mathlib.Omega.{arith}
use borrow.Author.Rules.{rules}
use Rattle.loops.proofs.TableLaws.{tabulating_start, tabulating_more, tabulating_end}
use Rattle.loops.proofs.chase.tabulate.Goals as goal

pub loop-q-init : goal.loop-q-init
loop-q-init c = (search rules, tabulating_start _ _)

pub loop-q-preserved : goal.loop-q-preserved
loop-q-preserved c = (search rules, tabulating_more _ _ _ _ _ c.loop-q.invariant.1 (omega arith) c.next_from.ensures)

pub returns : goal.returns
returns c = tabulating_end _ _ _ c.args.sheet.stands _ _ _ c.loop-q.invariant.1 c.state_count-q-end.ensures.0 (omega arith)
