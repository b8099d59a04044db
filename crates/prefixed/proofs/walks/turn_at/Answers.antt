-- `prefixed::walks::turn_at` meets its contract.
-- Assumes nothing.
use Rattle.prefixed.proofs.WalkLaws.{by_mark, any_turn, all_turn, and_turn, or_turn, not_turn, edge_done, open_done, close_done, other_done}
use Rattle.prefixed.proofs.walks.turn_at.Goals as goal

pub returns-in-Any : goal.returns-in-Any
returns-in-Any c = any_turn _ _ _ _ c.in-Any.is c.put_atom.ensures

pub returns-in-All : goal.returns-in-All
returns-in-All c = all_turn _ _ _ _ c.in-All.is c.put_atom-in-All.ensures

pub returns-in-Edge : goal.returns-in-Edge
returns-in-Edge c =
    let p = c.requires.0 in
    by_mark _ _ _ _ _ c.in-Edge.is (edge_done _ _ _ _ _ _ p)

pub returns-in-And : goal.returns-in-And
returns-in-And c = and_turn _ _ _ _ c.in-And.is c.put_operator.ensures

pub returns-in-Or : goal.returns-in-Or
returns-in-Or c = or_turn _ _ _ _ c.in-Or.is c.put_operator-in-Or.ensures

pub returns-in-Not : goal.returns-in-Not
returns-in-Not c = not_turn _ _ _ _ c.in-Not.is c.put_record.ensures

pub returns-in-Open : goal.returns-in-Open
returns-in-Open c =
    let p = c.requires.0 in
    by_mark _ _ _ _ _ c.in-Open.is (open_done _ _ _ _ _ _ p)

pub returns-in-Close : goal.returns-in-Close
returns-in-Close c =
    let p = c.requires.0 in
    by_mark _ _ _ _ _ c.in-Close.is (close_done _ _ _ _ _ _ p _ c.saturating_sub.ensures)

pub returns-in-Other : goal.returns-in-Other
returns-in-Other c =
    let p = c.requires.0 in
    by_mark _ _ _ _ _ c.in-Other.is (other_done _ _ _ _ _ _ p)
