-- `next_from`: a byte for each answer of the turn; a target is below 32, so 255 is none.
-- Assumes nothing.
use Rattle.loops.proofs.TableLaws.{moves_byte, stops_byte}
use Rattle.loops.proofs.chase.next_from.Goals as goal

pub returns-in-Moves : goal.returns-in-Moves
returns-in-Moves c = moves_byte _ _ c.args.sheet.stands _ _ _ _ _ _ c.turn_from-turned.ensures c.args.sheet.small _ c.in-Moves.is

pub returns-in-Stops : goal.returns-in-Stops
returns-in-Stops c = stops_byte _ _ c.args.sheet.stands _ _ _ _ _ _ c.turn_from-turned.ensures _ c.in-Stops.is
