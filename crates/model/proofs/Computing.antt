-- One name that opens every definition of the model, and what it rests on, so that a closed question computes: `unfolding computing`.
-- Assumes nothing.
use Rattle.model.specs.Words.{keep, every, some_in, listed, each, some_below, least, greatest, total, has}
use Rattle.model.specs.Guards.{concerns, any_of, all_of, named_in, atom_holds, holds}
use Rattle.model.specs.Moves.{after, returns_soon}
use Rattle.model.specs.Node.{first_true, probe, turn_for, turn, next, sends, on_the_way, walk, phase}
use Rattle.model.specs.Running.{sent_to, run_one, run_part, goes_one, goes}
use Rattle.model.specs.Commands.{clause_for, command, command_then_phase, sent_in_all}
use Rattle.model.specs.Crews.{in_class, belongs, occurs, all_occur, fits, occupied}
use Rattle.model.specs.Sound.{statement_within, part_within}

unfoldable pub computing : Unit {0}
unfolding keep every some_in listed each some_below least greatest total has concerns any_of all_of named_in atom_holds holds after returns_soon first_true probe turn_for turn next sends on_the_way walk phase sent_to run_one run_part goes_one goes clause_for command command_then_phase sent_in_all in_class belongs occurs all_occur fits occupied statement_within part_within
computing = tt
