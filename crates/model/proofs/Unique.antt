-- A promise that is an equation leaves one result, and the readings in which promises are stated tell results apart.
-- Assumes nothing.
use mathlib.Core.Path.{sym, ◌∙◌}
use Rattle.model.specs.Unique.{Equations, Readings}
use Rattle.model.proofs.RefusalLaws.{same_number}
use Rattle.model.proofs.AnswerLaws.{same_state, same_referrer, same_probed, same_ending, same_phase, same_judge, same_probe, same_phase_answer, same_command, same_loop, same_read, same_write}

pub equations : Equations
equations =
    record {
      named = λ {A} x r s e f. e ∙ sym f;
      read = λ {A} {B} reading apart x r s e f. apart r s (e ∙ sym f);
    }

pub readings : Readings
readings =
    record {
      refusals = same_number;
      states = same_state;
      referrers = same_referrer;
      probes = same_probed;
      endings = same_ending;
      phases = same_phase;
      judging = same_judge;
      probing = same_probe;
      phasing = same_phase_answer;
      commanding = same_command;
      looping = same_loop;
      reading = same_read;
      writing = same_write;
    }
