-- Demands 1, 2 and 3 hold of whatever meets the promises of the face.
-- Assumes nothing.
use mathlib.Core.Path.{refl}
use Rattle.readings.proofs.ReadLaws.{reads}
use Rattle.readings.specs.Promise.{came}
use Rattle.bargewicker.specs.Demands.{Demands}
use Rattle.bargewicker.proofs.Demand1.{demand_1, accepted_exactly}
use Rattle.bargewicker.proofs.Demand2.{probe_right, phase_right, moves_first, sends_first}
use Rattle.bargewicker.proofs.CommandRight.{command_right, same_phase}
use Rattle.bargewicker.proofs.Demand3.{demand_3}
use Rattle.bargewicker.proofs.TextRight.{text_right}
use Rattle.bargewicker.proofs.WrittenBack.{written_back}
use Rattle.std.specs.Prelude.{Ok}

pub demands : Demands
demands =
    record {
      demand1 = demand_1;
      accepted = accepted_exactly;
      reading = λ q r sheet table a. reads.rows q (came r sheet table) a;
      read = λ q length states sheet table b a. reads.right q (came (Ok (length, states)) sheet table) b a length states refl;
      writing = text_right;
      written_back = written_back;
      probing = probe_right;
      phasing = λ b l q out a. phase_right b l q a out;
      commanding = λ b l q m out a small. command_right b l q a m small out;
      phase_behind = λ b l q m out a small. same_phase b l q a m small out;
      moving = moves_first;
      sending = sends_first;
      demand3 = demand_3;
    }
