-- A worked example: the text of the paper's sheet A is read back as its class.
-- Assumes nothing.
use native.Mathlib.Omega.{arith}
use mathlib.Core.Path.{refl}
use Rattle.sheet.specs.Reading.{class_of}
use Rattle.sheet.specs.Samples.{sheet_A}
use Rattle.encoding.specs.Numbers.{Numbers}
use Rattle.writings.proofs.Examples.{press, opened}
use Rattle.readback.specs.Back.{ReadBack}
use Rattle.readback.proofs.Back.{read_back}

-- its numbers are right
A_numbers : Numbers (class_of sheet_A)
unfolding opened
A_numbers =
    record {
      sets = ((omega arith), tt);
      states = (
        record { whens = ((((omega arith), (omega arith), (omega arith)), (omega arith)), tt); actions = tt; none_twice = λ i j k l e. omega arith },
        (record { whens = ((((omega arith), (omega arith), (omega arith)), (omega arith)), tt); actions = tt; none_twice = λ i j k l e. omega arith }, tt),
      );
    }

pub A_read_back : ReadBack press (class_of sheet_A)
unfolding opened
A_read_back = read_back press (class_of sheet_A) refl A_numbers (omega arith)
