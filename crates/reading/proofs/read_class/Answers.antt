-- `read_class` meets its contract: by the first wrong word, or as `read_text` answers.
-- Assumes nothing.
use Rattle.reading.proofs.Answering.{found_wrong, found_fine}
use Rattle.reading.proofs.read_class.Goals as goal

pub returns-in-Err : goal.returns-in-Err
returns-in-Err c = found_wrong _ _ _ c.first_wrong.ensures c.in-Err.is

pub returns : goal.returns
returns c = found_fine _ _ _ c.read_text.result _ _ c.first_wrong.ensures c.in_default.is c.read_text.ensures
