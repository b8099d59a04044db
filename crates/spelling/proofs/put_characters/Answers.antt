-- `put_characters` writes the characters, which are the bytes that it cuts off.
-- Assumes nothing.
use Rattle.pen.proofs.Puts.{puts_as}
use Rattle.lists.proofs.RecordLaws.{front_is}
use Rattle.spelling.proofs.put_characters.Goals as goal

pub returns : goal.returns
returns c = puts_as (front_is _ _ c.name_length-n.ensures) c.put_bytes.ensures
