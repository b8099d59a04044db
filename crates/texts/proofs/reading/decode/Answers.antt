-- One law for each way; the test that decides is the same in the code and in the definition.
-- Assumes nothing.
use Rattle.texts.proofs.HexLaws.{decode_none, decode_dash, decode_other, decode_wrong, decode_right}
use Rattle.texts.proofs.reading.decode.Goals as goal

pub returns-then-n-eq0-clause-decoded : goal.returns-then-n-eq0-clause-decoded
returns-then-n-eq0-clause-decoded c = decode_none _ _ c.if-n-eq0.true

pub returns-then-field-eq45-clause-decoded : goal.returns-then-field-eq45-clause-decoded
returns-then-field-eq45-clause-decoded c = decode_dash _ _ c.if-n-eq1.true c.if-field-eq45.true

pub returns-then-n-eq1-clause-decoded : goal.returns-then-n-eq1-clause-decoded
returns-then-n-eq1-clause-decoded c = decode_other _ _ c.if-n-eq1.true c.if-field-eq45.false

pub returns-then-not-right-clause-decoded : goal.returns-then-not-right-clause-decoded
returns-then-not-right-clause-decoded c = decode_wrong _ _ _ c.if-n-eq0.false c.if-n-eq1.false c.all_hex.ensures c.if-not-right.true

pub returns-clause-decoded : goal.returns-clause-decoded
returns-clause-decoded c = let t = c.if-not-right.false in
    let u = c.unpack.ensures in decode_right _ _ _ _ c.if-n-eq0.false c.if-n-eq1.false c.all_hex.ensures t u
