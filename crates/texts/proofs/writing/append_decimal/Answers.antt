-- `io::decimal` makes the digits, which are the number's decimal text.
-- Assumes nothing.
use native.Mathlib.Omega.{arith}
use mathlib.Core.Path.{◌∙◌}
use Rattle.texts.proofs.Appending.{appended_same}
use Rattle.texts.proofs.Decimals.{decimal_digits}
use Rattle.texts.proofs.writing.append_decimal.Goals as goal

pub returns : goal.returns
returns c =
    let d = c.decimal-k.ensures in
    let n = c.args.n in
    appended_same _ _ _ _ _ _ (d.digits ∙ decimal_digits n _ (omega arith) d.len) c.append_bytes.ensures
