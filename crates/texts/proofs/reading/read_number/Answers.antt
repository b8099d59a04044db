-- One way for each number of digits.
-- Assumes nothing.
use native.Mathlib.Omega.{arith}
use mathlib.Core.Logic.{inl, inr}
use mathlib.Core.Path.{sym}
use Rattle.texts.proofs.FieldLaws.{number_one, one_wrong, number_two, two_wrong, number_three, three_wrong, number_none}
use Rattle.texts.proofs.reading.read_number.Goals as goal

pub returns-in_err-digit_value-in-len1 : goal.returns-in_err-digit_value-in-len1
returns-in_err-digit_value-in-len1 c = one_wrong _ _ (omega (arith, c.in-len1.len_at_least, c.in-len1.len_below)) c.in_err-digit_value-in-len1.ensures c.from_residual.ensures

pub returns-in_ok-digit_value-in-len1 : goal.returns-in_ok-digit_value-in-len1
returns-in_ok-digit_value-in-len1 c =
    let z = c.in_ok-digit_value-in-len1.ensures in
    number_one _ _ _ (omega (arith, c.in-len1.len_at_least, c.in-len1.len_below)) z.0 z.1 c.in_range.ensures

pub returns-in_err-tens-in-len2 : goal.returns-in_err-tens-in-len2
returns-in_err-tens-in-len2 c = two_wrong _ _ (omega (arith, c.in-len2.len_at_least, c.in-len2.len_below)) (inl c.in_err-tens-in-len2.ensures) c.from_residual-in_err-tens-in-len2.ensures

pub returns-in_err-ones-in-len2 : goal.returns-in_err-ones-in-len2
returns-in_err-ones-in-len2 c = two_wrong _ _ (omega (arith, c.in-len2.len_at_least, c.in-len2.len_below)) (inr c.in_err-ones-in-len2.ensures) c.from_residual-in_err-ones-in-len2.ensures

pub returns-in_ok-ones-in-len2 : goal.returns-in_ok-ones-in-len2
returns-in_ok-ones-in-len2 c =
    let y = c.in_ok-tens-in-len2.ensures in
    let z = c.in_ok-ones-in-len2.ensures in
    number_two _ _ _ _ (omega (arith, c.in-len2.len_at_least, c.in-len2.len_below)) y.0 y.1 z.0 z.1 c.in_range-in-len2.ensures

pub returns-in_err-hundreds-in-len3 : goal.returns-in_err-hundreds-in-len3
returns-in_err-hundreds-in-len3 c = three_wrong _ _ (omega (arith, c.in-len3.len_at_least, c.in-len3.len_below)) (inl c.in_err-hundreds-in-len3.ensures) c.from_residual-in_err-hundreds-in-len3.ensures

pub returns-in_err-tens-in-len3 : goal.returns-in_err-tens-in-len3
returns-in_err-tens-in-len3 c = three_wrong _ _ (omega (arith, c.in-len3.len_at_least, c.in-len3.len_below)) (inr (inl c.in_err-tens-in-len3.ensures)) c.from_residual-in_err-tens-in-len3.ensures

pub returns-in_err-ones-in-len3 : goal.returns-in_err-ones-in-len3
returns-in_err-ones-in-len3 c = three_wrong _ _ (omega (arith, c.in-len3.len_at_least, c.in-len3.len_below)) (inr (inr c.in_err-ones-in-len3.ensures)) c.from_residual-in_err-ones-in-len3.ensures

pub returns-in_ok-ones-in-len3 : goal.returns-in_ok-ones-in-len3
returns-in_ok-ones-in-len3 c =
    let x = c.in_ok-hundreds-in-len3.ensures in
    let y = c.in_ok-tens-in-len3.ensures in
    let z = c.in_ok-ones-in-len3.ensures in
    number_three _ _ _ _ _ (omega (arith, c.in-len3.len_at_least, c.in-len3.len_below)) x.0 x.1 y.0 y.1 z.0 z.1 c.in_range-in-len3.ensures

pub returns-in_default : goal.returns-in_default
returns-in_default c =
    let e = c.in_default.len_below in
    sym (number_none _ (λ h. omega (arith, h, e)) (λ h. omega (arith, h, e)) (λ h. omega (arith, h, e)))

pub returns-in_default-2 : goal.returns-in_default-2
returns-in_default-2 c =
    let e = c.in_default.len_at_least in
    sym (number_none _ (λ h. omega (arith, h, e)) (λ h. omega (arith, h, e)) (λ h. omega (arith, h, e)))
