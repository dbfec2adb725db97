use Rattle.std.proofs.Common.{arith}
use Rattle.moment.proofs.Ways.{back_pos, back_minus}
use Rattle.rows.proofs.Numbers.{with_minus, without_minus}
use Rattle.rows.proofs.offset_of.Goals as goal

pub returns-in-Some : goal.returns-in-Some
returns-in-Some c =
    let within = c.number.ensures.within in
    rw (with_minus _ _ _ c.in-Some.ensures.value, ← c.number.ensures.value) (back_minus _ (omega (arith, within)))

pub returns : goal.returns
returns c =
    let within = c.number-2.ensures.within in
    rw (without_minus 86399 _ c.in_default.ensures.value, ← c.number-2.ensures.value) (back_pos _ (omega (arith, within)))
