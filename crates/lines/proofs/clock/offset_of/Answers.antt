-- `lines::clock::offset_of` meets its contract. Assumes nothing.
use mathlib.Core.Path.{ap}
use native.Mathlib.Omega.{arith}
use Rattle.rules.specs.Basics.{got}
use Rattle.moment.proofs.Ways.{back_pos, back_minus}
use Rattle.lines.proofs.Numbers.{near_west, near_east}
use Rattle.lines.proofs.clock.offset_of.Goals as goal

pub returns-in_err-number_of-in-Some : goal.returns-in_err-number_of-in-Some
returns-in_err-number_of-in-Some c = rw (c.from_residual.ensures, near_west _ _ c.in-Some.ensures.value, ← c.number_of.ensures.value, c.in_err-number_of-in-Some.was)

pub returns-in_err-number_of-in-None : goal.returns-in_err-number_of-in-None
returns-in_err-number_of-in-None c = rw (c.from_residual-in_err-number_of-in-None.ensures, near_east _ c.in-None.ensures.value, ← c.number_of-in-None.ensures.value, c.in_err-number_of-in-None.was)

pub returns-in_ok-number_of-in-Some : goal.returns-in_ok-number_of-in-Some
returns-in_ok-number_of-in-Some c =
    let h = c.in_ok-number_of-in-Some.ensures.at_most in
    rw (near_west _ _ c.in-Some.ensures.value, ← c.number_of.ensures.value, c.in_ok-number_of-in-Some.was) (ap got (back_minus _ (omega (arith, h))))

pub returns-in_ok-number_of-in-None : goal.returns-in_ok-number_of-in-None
returns-in_ok-number_of-in-None c =
    let h = c.in_ok-number_of-in-None.ensures.at_most in
    rw (near_east _ c.in-None.ensures.value, ← c.number_of-in-None.ensures.value, c.in_ok-number_of-in-None.was) (ap got (back_pos _ (omega (arith, h))))
