-- `test_days::day_back` takes nothing from 0: the day that is found back is the day of the instant.
use native.Mathlib.Omega.{arith}
use Rattle.calendar.proofs.Instants.{date_of_lem, day_low, day_zero_lem}
use Rattle.test_days.proofs.day_back.Goals as goal

pub overflow_sub-result : goal.overflow_sub-result
overflow_sub-result c =
    let t = c.args.noon in
    rw (c.days_to.ensures.0, c.civil.ensures.0, (date_of_lem t.ms t.in_range.to).counted) (omega (arith, day_low t.ms t.in_range.from, day_zero_lem))
