-- `moment::Moment::start_of_day` meets its contract.
use Rattle.moment.specs.Held.{held}
use Rattle.real.proofs.Literals.{nil}
use native.Mathlib.Omega.{arith}
use Rattle.moment.proofs.Bounds.{at_start, midnight_in, start_kept}
use Rattle.moment.proofs.Chains.{filled, then_fill}
use Rattle.moment.proofs.Moment.start_of_day.Goals as goal

pub returns : goal.returns
returns c = then_fill at_start c.fill_date-p.ensures (filled _ (start_kept (held c.fill_date-p.result)) (rw nil))

pub invariant_of-p : goal.invariant_of-p
invariant_of-p c = record { date_in = c.fill_date-p.result.date_in; time_in = rw nil midnight_in; over_in = omega arith }
