-- `timediff::back_off` meets its contract. The measure says that at most two rounds are made after the first. Assumes nothing.
use native.Mathlib.Omega.{arith}
use Rattle.timediff.proofs.Rounds.{month_is, begun, first_round, movable, countable, again, ends}
use Rattle.timediff.proofs.back_off.Goals as goal

pub loop-a-init : goal.loop-a-init
loop-a-init c = (begun c.args.a.in_range c.args.b.in_range c.requires c.civil-date.ensures.0 c.time_of_day-time.ensures.0 (month_is _ c.civil-date.ensures.0 c.month_of-from.ensures.0) (month_is _ c.civil.ensures.0 c.month_of-to.ensures.0) c.abs_diff-months.ensures, first_round)

pub moved-requires : goal.moved-requires
moved-requires c = movable c.loop-a.invariant.0 c.loop-a.invariant.1

pub in_month-at-requires : goal.in_month-at-requires
in_month-at-requires c = record { countable = countable c.loop-a.invariant.0 c.loop-a.invariant.1 c.moved.ensures; time_bound = c.time_of_day-time.ensures.1 }

pub overflow_sub-months : goal.overflow_sub-months
overflow_sub-months c = (again c.loop-a.invariant.0 c.loop-a.invariant.1 c.moved.ensures c.in_month-at.ensures c.is_past.ensures c.if-not-is_past.false).0

pub loop-a-smaller : goal.loop-a-smaller
loop-a-smaller c = let r = again c.loop-a.invariant.0 c.loop-a.invariant.1 c.moved.ensures c.in_month-at.ensures c.is_past.ensures c.if-not-is_past.false in omega (arith, r.0, r.1)

pub loop-a-preserved : goal.loop-a-preserved
loop-a-preserved c = (c.loop-a.invariant.0, (again c.loop-a.invariant.0 c.loop-a.invariant.1 c.moved.ensures c.in_month-at.ensures c.is_past.ensures c.if-not-is_past.false).2)

pub returns : goal.returns
returns c = ends c.loop-a.invariant.0 c.loop-a.invariant.1 c.moved.ensures c.in_month-at.ensures c.is_past.ensures c.if-not-is_past.true
