-- `reading::date_from` meets its contract.
use native.Mathlib.Omega.{arith}
use Rattle.text.specs.Places.{gap}
use Rattle.text.proofs.Runs.{skip_le}
use Rattle.reading.proofs.date_from.Goals as goal

pub time_after-requires : goal.time_after-requires
time_after-requires c = rw c.skip.ensures (omega (arith, skip_le gap c.in_ok-y.rest.now, c.in_ok-y.ensures))

pub returns-clause-after : goal.returns-clause-after
returns-clause-after c = c.settled.ensures.after 0 (c.past_end.ensures.after 0 (c.on_date.ensures.after 0 c.in_ok-p.ensures.after))
