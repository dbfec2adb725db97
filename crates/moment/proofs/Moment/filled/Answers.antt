-- `moment::Moment::filled` meets its contract.
use Rattle.rules.specs.Moments.{fill_time, fill}
use Rattle.moment.proofs.Chains.{then_fill}
use Rattle.moment.proofs.Moment.filled.Goals as goal

pub returns : goal.returns
unfolding fill
returns c = then_fill fill_time c.fill_date.ensures c.fill_time.ensures
