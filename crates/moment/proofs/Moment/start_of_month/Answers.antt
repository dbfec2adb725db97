-- `moment::Moment::start_of_month` meets its contract.
use mathlib.Core.Path.{refl}
use Rattle.moment.specs.Held.{held}
use Rattle.moment.specs.Steps.{first_of_month}
use Rattle.moment.proofs.Bounds.{month_kept}
use Rattle.moment.proofs.Chains.{filled, then_fill}
use Rattle.moment.proofs.Moment.start_of_month.Goals as goal

pub returns : goal.returns
returns c = then_fill first_of_month c.start_of_day-p.ensures (filled _ (month_kept (held c.start_of_day-p.result)) refl)
