-- `moment::Moment::start_of_year` meets its contract.
use mathlib.Core.Path.{refl}
use Rattle.moment.specs.Held.{held}
use Rattle.moment.specs.Steps.{first_of_year}
use Rattle.moment.proofs.Bounds.{year_kept}
use Rattle.moment.proofs.Chains.{filled, then_fill}
use Rattle.moment.proofs.Moment.start_of_year.Goals as goal

pub returns : goal.returns
returns c = then_fill first_of_year c.start_of_day-p.ensures (filled _ (year_kept (held c.start_of_day-p.result)) refl)
