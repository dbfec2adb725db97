-- `moment::Moment::renewed` meets its contract.
use mathlib.Core.Path.{refl}
use Rattle.rules.specs.Moments.{fill}
use Rattle.moment.specs.Held.{held}
use Rattle.moment.proofs.Bounds.{undated_kept}
use Rattle.moment.proofs.Chains.{filled, then_fill, filled_as}
use Rattle.moment.proofs.Modifiers.{renew, renew_not}
use Rattle.moment.proofs.Moment.renewed.Goals as goal

pub returns-then-self-le28 : goal.returns-then-self-le28
returns-then-self-le28 c = filled_as (renew_not (held c.args.self) c.if-self-le28.true) c.fill.ensures

pub returns : goal.returns
returns c = filled_as (renew (held c.args.self) c.if-self-le28.false) (then_fill fill (filled _ (undated_kept (held c.args.self)) refl) c.filled.ensures)
