-- `moment::Moment::to_weekday` meets its contract.
use mathlib.Core.Bool.{false}
use Prim.Native.Nat.{◌*◌}
use native.Mathlib.Omega.{arith}
use lib.IntN.{pos}
use Rattle.rules.specs.Calendar.{day_length}
use Rattle.rules.specs.Moments.{count_ms, set_counted}
use Rattle.rules.specs.Modifiers.{days_on}
use Rattle.moment.specs.Held.{held}
use Rattle.moment.specs.Ranges.{most_before}
use Rattle.moment.proofs.Chains.{then_fill, then_move, moved_as}
use Rattle.moment.proofs.Modifiers.{step, weekday_is}
use Rattle.moment.proofs.Ways.{back_pos}
use Rattle.moment.proofs.Moment.to_weekday.Goals as goal

pub moved-requires : goal.moved-requires
moved-requires c = let d = c.days_on in
    (c.count_ms-p.ensures.after most_before (c.uncounted.ensures.after most_before (c.fill.ensures.after most_before c.requires.0)), rw (back_pos (d.result * day_length) (omega (arith, d.ensures.1))) (omega (arith, d.ensures.1)))

pub returns : goal.returns
returns c = let d = c.days_on in
    let f = then_fill count_ms (then_fill (λ p. set_counted p false) c.fill.ensures c.uncounted.ensures) c.count_ms-p.ensures in
    moved_as (weekday_is c.args.n (held c.args.self)) (then_move (λ p. step (pos (days_on c.args.n p.ms * day_length)) p) f (rw (back_pos (d.result * day_length) (omega (arith, d.ensures.1)), d.ensures.0) at c.moved.ensures))
