-- `moment::Moment::floor` meets its contract.
use Prim.Native.Nat.{◌*◌}
use native.Mathlib.Omega.{arith}
use lib.IntN.{pos, neg_ℤ}
use mathlib.Core.Bool.{true}
use Rattle.rules.specs.Calendar.{day_length}
use Rattle.rules.specs.Moments.{set_over}
use Rattle.moment.specs.Held.{held}
use Rattle.moment.specs.Ranges.{most_before}
use Rattle.moment.proofs.Chains.{then_move, move_fill, moved_as}
use Rattle.moment.proofs.Modifiers.{step, floor_is}
use Rattle.moment.proofs.Ways.{back_minus, abs_signed}
use Rattle.moment.proofs.Moment.floor.Goals as goal

pub moved-requires : goal.moved-requires
moved-requires c = let q = c.count_ms-p.ensures in
    let n = c.count_ms-p.result.over * day_length in
    (q.after most_before c.requires, rw (back_minus n (omega (arith, c.count_ms-p.result.over_in))) (omega (arith, c.count_ms-p.result.over_in, abs_signed true n)))

pub returns : goal.returns
returns c = let q = c.count_ms-p.ensures in
    let n = c.count_ms-p.result.over * day_length in
    moved_as (floor_is (held c.args.self)) (move_fill (λ p. set_over p 0) (then_move (λ p. step (neg_ℤ (pos (p.over * day_length))) p) q (rw (back_minus n (omega (arith, c.count_ms-p.result.over_in))) at c.moved.ensures)) c.not_over.ensures)
