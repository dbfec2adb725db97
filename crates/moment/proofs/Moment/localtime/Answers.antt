-- `moment::Moment::localtime` meets its contract.
use mathlib.Core.Path.{sym}
use native.Mathlib.Omega.{arith}
use lib.IntN.{pos, ◌*ℤ◌}
use Rattle.rules.specs.Moments.{set_local}
use Rattle.moment.specs.Ranges.{most_before}
use Rattle.moment.proofs.Chains.{same, then_move, move_fill, moved_as, no_move, filled_as}
use Rattle.moment.proofs.Modifiers.{step, local_stays, local_is}
use Rattle.moment.proofs.Ways.{abs_product, back_seconds}
use Rattle.moment.proofs.Moment.localtime.Goals as goal

pub returns-then-self : goal.returns-then-self
returns-then-self c = no_move (filled_as (sym (local_stays _ _ c.if-self.true)) (same c.args.self))

pub moved-requires : goal.moved-requires
moved-requires c = let o = c.args.offset in
    (c.count_ms.ensures.after most_before c.requires, rw (back_seconds o.seconds o.within) (omega (arith, abs_product o.seconds 1000, o.within)))

pub returns : goal.returns
returns c = let o = c.args.offset in
    moved_as (local_is o.seconds _ c.if-self.false)
    (move_fill set_local (then_move (step (o.seconds *ℤ pos 1000)) c.count_ms.ensures (rw (back_seconds o.seconds o.within) at c.moved.ensures)) c.known_local.ensures)
