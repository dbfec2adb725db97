-- `moment::Moment::utc` meets its contract.
use mathlib.Core.Path.{sym}
use native.Mathlib.Omega.{arith}
use lib.IntN.{pos, neg_ℤ, ◌*ℤ◌}
use Rattle.rules.specs.Moments.{set_utc}
use Rattle.moment.specs.Ranges.{most_before}
use Rattle.moment.proofs.Chains.{same, then_move, move_fill, moved_as, no_move, filled_as}
use Rattle.moment.proofs.Modifiers.{step, utc_stays, utc_is}
use Rattle.moment.proofs.Ways.{abs_neg, abs_product, back_minus_seconds}
use Rattle.moment.proofs.Moment.utc.Goals as goal

pub returns-then-self : goal.returns-then-self
returns-then-self c = no_move (filled_as (sym (utc_stays _ _ c.if-self.true)) (same c.args.self))

pub moved-requires : goal.moved-requires
moved-requires c = let o = c.args.offset in
    (c.count_ms.ensures.after most_before c.requires, rw (back_minus_seconds o.seconds o.within) (omega (arith, abs_product (neg_ℤ o.seconds) 1000, abs_neg o.seconds, o.within)))

pub returns : goal.returns
returns c = let o = c.args.offset in
    moved_as (utc_is o.seconds _ c.if-self.false)
    (move_fill set_utc (then_move (step (neg_ℤ o.seconds *ℤ pos 1000)) c.count_ms.ensures (rw (back_minus_seconds o.seconds o.within) at c.moved.ensures)) c.known_utc.ensures)
