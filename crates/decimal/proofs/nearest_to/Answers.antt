-- `decimal::nearest_to` meets its contract.
use Rattle.std.proofs.Common.{sym, arith}
use native.Mathlib.Nat.{le_of_lt}
use Rattle.decimal.proofs.Limits.{zero, signed, none, too_long, too_far, raised, divided}
use Rattle.decimal.proofs.nearest_to.Goals as goal
use Rattle.decimal.proofs.nearest_to.Goals.{then-d-ge-OVER-via-then-d-ge-OVER, then-d-ge-OVER-via-else-d-ge-OVER+then-abs_diff-gt-POWER, then-down-up, else-down-up}

pub returns-then-d-eq0 : goal.returns-then-d-eq0
returns-then-d-eq0 c = rw (c.with_sign.ensures, zero, signed, none _ _ _ _ c.if-d-eq0.true)

pub returns-then-d-ge-OVER : goal.returns-then-d-ge-OVER
returns-then-d-ge-OVER c =
    elim c.then-d-ge-OVER.branch [
      | then-d-ge-OVER-via-then-d-ge-OVER w ↦ sym (too_long _ _ _ _ w.if-d-ge-OVER.true)
      | then-d-ge-OVER-via-else-d-ge-OVER+then-abs_diff-gt-POWER w ↦ sym (too_far _ _ _ _ c.if-d-eq0.false (rw (← w.abs_diff.ensures) w.if-abs_diff-gt-POWER.true))
    ]

pub returns : goal.returns
returns c =
    elim c.if-down-up.branch [
      | then-down-up w ↦ rw (c.with_sign-2.ensures, w.x-is, w.above-x.ensures, signed, raised _ _ _ _ c.if-d-eq0.false c.if-d-ge-OVER.false w.if-down-up.true (omega (arith, c.abs_diff.ensures)))
      | else-down-up w ↦ rw (c.with_sign-2.ensures, w.x-is, w.below-x.ensures, signed, divided _ _ _ _ c.if-d-eq0.false c.if-d-ge-OVER.false (le_of_lt w.if-down-up.false) (omega (arith, c.abs_diff.ensures)))
    ]
