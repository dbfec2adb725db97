-- `decimal::nearest::quotient` meets its contract.
use native.Mathlib.Nat.{lt_of_lt_of_le}
use native.Mathlib.Omega.{arith}
use lib.Pow.{pow_pos}
use Rattle.decimal.proofs.nearest.Powers.{division_begins, division_ends, turn}
use Rattle.decimal.proofs.nearest.quotient.Goals as goal

pub loop-m-init : goal.loop-m-init
loop-m-init c = division_begins c.args.n c.args.by c.requires.1 (omega arith) c.ranges.n.fits

pub zeros-requires : goal.zeros-requires
zeros-requires c = lt_of_lt_of_le (pow_pos c.loop-m.t) c.loop-m.invariant.2

pub overflow_add-m : goal.overflow_add-m
overflow_add-m c = record { fits = (turn _ _ _ _ _ _ _ c.requires.2 c.loop-m-test.true c.zeros.ensures c.min-j.ensures c.loop-m.invariant).goes.3 }

pub overflow_add-t : goal.overflow_add-t
overflow_add-t c = omega (arith, (turn _ _ _ _ _ _ _ c.requires.2 c.loop-m-test.true c.zeros.ensures c.min-j.ensures c.loop-m.invariant).short)

pub loop-m-smaller : goal.loop-m-smaller
loop-m-smaller c = let h = turn _ _ _ _ _ _ _ c.requires.2 c.loop-m-test.true c.zeros.ensures c.min-j.ensures c.loop-m.invariant in omega (arith, h.some, h.short)

pub loop-m-preserved : goal.loop-m-preserved
loop-m-preserved c = (turn _ _ _ _ _ _ _ c.requires.2 c.loop-m-test.true c.zeros.ensures c.min-j.ensures c.loop-m.invariant).goes

pub returns : goal.returns
returns c = division_ends _ _ _ _ _ c.loop-m.invariant c.loop-m-test.false
