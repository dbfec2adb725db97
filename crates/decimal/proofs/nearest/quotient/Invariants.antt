-- `decimal::nearest::quotient` meets its contract. Assumes nothing.
use Prim.Native.Nat.{◌-◌}
use Rattle.decimal.proofs.nearest.Powers.{Dividing}
use Rattle.decimal.proofs.nearest.quotient.Given as goal

abbrev pub invariant-loop-m : goal.invariant-loop-m
invariant-loop-m l = Dividing l.n l.by l.m l.r l.t

abbrev pub decreases-loop-m : goal.decreases-loop-m
decreases-loop-m l = 64 - l.t
