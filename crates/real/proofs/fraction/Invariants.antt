-- The digits that are left, summed on from here, give what all of them give from the start, and so does what follows them.
use Rattle.std.proofs.Common.{◌≡◌, ℕ, List, length}
use lib.Ieee.{Float}
use Rattle.rules.specs.Floats.{number}
use Rattle.rules.specs.Decimal.{run}
use Rattle.rules.specs.Reading.{digit_sum, scale}
use Rattle.real.proofs.fraction.Given as goal

pub record Going (s : List ℕ) (x y : Float) (rest : List ℕ) : Type 0 where
  pub sums : digit_sum x (run rest).0 ≡ digit_sum (number 0) (run s).0
  pub scales : scale y (run rest).0 ≡ scale (number 1) (run s).0
  pub follows : (run rest).1 ≡ (run s).1

abbrev pub invariant-loop-d : goal.invariant-loop-d
invariant-loop-d l = Going l.s l.sum l.scale l.rest

abbrev pub decreases-loop-d : goal.decreases-loop-d
decreases-loop-d l = length l.rest
