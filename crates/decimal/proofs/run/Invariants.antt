-- The digits that are left bring the number that is held to that of all of them.
use Rattle.std.proofs.Common.{◌≡◌, ℕ, ◌≤◌, List, length}
use Rattle.rules.specs.Decimal.{run, value}
use Rattle.decimal.specs.Held.{held}
use Rattle.decimal.proofs.Limits.{most}
use Rattle.decimal.proofs.run.Given as goal

pub record Going (s : List ℕ) (before v : ℕ) (rest : List ℕ) : Type 0 where
  pub number : held (value v (run rest).0) ≡ held (value before (run s).0)
  pub follows : (run rest).1 ≡ (run s).1
  pub fits : v ≤ most
  pub shorter : length rest ≤ length s

abbrev pub invariant-loop-d : goal.invariant-loop-d
invariant-loop-d l = Going l.s l.«from» l.value l.rest

abbrev pub decreases-loop-d : goal.decreases-loop-d
decreases-loop-d l = length l.rest
