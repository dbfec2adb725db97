-- `test_days::main` is safe and ends. The measure is the days that are left.
use Prim.Native.Nat.{◌-◌, ◌≤◌}
use Rattle.test_days.proofs.main.Given as goal

abbrev pub invariant-loop-number : goal.invariant-loop-number
invariant-loop-number l = l.number ≤ 5373485

abbrev pub decreases-loop-number : goal.decreases-loop-number
decreases-loop-number l = 5373485 - l.number
