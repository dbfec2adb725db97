-- `digits::trimmed` meets its contract. Assumes nothing.
use Prim.Native.Nat.{◌-◌, ◌^◌, ◌≤◌, ◌<◌}
use mathlib.Core.Path.{◌≡◌}
use Rattle.rules.specs.Basics.{is, trim_end}
use Rattle.rules.specs.Writing.{places}
use Rattle.digits.proofs.trimmed.Given as goal

abbrev pub invariant-loop-count : goal.invariant-loop-count
invariant-loop-count l = record {
  low : 1 ≤ l.count;
  high : l.count ≤ 10;
  fits : l.value < 10 ^ (l.count - 1);
  zeros : trim_end (is "0") (places 9 l.n) ≡ trim_end (is "0") (places (l.count - 1) l.value);
}
