-- The digits that are left, after those whose number is v, bring the number of all of them.
use Prim.Native.Nat.{◌-◌, ◌^◌, ◌<◌}
use lib.ListN.{drop}
use mathlib.Core.Path.{◌≡◌}
use mathlib.Core.List.{◌++◌}
use Rattle.rules.specs.Basics.{digits_on}
use Rattle.text.proofs.digits.Given as goal

abbrev pub invariant-loop-b : goal.invariant-loop-b
invariant-loop-b g l = record { left : digits_on g.row.N 0 l.s ≡ digits_on (g.row.N - l.b-index) l.v (drop l.b-index l.front ++ l.rest); small : l.v < 10 ^ l.b-index }
