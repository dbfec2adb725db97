-- What is skipped of all is what is skipped of the bytes that are left.
use mathlib.Core.Path.{◌≡◌}
use lib.ListN.{length}
use Rattle.rules.specs.Basics.{skip}
use Rattle.text.proofs.skip.Given as goal

abbrev pub invariant-loop-b : goal.invariant-loop-b
invariant-loop-b g l = skip g.C.Class.holds l.fn.s ≡ skip g.C.Class.holds l.rest

abbrev pub decreases-loop-b : goal.decreases-loop-b
decreases-loop-b g l = length l.rest
