-- What is trimmed of all is what is trimmed of the bytes that are left.
use mathlib.Core.Path.{◌≡◌}
use lib.ListN.{length}
use Rattle.rules.specs.Basics.{trim_end}
use Rattle.text.proofs.trim_end.Given as goal

abbrev pub invariant-loop-b : goal.invariant-loop-b
invariant-loop-b g l = trim_end g.C.Class.holds l.fn.s ≡ trim_end g.C.Class.holds l.rest

abbrev pub decreases-loop-b : goal.decreases-loop-b
decreases-loop-b g l = length l.rest
