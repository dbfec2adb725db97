-- The answer is that of the bytes so far, and of those from here on.
use mathlib.Core.Bool.{◌&&◌}
use mathlib.Core.Path.{◌≡◌}
use lib.Dec.{leb}
use lib.ListN.{drop}
use Rattle.rules.specs.Basics.{every}
use Rattle.text.proofs.is_ascii.Given as goal

abbrev pub invariant-loop-b : goal.invariant-loop-b
invariant-loop-b l = every (λ b. leb b 127) l.s ≡ (l.ascii && every (λ b. leb b 127) (drop l.b-index l.s))
