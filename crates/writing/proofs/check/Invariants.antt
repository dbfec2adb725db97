-- `writing::check` meets its contract. Assumes nothing.
use lib.ListN.{length}
use Rattle.moment.specs.Held.{held}
use Rattle.writing.proofs.Loops.{Summed}
use Rattle.writing.proofs.check.Given as goal

abbrev pub invariant-loop-part : goal.invariant-loop-part
invariant-loop-part l = Summed (held l.p) l.format l.left l.most

abbrev pub decreases-loop-part : goal.decreases-loop-part
decreases-loop-part l = length l.left
