-- `writing::format_length` meets its contract. Assumes nothing.
use lib.ListN.{length}
use Rattle.moment.specs.Held.{held}
use Rattle.writing.proofs.Loops.{Counted}
use Rattle.writing.proofs.format_length.Given as goal

abbrev pub invariant-loop-part : goal.invariant-loop-part
invariant-loop-part l = Counted (held l.p) l.format l.left l.n

abbrev pub decreases-loop-part : goal.decreases-loop-part
decreases-loop-part l = length l.left
