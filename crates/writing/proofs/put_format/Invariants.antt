-- `writing::put_format` meets its contract. Assumes nothing.
use Rattle.std.proofs.Common.{◌≤◌}
use lib.ListN.{length}
use Rattle.moment.specs.Held.{held}
use Rattle.writing.proofs.Loops.{Written}
use Rattle.writing.proofs.put_format.Given as goal

abbrev pub invariant-loop-part : goal.invariant-loop-part
invariant-loop-part l = (Written (held l.p) l.format l.fn.buf l.fn.at l.left l.buf l.next) × (l.letters ≤ 10)

abbrev pub decreases-loop-part : goal.decreases-loop-part
decreases-loop-part l = length l.left

abbrev pub invariant-loop-part-2 : goal.invariant-loop-part-2
invariant-loop-part-2 l = Written (held l.fn.p) l.format l.fn.buf l.fn.at l.left l.buf l.next

abbrev pub decreases-loop-part-2 : goal.decreases-loop-part-2
decreases-loop-part-2 l = length l.left
