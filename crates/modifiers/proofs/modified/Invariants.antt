-- The modifiers of the rest, applied to the record so far, bring what all of them bring.
use Rattle.std.proofs.Common.{length}
use Rattle.moment.specs.Held.{held}
use Rattle.modifiers.proofs.Walks.{Going}
use Rattle.modifiers.proofs.modified.Given as goal

abbrev pub invariant-loop-s : goal.invariant-loop-s
invariant-loop-s l = Going l.offset.seconds l.buffer (held l.fn.p) (held l.q) l.rest l.i

abbrev pub decreases-loop-s : goal.decreases-loop-s
decreases-loop-s l = length l.rest
