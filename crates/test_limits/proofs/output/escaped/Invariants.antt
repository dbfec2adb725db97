use Rattle.std.proofs.Common.{length}
use Rattle.test_limits.proofs.output.escaped.Given as goal

abbrev pub decreases-loop-n : goal.decreases-loop-n
decreases-loop-n l = length l.rest
