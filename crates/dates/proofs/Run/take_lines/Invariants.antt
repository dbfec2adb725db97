-- The block's last line is that of the rest.
use Rattle.std.proofs.Common.{◌≡◌, length}
use Rattle.dates.specs.Answers.{last_in}
use Rattle.dates.proofs.Run.take_lines.Given as goal

abbrev pub invariant-loop-self : goal.invariant-loop-self
invariant-loop-self l = last_in l.block ≡ last_in l.rest

abbrev pub decreases-loop-self : goal.decreases-loop-self
decreases-loop-self l = length l.rest
