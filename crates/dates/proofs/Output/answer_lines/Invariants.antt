-- The lines up to here are answered.
use Rattle.std.proofs.Common.{length}
use Rattle.dates.specs.Answers.{Answered}
use Rattle.dates.proofs.Output.answer_lines.Given as goal

abbrev pub invariant-loop-set : goal.invariant-loop-set
invariant-loop-set l = Answered l.set l.block l.fn.self.bytes l.fn.self.used l.self.bytes l.self.used l.rest

abbrev pub decreases-loop-set : goal.decreases-loop-set
decreases-loop-set l = length l.rest
