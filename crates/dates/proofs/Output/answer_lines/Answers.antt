use Rattle.dates.proofs.Ended.{answers_start, answers_on, answers_all}
use Rattle.dates.proofs.Output.answer_lines.Goals as goal

pub loop-set-init : goal.loop-set-init
loop-set-init c = answers_start

pub returns-in_default : goal.returns-in_default
returns-in_default c = answers_all c.loop-set.invariant (rw c.in_default.is at c.cut.ensures)

pub loop-set-preserved : goal.loop-set-preserved
loop-set-preserved c = answers_on c.loop-set.invariant (rw c.in-Some.is at c.cut.ensures) c.put_line.ensures
