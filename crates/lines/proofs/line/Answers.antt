-- `lines::line` meets its contract. Assumes nothing.
use lib.ListN.{length}
use Rattle.rules.specs.Program.{line, line_call}
use Rattle.lines.specs.Fields.{outcome}
use Rattle.lines.proofs.Outcomes.{sound}
use Rattle.lines.proofs.Showing.{gives_shown}
use Rattle.lines.proofs.line.Goals as goal

pub show-requires : goal.show-requires
show-requires c = sound c.args.set (line_call c.args.s.now) (length c.args.out.now) c.asked-a.ensures.gives.is

pub returns-clause-value : goal.returns-clause-value
unfolding line outcome
returns-clause-value c = (gives_shown c.asked-a.ensures.gives c.asked-a.auto.out c.show.ensures.value c.show.ensures.out_after).0

pub returns-clause-out_after : goal.returns-clause-out_after
unfolding line outcome
returns-clause-out_after c = (gives_shown c.asked-a.ensures.gives c.asked-a.auto.out c.show.ensures.value c.show.ensures.out_after).1
