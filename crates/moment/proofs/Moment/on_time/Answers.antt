-- `moment::Moment::on_time` meets its contract.
use Rattle.real.proofs.Literals.{thousand}
use Rattle.moment.proofs.Bounds.{time_of}
use Rattle.moment.proofs.Moment.on_time.Goals as goal

pub returns : goal.returns
returns c = rw thousand

pub invariant_of-self : goal.invariant_of-self
invariant_of-self c = let p = c.args.self in record { date_in = p.date_in; time_in = rw thousand (time_of c.args.t c.requires p.time_in); over_in = p.over_in }
