-- `timediff::difference` meets its contract.
use Rattle.timediff.proofs.Answer.{tells_shift}
use Rattle.timediff.proofs.difference.Goals as goal

pub returns : goal.returns
returns c = rw c.abs_diff.ensures (tells_shift _ _ _ c.args.a.in_range c.args.b.in_range c.back_off-shift.ensures.0 c.back_off-shift.ensures.1)
