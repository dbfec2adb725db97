-- `timediff::put_rest` meets its contract. Assumes nothing.
use Rattle.digits.proofs.Buffer.{laid_then}
use Rattle.timediff.proofs.put_rest.Goals as goal

pub returns : goal.returns
returns c = laid_then c.put_next-before_hour.ensures (laid_then c.put_next-before_minute.ensures (laid_then c.put_next-before_second.ensures (laid_then c.put_next-point.ensures (rw c.from.ensures at c.put_point.ensures))))
