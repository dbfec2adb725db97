-- `writing::put_whole_time` meets its contract. Assumes nothing.
use Rattle.digits.proofs.Buffer.{laid_then}
use Rattle.writing.proofs.put_whole_time.Goals as goal

pub returns : goal.returns
returns c = laid_then c.put_to_second-second.ensures c.put_second.ensures
