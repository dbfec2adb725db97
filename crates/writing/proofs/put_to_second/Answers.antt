-- `writing::put_to_second` meets its contract. Assumes nothing.
use Rattle.digits.proofs.Buffer.{laid_then}
use Rattle.writing.proofs.put_to_second.Goals as goal

pub returns : goal.returns
returns c = laid_then c.put_clock-colon.ensures c.put_byte.ensures
