-- `timediff::put_months` meets its contract. Assumes nothing.
use Rattle.digits.proofs.Buffer.{room_first, room_then, laid_then}
use Rattle.timediff.proofs.put_months.Goals as goal

pub put_years-before_months-requires : goal.put_years-before_months-requires
put_years-before_months-requires c = room_first _ _ (room_then (rw c.sign.ensures at c.put_byte-before_years.ensures) c.requires)

pub put_next-requires-clause-room : goal.put_next-requires-clause-room
put_next-requires-clause-room c = room_then c.put_years-before_months.ensures (room_then (rw c.sign.ensures at c.put_byte-before_years.ensures) c.requires)

pub returns : goal.returns
returns c = laid_then (rw c.sign.ensures at c.put_byte-before_years.ensures) (laid_then c.put_years-before_months.ensures c.put_next.ensures)
