-- `timediff::put_span` meets its contract. Assumes nothing.
use mathlib.Core.Path.{sym}
use Rattle.digits.proofs.Buffer.{room_as, room_first, room_then, laid_as, laid_then}
use Rattle.timediff.proofs.Text.{span_parts}
use Rattle.timediff.proofs.put_span.Goals as goal

pub put_months-days-requires : goal.put_months-days-requires
put_months-days-requires c = room_first _ _ (room_as (span_parts _) c.requires.room)

pub put_rest-requires-clause-room : goal.put_rest-requires-clause-room
put_rest-requires-clause-room c = room_then c.put_months-days.ensures (room_as (span_parts _) c.requires.room)

pub returns : goal.returns
returns c = laid_as (sym (span_parts _)) (laid_then c.put_months-days.ensures c.put_rest.ensures)
