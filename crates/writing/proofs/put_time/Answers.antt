-- `writing::put_time` meets its contract. Assumes nothing.
use mathlib.Core.Path.{sym}
use Rattle.digits.proofs.Buffer.{room_as, laid_as}
use Rattle.writing.proofs.Texts.{time_decimals, time_whole}
use Rattle.writing.proofs.put_time.Goals as goal

pub put_decimal_time-requires-clause-room : goal.put_decimal_time-requires-clause-room
put_decimal_time-requires-clause-room c = room_as (time_decimals _ c.if-p.true) c.requires.room

pub put_whole_time-requires-clause-room : goal.put_whole_time-requires-clause-room
put_whole_time-requires-clause-room c = room_as (time_whole _ c.if-p.false) c.requires.room

pub returns-then-p : goal.returns-then-p
returns-then-p c = laid_as (sym (time_decimals _ c.if-p.true)) c.put_decimal_time.ensures

pub returns-else-p : goal.returns-else-p
returns-else-p c = laid_as (sym (time_whole _ c.if-p.false)) c.put_whole_time.ensures
