-- `writing::put_date` meets its contract. Assumes nothing.
use mathlib.Core.Path.{sym}
use Rattle.digits.proofs.Buffer.{room_as, laid_as}
use Rattle.writing.proofs.Texts.{date_is}
use Rattle.writing.proofs.put_date.Goals as goal

pub put_ymd-requires-clause-room : goal.put_ymd-requires-clause-room
put_ymd-requires-clause-room c = room_as (date_is _) c.requires.room

pub returns : goal.returns
returns c = laid_as (sym (date_is _)) c.put_ymd.ensures
