-- `writing::put_unix` meets its contract. Assumes nothing.
use mathlib.Core.Path.{sym}
use Rattle.digits.proofs.Buffer.{room_as, laid_as}
use Rattle.writing.proofs.Texts.{unix_decimals_lem, unix_whole}
use Rattle.writing.proofs.put_unix.Goals as goal

pub put_unix_decimals-requires-clause-room : goal.put_unix_decimals-requires-clause-room
put_unix_decimals-requires-clause-room c = room_as (unix_decimals_lem _ c.if-p.true) c.requires.room

pub put_integer-requires : goal.put_integer-requires
put_integer-requires c = room_as (unix_whole _ _ c.if-p.false c.unix_seconds.type_inv c.unix_seconds.ensures) c.requires.room

pub returns-then-p : goal.returns-then-p
returns-then-p c = laid_as (sym (unix_decimals_lem _ c.if-p.true)) c.put_unix_decimals.ensures

pub returns-else-p : goal.returns-else-p
returns-else-p c = laid_as (sym (unix_whole _ _ c.if-p.false c.unix_seconds.type_inv c.unix_seconds.ensures)) c.put_integer.ensures
