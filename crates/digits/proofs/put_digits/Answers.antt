-- `digits::put_digits` meets its contract. Assumes nothing.
use mathlib.Core.Path.{sym}
use Rattle.digits.proofs.Decimal.{wide_exactly}
use Rattle.digits.proofs.Buffer.{room_as, laid_as}
use Rattle.digits.proofs.put_digits.Goals as goal

pub put_places-requires-clause-room : goal.put_places-requires-clause-room
put_places-requires-clause-room g c = room_as (wide_exactly _ _ c.requires.some_digits c.requires.few_digits) c.requires.room

pub returns : goal.returns
returns g c = laid_as (sym (wide_exactly _ _ c.requires.some_digits c.requires.few_digits)) c.put_places.ensures
