-- `digits::put_julian` meets its contract. Assumes nothing.
use mathlib.Core.Path.{sym}
use native.Mathlib.Omega.{arith}
use mathlib.Core.List.{[], ◌∷◌}
use Rattle.digits.proofs.Trim.{julian_whole, julian_point, julian_room}
use Rattle.digits.proofs.Buffer.{room_as, room_first, room_then, laid_as, laid_then}
use Rattle.digits.proofs.put_julian.Goals as goal

pub put_number-point-requires : goal.put_number-point-requires
put_number-point-requires c = julian_room _ _ _ c.julian_billionths-n.ensures c.trimmed-count.ensures c.requires.room

pub returns-then-count-eq0 : goal.returns-then-count-eq0
returns-then-count-eq0 c = laid_as (sym (julian_whole _ _ _ c.julian_billionths-n.ensures c.trimmed-count.ensures c.if-count-eq0.true)) c.put_number-point.ensures

pub put_byte-digits-requires : goal.put_byte-digits-requires
put_byte-digits-requires c = room_first (46 ∷ []) _ (room_then c.put_number-point.ensures (room_as (julian_point _ _ _ c.julian_billionths-n.ensures c.trimmed-count.ensures (omega (arith, c.if-count-eq0.false))) c.requires.room))

pub put_places-requires-clause-room : goal.put_places-requires-clause-room
put_places-requires-clause-room c = room_then c.put_byte-digits.ensures (room_then c.put_number-point.ensures (room_as (julian_point _ _ _ c.julian_billionths-n.ensures c.trimmed-count.ensures (omega (arith, c.if-count-eq0.false))) c.requires.room))

pub returns : goal.returns
returns c = laid_as (sym (julian_point _ _ _ c.julian_billionths-n.ensures c.trimmed-count.ensures (omega (arith, c.if-count-eq0.false)))) (laid_then c.put_number-point.ensures (laid_then c.put_byte-digits.ensures c.put_places.ensures))
