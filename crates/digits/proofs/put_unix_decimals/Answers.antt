-- `digits::put_unix_decimals` meets its contract. Assumes nothing.
use Prim.Native.Nat.{◌/◌}
use mathlib.Core.Path.{sym}
use mathlib.Core.List.{◌∷◌}
use Rattle.rules.specs.Writing.{wide}
use Rattle.digits.proofs.Floats.{unix_is_minus, unix_is_plain}
use Rattle.digits.proofs.Buffer.{room_as, room_first, room_then, laid_as, laid_then}
use Rattle.digits.proofs.put_unix_decimals.Goals as goal

pub put_minus-point-requires : goal.put_minus-point-requires
put_minus-point-requires c = room_first (45 ∷ wide 1 (c.unix_thousandths-t.result / 1000)) _ (room_as (unix_is_minus _ _ c.if-ms-lt-UNIX_EPOCH.true c.unix_thousandths-t.ensures) c.requires.room)

pub put_point-requires : goal.put_point-requires
put_point-requires c = room_then c.put_minus-point.ensures (room_as (unix_is_minus _ _ c.if-ms-lt-UNIX_EPOCH.true c.unix_thousandths-t.ensures) c.requires.room)

pub returns-then-ms-lt-UNIX_EPOCH : goal.returns-then-ms-lt-UNIX_EPOCH
returns-then-ms-lt-UNIX_EPOCH c = laid_as (sym (unix_is_minus _ _ c.if-ms-lt-UNIX_EPOCH.true c.unix_thousandths-t.ensures)) (laid_then c.put_minus-point.ensures c.put_point.ensures)

pub put_number-point-requires : goal.put_number-point-requires
put_number-point-requires c = room_first _ _ (room_as (unix_is_plain _ _ c.if-ms-lt-UNIX_EPOCH.false c.unix_thousandths-t.ensures) c.requires.room)

pub put_point-requires-2 : goal.put_point-requires-2
put_point-requires-2 c = room_then c.put_number-point.ensures (room_as (unix_is_plain _ _ c.if-ms-lt-UNIX_EPOCH.false c.unix_thousandths-t.ensures) c.requires.room)

pub returns : goal.returns
returns c = laid_as (sym (unix_is_plain _ _ c.if-ms-lt-UNIX_EPOCH.false c.unix_thousandths-t.ensures)) (laid_then c.put_number-point.ensures c.put_point-2.ensures)
