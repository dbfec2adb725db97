-- `digits::put_second_decimals` meets its contract. Assumes nothing.
use mathlib.Core.Path.{sym}
use native.Mathlib.Omega.{arith}
use Rattle.real.proofs.Seconds.{minute_below, minute_thousandths}
use Rattle.digits.proofs.Floats.{three_is}
use Rattle.digits.proofs.Buffer.{room_as, room_first, room_then, laid_as, laid_then}
use Rattle.digits.proofs.put_second_decimals.Goals as goal

pub thousandths-t-requires : goal.thousandths-t-requires
thousandths-t-requires c = minute_below _ c.requires.second_in

pub overflow_cast-t : goal.overflow_cast-t
overflow_cast-t c = omega (arith, c.thousandths-t.ensures, minute_thousandths c.args.second c.requires.second_in)

pub put_digits-point-requires-clause-few_digits : goal.put_digits-point-requires-clause-few_digits
put_digits-point-requires-clause-few_digits c = omega (arith, c.thousandths-t.ensures, minute_thousandths c.args.second c.requires.second_in)

pub put_digits-point-requires-clause-room : goal.put_digits-point-requires-clause-room
put_digits-point-requires-clause-room c = room_first _ _ (room_as (three_is 2 _ _ c.thousandths-t.ensures) c.requires.room)

pub put_point-requires : goal.put_point-requires
put_point-requires c = room_then c.put_digits-point.ensures (room_as (three_is 2 _ _ c.thousandths-t.ensures) c.requires.room)

pub returns : goal.returns
returns c = laid_as (sym (three_is 2 _ _ c.thousandths-t.ensures)) (laid_then c.put_digits-point.ensures c.put_point.ensures)
