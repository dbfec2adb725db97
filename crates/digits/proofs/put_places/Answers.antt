-- `digits::put_places` meets its contract. Assumes nothing.
use mathlib.Core.Path.{◌≡◌, sym}
use native.Mathlib.Omega.{arith}
use Rattle.digits.proofs.Decimal.{places_are, length_places, tenth_below}
use Rattle.digits.proofs.Buffer.{laid_as}
use Rattle.digits.proofs.Down.{down_turn, down_first}
use Rattle.digits.proofs.put_places.Goals as goal

pub overflow_add-buf-in-loop-i : goal.overflow_add-buf-in-loop-i
overflow_add-buf-in-loop-i c = omega (arith, c.requires.room.fits, length_places c.args.n c.args.v)

pub bounds-buf-at : goal.bounds-buf-at
bounds-buf-at c = omega (arith, c.requires.room.fits, length_places c.args.n c.args.v)

pub loop-i-preserved : goal.loop-i-preserved
loop-i-preserved c = let i = c.loop-i.invariant in record { low = omega arith; below = tenth_below _ _ (omega arith) i.below; down = down_turn (omega arith) i.down }

pub bounds-buf-at-2 : goal.bounds-buf-at-2
bounds-buf-at-2 c = omega (arith, c.requires.room.fits, length_places c.args.n c.args.v)

pub overflow_add-result : goal.overflow_add-result
overflow_add-result c = omega (arith, c.requires.room.fits, length_places c.args.n c.args.v)

pub returns : goal.returns
returns c =
    let i = c.loop-i.invariant in
    let e : c.loop-i.i ≡ 1 = omega arith in
    laid_as (sym (places_are _ _)) (down_first e (rw e at i.below) i.down)
