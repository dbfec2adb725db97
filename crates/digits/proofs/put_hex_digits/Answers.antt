-- `digits::put_hex_digits` meets its contract. Assumes nothing.
use mathlib.Core.Path.{sym}
use native.Mathlib.Omega.{arith}
use Rattle.digits.proofs.Hex.{hex_is, length_hex}
use Rattle.digits.proofs.Buffer.{laid_as}
use Rattle.digits.proofs.Down.{down_turn, down_end}
use Rattle.digits.proofs.put_hex_digits.Goals as goal

pub overflow_add-buf : goal.overflow_add-buf
overflow_add-buf c = omega (arith, c.requires.fits, length_hex c.args.n c.args.v)

pub bounds-buf-at : goal.bounds-buf-at
bounds-buf-at c = omega (arith, c.requires.fits, length_hex c.args.n c.args.v)

pub loop-i-preserved : goal.loop-i-preserved
loop-i-preserved c = rw c.hex_digit.ensures (down_turn c.loop-i-test.true c.loop-i.invariant)

pub overflow_add-result : goal.overflow_add-result
overflow_add-result c = omega (arith, c.requires.fits, length_hex c.args.n c.args.v)

pub returns : goal.returns
returns c = laid_as (sym (hex_is _ _)) (down_end (omega arith) c.loop-i.invariant)
