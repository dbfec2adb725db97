-- `decimal::nearest::pack` meets its contract: what rounding adds is 0 or 1.
use native.Mathlib.Omega.{arith}
use Rattle.real.proofs.Pack.{near11, up11_le}
use Rattle.decimal.proofs.nearest.Powers.{no_nan}
use Rattle.decimal.proofs.nearest.pack.Goals as goal

pub overflow_add-result : goal.overflow_add-result
overflow_add-result c = omega (arith, c.up11-up.ensures, up11_le c.args.m c.args.sticky)

pub overflow_add-result-2 : goal.overflow_add-result-2
overflow_add-result-2 c = omega (arith, c.from.ensures, c.up11-up.ensures, up11_le c.args.m c.args.sticky)

pub float_from_bits-result : goal.float_from_bits-result
float_from_bits-result c = no_nan _ (omega (arith, c.from.ensures, c.up11-up.ensures, up11_le c.args.m c.args.sticky))

pub returns : goal.returns
unfolding near11
returns c = rw (c.from.ensures, c.up11-up.ensures)
