-- `digits::width` meets its contract. Assumes nothing.
use native.Mathlib.Omega.{arith}
use Rattle.digits.proofs.Decimal.{width_is}
use Rattle.digits.proofs.width.Goals as goal

pub returns : goal.returns
returns c = (omega (arith, width_is 19 c.ilog10.result c.args.v (omega arith) (omega arith) (omega arith)), omega arith)
