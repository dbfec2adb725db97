-- `digits::number_length` meets its contract. Assumes nothing.
use native.Mathlib.Omega.{arith}
use Rattle.digits.proofs.Decimal.{length_wide}
use Rattle.digits.proofs.number_length.Goals as goal

pub returns : goal.returns
returns c = omega (arith, length_wide c.args.least c.args.v)
