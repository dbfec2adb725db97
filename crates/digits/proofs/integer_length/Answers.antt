-- `digits::integer_length` meets its contract. Assumes nothing.
use mathlib.Core.Path.{ap}
use native.Mathlib.Omega.{arith}
use lib.ListN.{length}
use Rattle.digits.proofs.Signs.{minus_text, plain_text}
use Rattle.digits.proofs.integer_length.Goals as goal

pub returns-then-n-lt0 : goal.returns-then-n-lt0
returns-then-n-lt0 c = omega (arith, c.number_length.ensures.0, ap length (minus_text c.args.n c.ranges.n _ c.unsigned_abs.ensures.value c.if-n-lt0.true))

pub returns : goal.returns
returns c = omega (arith, c.number_length-2.ensures.0, ap length (plain_text c.args.n c.ranges.n _ c.unsigned_abs-2.ensures.value c.if-n-lt0.false))
