-- `digits::put_second` meets its contract. Assumes nothing.
use native.Mathlib.Omega.{arith}
use Rattle.real.proofs.Seconds.{minute_whole}
use Rattle.digits.proofs.put_second.Goals as goal

pub overflow_cast-whole : goal.overflow_cast-whole
overflow_cast-whole c = omega (arith, c.whole.ensures, minute_whole c.args.second c.requires.second_in)

pub put_digits-requires-clause-few_digits : goal.put_digits-requires-clause-few_digits
put_digits-requires-clause-few_digits c = omega (arith, c.whole.ensures, minute_whole c.args.second c.requires.second_in)
