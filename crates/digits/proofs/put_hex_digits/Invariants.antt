-- `digits::put_hex_digits` meets its contract. Assumes nothing.
use Rattle.digits.specs.Writers.{hex_digit}
use Rattle.digits.proofs.Down.{Down}
use Rattle.digits.proofs.put_hex_digits.Given as goal

abbrev pub invariant-loop-i : goal.invariant-loop-i
invariant-loop-i l = Down hex_digit 16 l.fn.buf l.at l.n l.v l.buf l.i l.rest
