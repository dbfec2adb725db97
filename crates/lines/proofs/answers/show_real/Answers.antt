-- `lines::answers::show_real` meets its contract. Assumes nothing.
use native.Mathlib.Omega.{arith}
use lib.Ieee.{binary64, to_bits}
use Rattle.rules.specs.Program.{shown}
use Rattle.digits.proofs.Hex.{length_hex}
use Rattle.datetime.proofs.Given.{gives_text}
use Rattle.lines.proofs.answers.show_real.Goals as goal

pub returns : goal.returns
unfolding shown
returns c = gives_text (record { fits = omega (arith, c.in_ok-has_room.ensures, length_hex 16 (to_bits binary64 c.args.x)) }) c.put_hex.ensures
