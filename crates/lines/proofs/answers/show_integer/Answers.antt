-- `lines::answers::show_integer` meets its contract. Assumes nothing.
use mathlib.Core.Path.{ap}
use native.Mathlib.Omega.{arith}
use lib.IntN.{ℤ}
use lib.ListN.{length}
use mir.Syntax.{w64}
use mir.ValLaws.{to_z-of_z}
use Rattle.rules.specs.Program.{shown}
use Rattle.rules.specs.Writing.{integer_text}
use Rattle.digits.proofs.Buffer.{laid_as}
use Rattle.datetime.proofs.Given.{gives_text}
use Rattle.lines.proofs.answers.show_integer.Goals as goal

pub returns : goal.returns
unfolding shown
returns c =
    let e = to_z-of_z w64 c.args.n c.ranges.n in
    gives_text (record { fits = omega (arith, c.in_ok-has_room.ensures, c.integer_length.ensures, ap (λ (z : ℤ). length (integer_text z)) e) }) (laid_as (ap integer_text e) c.put_integer.ensures)
