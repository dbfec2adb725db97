-- `lines::answers::show_text` meets its contract. Assumes nothing.
use native.Mathlib.Omega.{arith}
use Rattle.datetime.proofs.Given.{gives_text}
use Rattle.lines.proofs.answers.show_text.Goals as goal

pub returns : goal.returns
returns c = gives_text (record { fits = omega (arith, c.in_ok-has_room.ensures) }) c.put_bytes.ensures
