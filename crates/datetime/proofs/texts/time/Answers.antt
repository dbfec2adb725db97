-- `datetime::texts::time` meets its contract.
use native.Mathlib.Omega.{arith}
use Rattle.datetime.proofs.Given.{gives_text}
use Rattle.datetime.proofs.texts.time.Goals as goal

pub returns : goal.returns
returns c = gives_text (record { fits = omega (arith, c.time_length.ensures.0, c.in_ok-has_room.ensures) }) c.put_time.ensures
