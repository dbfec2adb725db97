-- `datetime::texts::date` meets its contract.
use native.Mathlib.Omega.{arith}
use Rattle.datetime.proofs.Given.{gives_text}
use Rattle.datetime.proofs.texts.date.Goals as goal

pub returns : goal.returns
returns c = gives_text (record { fits = omega (arith, c.date_length.ensures.0, c.in_ok-has_room.ensures) }) c.put_date.ensures
