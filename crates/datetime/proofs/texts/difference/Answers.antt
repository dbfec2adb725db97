-- `datetime::texts::difference` meets its contract.
use native.Mathlib.Omega.{arith}
use Rattle.datetime.proofs.Given.{gives_text}
use Rattle.datetime.proofs.texts.difference.Goals as goal

pub returns : goal.returns
returns c = let span = c.difference-span.ensures in
    rw span.text at (gives_text (record { fits = omega (arith, c.span_length.ensures.0, c.in_ok-has_room.ensures) }) c.put_span.ensures)
