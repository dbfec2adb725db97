-- `datetime::texts::datetime` meets its contract.
use native.Mathlib.Omega.{arith}
use Rattle.rules.specs.Writing.{date_text, time_text}
use Rattle.digits.proofs.Buffer.{laid_then}
use Rattle.moment.specs.Held.{held}
use Rattle.datetime.proofs.Given.{gives_text, parted_length}
use Rattle.datetime.proofs.texts.datetime.Goals as goal

pub returns : goal.returns
returns c = let p = held c.args.p in
    gives_text (record { fits = omega (arith, c.date_length.ensures.0, c.time_length.ensures.0, c.in_ok-has_room.ensures, parted_length (date_text p) (time_text p) 32) }) (laid_then (laid_then c.put_date-space.ensures c.put_byte-after.ensures) c.put_time.ensures)
