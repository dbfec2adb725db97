-- `lines::calls::call` meets its contract. Assumes nothing.
use Rattle.lines.proofs.Outcomes.{julianday_gives, unixepoch_gives}
use Rattle.lines.proofs.calls.call.Goals as goal

pub returns-in-Julianday : goal.returns-in-Julianday
returns-in-Julianday c = rw c.in-Julianday.is (julianday_gives _ _ _ _ c.julianday.ensures)

pub returns-in-Unixepoch : goal.returns-in-Unixepoch
returns-in-Unixepoch c = rw c.in-Unixepoch.is (unixepoch_gives _ _ _ _ c.unixepoch.ensures)
