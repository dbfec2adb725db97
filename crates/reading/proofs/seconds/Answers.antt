-- `reading::seconds` meets its contract.
use native.Mathlib.Omega.{arith}
use Rattle.real.proofs.Literals.{nil}
use Rattle.reading.proofs.Fractions.{zero_minute, minute}
use Rattle.reading.proofs.seconds.Goals as goal

pub returns-in_default-clause-in_minute : goal.returns-in_default-clause-in_minute
returns-in_default-clause-in_minute c = λ h. rw nil zero_minute

pub returns-clause-in_minute : goal.returns-clause-in_minute
returns-clause-in_minute c = λ h. let k = c.in_ok-n.ensures in let l = c.in-Some.ensures in rw c.fraction-f.ensures.value (minute c.in_ok-n.n (omega (arith, k)) c.in_ok-n.point.now (omega (arith, k, l)))
