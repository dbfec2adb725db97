-- `decimal::digits_form` meets its contract.
use Rattle.std.proofs.Common.{sym, arith, rules}
use Rattle.decimal.proofs.Readers.{digits_none, without_exponent, with_exponent}
use Rattle.decimal.proofs.digits_form.Goals as goal

pub returns-then-all-eq0 : goal.returns-then-all-eq0
returns-then-all-eq0 c = sym (digits_none _ _ _ _ c.run-ones.ensures c.point-all.ensures c.if-ones-eq0.true c.if-all-eq0.true)

pub returns-in_err-scaled-in-Some : goal.returns-in_err-scaled-in-Some
returns-in_err-scaled-in-Some c = rw (with_exponent _ _ _ _ c.run-ones.ensures c.point-all.ensures c.in-Some.e (omega arith) (omega (arith, c.well_formed)) c.in-Some.ensures) (search rules)

pub returns-in_ok-scaled-in-Some : goal.returns-in_ok-scaled-in-Some
returns-in_ok-scaled-in-Some c = rw (with_exponent _ _ _ _ c.run-ones.ensures c.point-all.ensures c.in-Some.e (omega arith) (omega (arith, c.well_formed)) c.in-Some.ensures) (search rules)

pub returns-in-None : goal.returns-in-None
returns-in-None c = sym (without_exponent _ _ _ _ c.run-ones.ensures c.point-all.ensures (omega arith) (omega (arith, c.well_formed)) c.in-None.ensures)
