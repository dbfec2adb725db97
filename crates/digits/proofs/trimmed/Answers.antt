-- `digits::trimmed` meets its contract. Assumes nothing.
use mathlib.Core.Path.{sym, ◌∙◌}
use native.Mathlib.Omega.{arith}
use Rattle.digits.proofs.Decimal.{tenth_below}
use Rattle.digits.proofs.Trim.{trim_more, trim_end_lem, trim_none}
use Rattle.digits.proofs.trimmed.Goals as goal

pub returns-then-value-ne0 : goal.returns-then-value-ne0
returns-then-value-ne0 c = let i = c.loop-count.invariant in record { few = omega arith; fits = i.fits; shows = trim_end_lem _ _ (omega arith) c.if-value-ne0.true ∙ sym i.zeros }

pub loop-count-preserved : goal.loop-count-preserved
loop-count-preserved c = let i = c.loop-count.invariant in record { low = omega arith; high = omega arith; fits = tenth_below _ _ (omega arith) i.fits; zeros = i.zeros ∙ trim_more _ _ (omega arith) c.if-value-ne0.false }

pub returns : goal.returns
returns c = record { few = omega arith; fits = omega arith; shows = trim_none _ _ (omega arith) ∙ sym c.loop-count.invariant.zeros }
