-- `digits::year_length` meets its contract. Assumes nothing.
use mathlib.Core.Path.{sym, ap, ◌∙◌}
use native.Mathlib.Omega.{arith}
use lib.ListN.{length}
use Rattle.digits.proofs.Decimal.{length_exact}
use Rattle.digits.proofs.Texts.{year_plain, year_minus}
use Rattle.digits.proofs.year_length.Goals as goal

pub returns-then-year-ge-YEAR_0 : goal.returns-then-year-ge-YEAR_0
returns-then-year-ge-YEAR_0 c = sym (ap length (year_plain c.args.k c.args.year c.if-year-ge-YEAR_0.true) ∙ length_exact 3 _ (omega arith))

pub returns : goal.returns
returns c = omega (arith, c.number_length.ensures.0, ap length (year_minus c.args.k c.args.year c.if-year-ge-YEAR_0.false))
