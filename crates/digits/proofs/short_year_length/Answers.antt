-- `digits::short_year_length` meets its contract. Assumes nothing.
use mathlib.Core.Path.{sym, ap, ◌∙◌}
use native.Mathlib.Omega.{arith}
use lib.ListN.{length}
use Rattle.digits.proofs.Decimal.{length_exact}
use Rattle.digits.proofs.Texts.{short_plain, short_century, short_minus}
use Rattle.digits.proofs.short_year_length.Goals as goal

pub returns-then-year-ge-YEAR_0 : goal.returns-then-year-ge-YEAR_0
returns-then-year-ge-YEAR_0 c = sym (ap length (short_plain c.args.year c.if-year-ge-YEAR_0.true) ∙ length_exact 1 _ (omega arith))

pub returns-then-back-eq0 : goal.returns-then-back-eq0
returns-then-back-eq0 c = sym (ap length (short_century c.args.year c.if-year-ge-YEAR_0.false c.if-back-eq0.true) ∙ length_exact 1 _ (omega arith))

pub returns : goal.returns
returns c = omega (arith, c.number_length.ensures.0, ap length (short_minus c.args.year c.if-year-ge-YEAR_0.false c.if-back-eq0.false))
