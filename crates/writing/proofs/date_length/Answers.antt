-- `writing::date_length` meets its contract. Assumes nothing.
use mathlib.Core.Path.{ap}
use native.Mathlib.Omega.{arith}
use lib.ListN.{length}
use Rattle.moment.specs.Held.{held}
use Rattle.digits.proofs.Lengths.{length_year}
use Rattle.writing.proofs.Lengths.{length_date}
use Rattle.writing.proofs.Texts.{date_is}
use Rattle.writing.proofs.date_length.Goals as goal

pub overflow_add-result : goal.overflow_add-result
overflow_add-result c = omega (arith, c.year_length.ensures, length_year 4 c.args.p.year)

pub returns : goal.returns
returns c = let p = held c.args.p in omega (arith, c.year_length.ensures, length_year 4 c.args.p.year, ap length (date_is p), length_date p 4)
