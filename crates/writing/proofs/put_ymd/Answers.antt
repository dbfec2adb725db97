-- `writing::put_ymd` meets its contract. Assumes nothing.
use mathlib.Core.Path.{sym}
use Rattle.moment.specs.Held.{held}
use Rattle.digits.proofs.Buffer.{laid_as, laid_then}
use Rattle.writing.proofs.Texts.{date_parts}
use Rattle.writing.proofs.put_ymd.Goals as goal

pub returns : goal.returns
returns c = laid_as (sym (date_parts (held c.args.p) _)) (laid_then (laid_then c.put_year-before_month.ensures c.put_next-before_day.ensures) c.put_next.ensures)
