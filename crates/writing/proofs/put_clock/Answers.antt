-- `writing::put_clock` meets its contract. Assumes nothing.
use mathlib.Core.Path.{sym}
use Rattle.moment.specs.Held.{held}
use Rattle.digits.proofs.Buffer.{laid_as, laid_then}
use Rattle.writing.proofs.Texts.{clock_parts}
use Rattle.writing.proofs.put_clock.Goals as goal

pub returns : goal.returns
returns c = laid_as (sym (clock_parts (held c.args.p))) (laid_then c.put_digits-before_minute.ensures c.put_next.ensures)
