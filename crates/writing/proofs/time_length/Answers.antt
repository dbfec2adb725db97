-- `writing::time_length` meets its contract. Assumes nothing.
use mathlib.Core.Path.{ap}
use native.Mathlib.Omega.{arith}
use lib.ListN.{length}
use Rattle.moment.specs.Held.{held}
use Rattle.writing.proofs.Texts.{time_decimals, time_whole}
use Rattle.writing.proofs.Lengths.{length_whole, length_decimal}
use Rattle.writing.proofs.time_length.Goals as goal

pub returns-then-p : goal.returns-then-p
returns-then-p c = let p = held c.args.p in omega (arith, ap length (time_decimals p c.if-p.true), length_decimal p c.requires)

pub returns-else-p : goal.returns-else-p
returns-else-p c = let p = held c.args.p in omega (arith, ap length (time_whole p c.if-p.false), length_whole p c.requires)
