use Rattle.std.proofs.Common.{arith}
use Rattle.lines.proofs.Short.{line_short}
use Rattle.digits.proofs.Buffer.{laid_then}
use Rattle.dates.proofs.Laying.{part_laid}
use Rattle.dates.proofs.Output.put_line.Goals as goal

pub returns : goal.returns
returns c =
    let few = line_short c.args.set c.args.s.now in
    laid_then (part_laid c.answer-n.ensures.size.0 (omega arith) (omega arith) c.answer-n.ensures.bytes) c.put.ensures
