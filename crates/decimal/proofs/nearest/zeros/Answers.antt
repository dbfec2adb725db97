-- `decimal::nearest::zeros` meets its contract.
use lib.Count.{count_leading_zeros, leading_top}
use Rattle.decimal.proofs.nearest.Powers.{room}
use Rattle.decimal.proofs.nearest.zeros.Goals as goal

pub returns : goal.returns
returns c = let n = c.args.n in
    let top = leading_top 64 n c.requires c.ranges.n.fits in
    room n top.0 (count_leading_zeros 64 n) top.2 top.3 top.1
