-- `decimal::nearest::narrow` meets its contract.
use Rattle.decimal.proofs.nearest.Powers.{narrowed}
use Rattle.decimal.proofs.nearest.narrow.Goals as goal

pub overflow_sub-t : goal.overflow_sub-t
overflow_sub-t c = let j = c.ilog2-t.ensures in (narrowed _ _ c.requires c.ranges.n.fits j.power_le j.next_power_gt).0

pub overflow_cast-result : goal.overflow_cast-result
overflow_cast-result c = let j = c.ilog2-t.ensures in record { fits = (narrowed _ _ c.requires c.ranges.n.fits j.power_le j.next_power_gt).1.wide }

pub returns : goal.returns
returns c = let j = c.ilog2-t.ensures in (narrowed _ _ c.requires c.ranges.n.fits j.power_le j.next_power_gt).1
