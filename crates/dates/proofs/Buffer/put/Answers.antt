use Rattle.std.proofs.Common.{refl, arith}
use Rattle.dates.proofs.Laying.{whole_laid}
use Rattle.dates.proofs.Buffer.put.Goals as goal

pub returns : goal.returns
returns g c = record {
  place = refl;
  bytes = whole_laid _ _ c.args.s.now c.args.self.now.used _ (omega arith) c.copy_from_slice.ensures.after c.requires.fits;
}
