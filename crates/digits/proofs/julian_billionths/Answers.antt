-- `digits::julian_billionths` meets its contract. Assumes nothing.
use Rattle.real.proofs.Epoch.{julian_span}
use Rattle.digits.proofs.julian_billionths.Goals as goal

pub billionths-requires : goal.billionths-requires
billionths-requires c = rw c.julian_real.ensures (julian_span c.args.ms c.requires.not_before c.requires.not_after)
