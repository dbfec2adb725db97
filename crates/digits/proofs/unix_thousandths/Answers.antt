-- `digits::unix_thousandths` meets its contract. Assumes nothing.
use Rattle.real.proofs.Epoch.{unix_span}
use Rattle.digits.proofs.unix_thousandths.Goals as goal

pub thousandths-requires : goal.thousandths-requires
thousandths-requires c = rw c.unix_real.ensures (unix_span c.args.ms c.requires.not_before c.requires.not_after)
