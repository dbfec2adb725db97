use Rattle.rows.proofs.Saying.{says}
use Rattle.rows.proofs.decimal.Goals as goal

pub returns : goal.returns
returns g c = says _ _ _ _ c.print_decimal.ensures
