use Rattle.rows.proofs.Saying.{says}
use Rattle.rows.proofs.say.Goals as goal

pub returns : goal.returns
returns g c = says _ _ _ _ c.write_all.ensures
