use Rattle.std.proofs.Common.{sym, ◌∙◌}
use Rattle.rows.proofs.Saying.{says}
use Rattle.rows.proofs.float.Goals as goal

pub returns-else-is_nan : goal.returns-else-is_nan
returns-else-is_nan g c = rw (sym c.is_nan.ensures.value ∙ c.if-is_nan.false) (says _ _ _ _ c.print_hex.ensures)
