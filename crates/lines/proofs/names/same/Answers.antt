-- `lines::names::same` meets its contract. Assumes nothing.
use mathlib.Core.Path.{◌∙◌}
use Rattle.lines.proofs.Naming.{same_eq}
use Rattle.lines.proofs.names.same.Goals as goal

pub returns : goal.returns
returns c = c.eq.ensures ∙ same_eq _ _
