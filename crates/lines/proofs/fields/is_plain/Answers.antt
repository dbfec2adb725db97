-- `lines::fields::is_plain` meets its contract. Assumes nothing.
use mathlib.Core.Path.{◌∙◌, ap}
use mathlib.Core.Bool.{not}
use borrow.Author.Tests.{le-leb}
use Rattle.lines.proofs.Parts.{no_zero}
use Rattle.lines.proofs.fields.is_plain.Goals as goal

pub returns-then-s-le-LONGEST : goal.returns-then-s-le-LONGEST
returns-then-s-le-LONGEST c = rw (le-leb _ _ c.if-s-le-LONGEST.true) (ap not c.contains.ensures.value ∙ no_zero c.args.s.now)
