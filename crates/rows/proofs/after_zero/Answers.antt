use Rattle.std.proofs.Common.{sym}
use Rattle.std.specs.Prelude.{Some, None}
use Rattle.text.specs.Places.{IsCut}
use Rattle.rows.proofs.Numbers.{after, nothing_after}
use Rattle.rows.proofs.after_zero.Goals as goal

pub returns-in-Some : goal.returns-in-Some
returns-in-Some c = let cut : IsCut 0 c.args.line.now c.cut.result.0.now (Some c.in-Some.rest.now) = rw c.in-Some.is at c.cut.ensures in sym (after _ _ _ cut)

pub returns-in-None : goal.returns-in-None
returns-in-None c = let cut : IsCut 0 c.args.line.now c.cut.result.0.now None = rw c.in-None.is at c.cut.ensures in sym (nothing_after _ _ cut)
