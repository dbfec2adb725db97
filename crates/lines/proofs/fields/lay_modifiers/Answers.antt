-- `lines::fields::lay_modifiers` meets its contract. Assumes nothing.
use mathlib.Core.Path.{refl}
use Rattle.rules.specs.Program.{buffered}
use Rattle.lines.proofs.Parts.{lay_on, lay_all}
use Rattle.lines.proofs.fields.lay_modifiers.Goals as goal

pub returns-in_default : goal.returns-in_default
unfolding buffered
returns-in_default c = rw c.in_default.is (record { place = refl; bytes = refl })

pub loop-i-preserved : goal.loop-i-preserved
loop-i-preserved c = rw c.loop-i.invariant (lay_on _ _ _ _ c.loop-i-test.true c.zeroed.ensures)

pub returns : goal.returns
returns c = rw (c.in-Some.is, c.loop-i.invariant) (lay_all _ _ _ c.loop-i-test.false)
