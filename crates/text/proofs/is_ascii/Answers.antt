-- `text::is_ascii` meets its contract.
use mathlib.Core.Path.{sym}
use Rattle.text.proofs.Runs.{every_on, every_past}
use Rattle.text.proofs.is_ascii.Goals as goal

pub loop-b-preserved : goal.loop-b-preserved
loop-b-preserved c = every_on _ _ _ _ c.loop-b.invariant c.loop-b-test.true

pub returns : goal.returns
returns c = sym (every_past _ _ _ _ c.loop-b.invariant c.loop-b-test.false)
