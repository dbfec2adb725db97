-- `datetime::calls::read` meets its contract.
use Prim.Native.Nat.{◌+◌}
use Rattle.moment.specs.Ranges.{most_before}
use Rattle.datetime.proofs.Opened.{ready}
use Rattle.datetime.proofs.calls.read.Goals as goal

pub returns-clause-lands : goal.returns-clause-lands
returns-clause-lands c = ready c.ranged.result (c.ranged.ensures.0.after (most_before + 1) c.in_ok-modified.ensures.lands) c.ranged.ensures.1
