-- `timediff::back_off` meets its contract. The measure says that at most two rounds are made after the first. Assumes nothing.
use Prim.Native.Nat.{◌+◌, ◌-◌}
use Rattle.timediff.proofs.Rounds.{Begun, Round}
use Rattle.timediff.proofs.back_off.Given as goal

abbrev pub invariant-loop-a : goal.invariant-loop-a
invariant-loop-a l = Begun l.plus l.a.ms l.fn.b.ms l.date l.time l.from l.initial.months × Round l.plus l.a.ms l.fn.b.ms l.initial.months l.months

abbrev pub decreases-loop-a : goal.decreases-loop-a
decreases-loop-a l = l.months + 2 - l.initial.months
