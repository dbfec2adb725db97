-- What is kept of a line lies within its room.
use Rattle.std.proofs.Common.{◌≤◌, [], length, take, drop}
use Rattle.rows.specs.Lines.{CalledAtLine}
use Rattle.rows.proofs.Feeding.{Fed}
use Rattle.rows.proofs.each_line.Given as goal

abbrev pub invariant-loop : goal.invariant-loop
invariant-loop g l = record {
  callable : goal.F-IsAlwaysCallable g l.row;
  within : l.have ≤ length l.room;
  fed : Fed (CalledAtLine g.F.FnMut) l.fn.row (g.R.Read.remaining l.fn.input) (length l.fn.room) l.row (g.R.Read.remaining l.input) (take l.have l.room) [];
}

abbrev pub invariant-loop-b : goal.invariant-loop-b
invariant-loop-b g l = record {
  callable : goal.F-IsAlwaysCallable g l.row;
  within : l.have ≤ length l.room;
  fed : Fed (CalledAtLine g.F.FnMut) l.fn.row (g.R.Read.remaining l.fn.input) (length l.fn.room) l.row (g.R.Read.remaining l.input) (take l.have l.room) (drop l.b-index l.b-items);
}
