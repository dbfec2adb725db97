-- `lines::clock::number_of` meets its contract. Assumes nothing.
use Prim.Native.Nat.{◌≤◌}
use mathlib.Core.Path.{◌≡◌}
use lib.ListN.{drop}
use Rattle.lines.specs.First.{up_to}
use Rattle.lines.proofs.Numbers.{on_from}
use Rattle.lines.proofs.clock.number_of.Given as goal

abbrev pub invariant-loop-b : goal.invariant-loop-b
invariant-loop-b l = record {
  value : up_to l.most l.s ≡ on_from l.most l.n (drop l.b-index l.s);
  at_most : l.n ≤ l.most;
}
