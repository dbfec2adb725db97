-- `digits::put_places` meets its contract. Assumes nothing.
use Prim.Native.Nat.{◌^◌, ◌≤◌, ◌<◌}
use Rattle.digits.proofs.Decimal.{digit}
use Rattle.digits.proofs.Down.{Down}
use Rattle.digits.proofs.put_places.Given as goal

abbrev pub invariant-loop-i : goal.invariant-loop-i
invariant-loop-i l = record {
  low : 1 ≤ l.i;
  below : l.rest < 10 ^ l.i;
  down : Down digit 10 l.fn.buf l.at l.n l.v l.buf l.i l.rest;
}
