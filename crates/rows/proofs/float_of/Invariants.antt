-- The digits that are left, after those whose bits are there, bring the bits of all.
use Rattle.std.proofs.Common.{◌≡◌, drop}
use Rattle.rows.specs.Numbers.{bits, bits_on}
use Rattle.rows.proofs.float_of.Given as goal

abbrev pub invariant-loop-b : goal.invariant-loop-b
invariant-loop-b l = bits l.s ≡ bits_on l.bits (drop l.b-index l.s)
