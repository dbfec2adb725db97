-- `digits::julian_length` meets its contract. Assumes nothing.
use mathlib.Core.Path.{ap}
use native.Mathlib.Omega.{arith}
use lib.ListN.{length, length-append}
use Prim.Native.Nat.{◌/◌}
use mathlib.Core.List.{◌∷◌}
use Rattle.rules.specs.Writing.{places, wide}
use Rattle.digits.proofs.Decimal.{length_places}
use Rattle.digits.proofs.Trim.{julian_point, julian_whole}
use Rattle.digits.proofs.julian_length.Goals as goal

pub returns-then-count-eq0 : goal.returns-then-count-eq0
returns-then-count-eq0 c = omega (arith, c.number_length-whole.ensures.0, ap length (julian_whole _ _ _ c.julian_billionths-n.ensures c.trimmed-count.ensures c.if-count-eq0.true))

pub returns : goal.returns
returns c = let f = c.trimmed-count.result in omega (arith, c.number_length-whole.ensures.0, ap length (julian_point _ _ _ c.julian_billionths-n.ensures c.trimmed-count.ensures (omega (arith, c.if-count-eq0.false))), length-append (wide 1 (c.julian_billionths-n.result / 1000000000)) (46 ∷ places f.0 f.1), length_places f.0 f.1)
