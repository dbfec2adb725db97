-- `digits::unix_decimals_length` meets its contract. Assumes nothing.
use Prim.Native.Nat.{◌/◌}
use mathlib.Core.Path.{ap}
use mathlib.Core.List.{◌∷◌}
use native.Mathlib.Omega.{arith}
use lib.ListN.{length, length-append}
use Rattle.rules.specs.Writing.{places, wide}
use Rattle.digits.proofs.Decimal.{length_places}
use Rattle.digits.proofs.Floats.{unix_is_minus, unix_is_plain}
use Rattle.digits.proofs.unix_decimals_length.Goals as goal

pub returns-then-ms-lt-UNIX_EPOCH : goal.returns-then-ms-lt-UNIX_EPOCH
returns-then-ms-lt-UNIX_EPOCH c = let t = c.unix_thousandths-t.result in omega (arith, ap length (unix_is_minus _ t c.if-ms-lt-UNIX_EPOCH.true c.unix_thousandths-t.ensures), length-append (45 ∷ wide 1 (t / 1000)) (46 ∷ places 3 t), length_places 3 t)

pub returns : goal.returns
returns c = let t = c.unix_thousandths-t.result in omega (arith, ap length (unix_is_plain _ t c.if-ms-lt-UNIX_EPOCH.false c.unix_thousandths-t.ensures), length-append (wide 1 (t / 1000)) (46 ∷ places 3 t), length_places 3 t)
