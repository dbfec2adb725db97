-- How long a time of day is, whatever else stands in its record: the hours and minutes have two digits, and the seconds are below 60. Assumes
-- nothing.
use Prim.Native.Nat.{◌<◌}
use mathlib.Core.Bool.{true}
use mathlib.Core.Path.{◌≡◌}
use mathlib.Core.List.{[], ◌∷◌, ◌++◌}
use native.Mathlib.Omega.{arith}
use lib.ListN.{length, length-append}
use Rattle.rules.specs.Floats.{whole}
use Rattle.rules.specs.Moments.{Moment}
use Rattle.rules.specs.Writing.{hour_minute, second_text, three_decimals}
use Rattle.real.specs.InMinute.{in_minute}
use Rattle.real.proofs.Seconds.{minute_whole}
use Rattle.digits.proofs.Decimal.{length_exact}
use Rattle.digits.proofs.Lengths.{length_second}
use Rattle.writing.specs.Texts.{whole_time, decimal_time}
use Rattle.writing.proofs.Lengths.{length_clock}

module _ (p : Moment) (a : p.hour < 100) (b : p.minute < 100) (i : in_minute p.second ≡ true) where
  pub length_whole : length (whole_time p) ≡ 8
  length_whole =
      omega (arith, length-append (hour_minute p ++ (58 ∷ [])) (second_text p.second), length-append (hour_minute p) (58 ∷ []), length_clock p a b, length_exact 1 (whole p.second) (omega (arith, minute_whole p.second i)))

  pub length_decimal : length (decimal_time p) ≡ 12
  length_decimal = omega (arith, length-append (hour_minute p ++ (58 ∷ [])) (three_decimals 2 p.second), length-append (hour_minute p) (58 ∷ []), length_clock p a b, length_second p.second i)
