-- How long the texts are, of a record that can be written. Assumes nothing.
use Prim.Native.Nat.{ℕ, ◌+◌, ◌≤◌, ◌<◌}
use Rattle.std.specs.Prelude.{if◌then◌else◌}
use mathlib.Core.Bool.{Bool, true, false}
use mathlib.Core.Path.{◌≡◌, ap}
use mathlib.Core.List.{List, [], ◌∷◌, ◌++◌}
use native.Mathlib.Omega.{arith}
use lib.Dec.{leb}
use lib.ListN.{length, length-append}
use Rattle.rules.specs.Floats.{whole}
use Rattle.rules.specs.Moments.{Moment}
use Rattle.rules.specs.Writing.{wide, signed_year, hour_minute, second_text, three_decimals, integer_text, unix_seconds, unix_text}
use Rattle.real.proofs.Seconds.{minute_whole}
use Rattle.digits.specs.Writers.{unix_decimals}
use Rattle.digits.proofs.Decimal.{length_exact}
use Rattle.digits.proofs.Lengths.{length_second, length_decimals, length_seconds}
use Rattle.moment.specs.Ranges.{Full}
use Rattle.writing.specs.Texts.{date_of, whole_time, decimal_time, half}
use Rattle.writing.proofs.Fields as field
use Rattle.writing.proofs.Texts.{date_parts, clock_parts}

pub length_two : (v : ℕ) → v < 100 → length (wide 2 v) ≡ 2
length_two v h = length_exact 1 v h

module _ (p : Moment) where
  pub length_date : (k : ℕ) → p.month < 100 → p.day < 100 → length (date_of k p) ≡ length (signed_year k p.year) + 6
  length_date k m d =
      let year = signed_year k p.year in
      omega (arith, ap length (date_parts p k), length-append (year ++ (45 ∷ wide 2 p.month)) (45 ∷ wide 2 p.day), length-append year (45 ∷ wide 2 p.month), length_two p.month m, length_two p.day d)

  pub length_clock : p.hour < 100 → p.minute < 100 → length (hour_minute p) ≡ 5
  length_clock h m = omega (arith, ap length (clock_parts p), length-append (wide 2 p.hour) (58 ∷ wide 2 p.minute), length_two p.hour h, length_two p.minute m)

  module _ (h : Full p) where
    clock : length (hour_minute p) ≡ 5
    clock = length_clock (field.hour p h) (field.minute p h)

    pub length_whole : length (whole_time p) ≡ 8
    length_whole =
        omega (arith, length-append (hour_minute p ++ (58 ∷ [])) (second_text p.second), length-append (hour_minute p) (58 ∷ []), clock, length_exact 1 (whole p.second) (omega (arith, minute_whole p.second (field.second p h))))

    pub length_decimal : length (decimal_time p) ≡ 12
    length_decimal =
        omega (arith, length-append (hour_minute p ++ (58 ∷ [])) (three_decimals 2 p.second), length-append (hour_minute p) (58 ∷ []), clock, length_second p.second (field.second p h))

    pub length_unix : length (unix_text p) ≤ 17
    unfolding unix_text
    length_unix = go p.subsec
      where
        go : (b : Bool) → length (if b then unix_decimals p.ms else integer_text (unix_seconds p.ms)) ≤ 17
        go true = length_decimals p.ms h.ranged.from h.ranged.to
        go false = omega (arith, length_seconds p.ms h.ranged.from h.ranged.to)

pub length_half : (am pm : List ℕ) (hour : ℕ) → length am ≡ 2 → length pm ≡ 2 → length (half am pm hour) ≡ 2
length_half am pm hour a b = go (leb 12 hour)
  where
    go : (c : Bool) → length (if c then pm else am) ≡ 2
    go true = b
    go false = a
