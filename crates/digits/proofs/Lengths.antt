-- How long the texts of numbers are. Assumes nothing.
use Prim.Native.Nat.{ℕ, suc, ◌-◌, ◌/◌, ◌%◌, ◌^◌, ◌≤◌, ◌<◌}
use Rattle.std.specs.Prelude.{if◌then◌else◌}
use mathlib.Core.Bool.{Bool, true, false}
use mathlib.Core.Path.{◌≡◌, refl, ap, ◌∙◌}
use mathlib.Core.List.{List, [], ◌∷◌, ◌++◌}
use native.Mathlib.Omega.{arith}
use native.Mathlib.Decide.{dec_lt, ℕ_discrete}
use lib.IntN.{ℤ, pos, negsuc, nat_abs}
use lib.Ieee.{Float, minus}
use lib.ListN.{length, length-append}
use Rattle.rules.specs.Basics.{is, every, trim_end}
use Rattle.rules.specs.Calendar.{instant, last, unix_epoch}
use Rattle.rules.specs.Floats.{decimals}
use Rattle.rules.specs.Writing.{places, wide, spaced, integer_text, signed_year, year_short, three_decimals, floor_div, unix_seconds, unix_real, julian_real, julian_text}
use Rattle.real.specs.InMinute.{in_minute}
use Rattle.real.proofs.Epoch.{unix_thousandths, julian_billionths}
use Rattle.real.proofs.Seconds.{minute_thousandths}
use Rattle.real.proofs.Signs.{minus_pos, minus_neg}
use Rattle.digits.specs.Writers.{unix_decimals}
use Rattle.digits.proofs.Decimal.{length_places, length_exact, length_most}
use Rattle.digits.proofs.Texts.{spaced_one, spaced_two, year_plain, year_minus, short_plain, short_century, short_minus}
use Rattle.digits.proofs.Floats.{three_is, unix_is_minus, unix_is_plain}

pub length_spaced : (v : ℕ) → v < 100 → length (spaced v) ≡ 2
length_spaced v h = go (dec_lt v 10)
  where
    go : Dec (v < 10) → length (spaced v) ≡ 2
    go (yes l) = omega (arith, ap length (spaced_one v l), length_exact 0 v l)
    go (no l) = ap length (spaced_two v (omega (arith, l))) ∙ length_exact 1 v h

-- a year from -9999 to 9999
pub length_year : (k y : ℕ) → k ≤ 4 → 30001 ≤ y → y ≤ 49999 → length (signed_year k y) ≤ 5
length_year k y l low high = go (dec_lt y 40000)
  where
    go : Dec (y < 40000) → length (signed_year k y) ≤ 5
    go (yes h) = omega (arith, ap length (year_minus k y h), length_most k 3 (40000 - y) l (omega arith))
    go (no h) = omega (arith, ap length (year_plain k y (omega (arith, h))), length_exact 3 (y - 40000) (omega arith))

pub length_short : (y : ℕ) → length (year_short y) ≤ 3
length_short y = go (dec_lt y 40000) (ℕ_discrete ((40000 - y) % 100) 0)
  where
    go : Dec (y < 40000) → Dec ((40000 - y) % 100 ≡ 0) → length (year_short y) ≤ 3
    go (no h) d = omega (arith, ap length (short_plain y (omega (arith, h))), length_exact 1 ((y - 40000) % 100) (omega arith))
    go (yes h) (yes z) = omega (arith, ap length (short_century y h z), length_exact 1 0 (omega arith))
    go (yes h) (no z) = omega (arith, ap length (short_minus y h z), length_most 1 1 ((40000 - y) % 100) (omega arith) (omega arith))

-- ---- seconds of a time of day
pub length_second : (x : Float) → in_minute x ≡ true → length (three_decimals 2 x) ≡ 6
length_second x h =
    let t = decimals 3 x in
    omega (arith, ap length (three_is 2 x t refl), length-append (wide 2 (t / 1000)) (46 ∷ places 3 t), length_exact 1 (t / 1000) (omega (arith, minute_thousandths x h)), length_places 3 t)

-- ---- the seconds since the Unix epoch, in range
module _ (t : ℕ) (low : instant 0 ≤ t) (high : t ≤ last) where
  few_thousandths : (d : ℕ) → d ≡ decimals 3 (unix_real t) → length (wide 1 (d / 1000)) ≤ 12
  few_thousandths d e = length_most 1 11 (d / 1000) (omega arith) (omega (arith, unix_thousandths t low high))

  pub length_decimals : length (unix_decimals t) ≤ 17
  length_decimals = go (decimals 3 (unix_real t)) refl (dec_lt t unix_epoch)
    where
      go : (d : ℕ) → d ≡ decimals 3 (unix_real t) → Dec (t < unix_epoch) → length (unix_decimals t) ≤ 17
      go d e (yes h) = omega (arith, ap length (unix_is_minus t d h e), length-append (45 ∷ wide 1 (d / 1000)) (46 ∷ places 3 d), few_thousandths d e, length_places 3 d)
      go d e (no h) = omega (arith, ap length (unix_is_plain t d (omega (arith, h)) e), length-append (wide 1 (d / 1000)) (46 ∷ places 3 d), few_thousandths d e, length_places 3 d)

  few_seconds : nat_abs (unix_seconds t) < 10 ^ 12
  unfolding unix_seconds floor_div
  few_seconds = go (dec_lt t unix_epoch)
    where
      go : Dec (t < unix_epoch) → nat_abs (floor_div (minus t unix_epoch) 1000) < 10 ^ 12
      go (yes h) = rw (minus_neg t unix_epoch h) (omega arith)
      go (no h) = rw (minus_pos t unix_epoch (omega (arith, h))) (omega arith)

  pub length_seconds : length (integer_text (unix_seconds t)) ≤ 13
  length_seconds = go (unix_seconds t) few_seconds
    where
      go : (z : ℤ) → nat_abs z < 10 ^ 12 → length (integer_text z) ≤ 13
      go (pos n) h = unfold integer_text in omega (arith, length_most 1 11 n (omega arith) h)
      go (negsuc n) h = unfold integer_text in omega (arith, length_most 1 11 (suc n) (omega arith) h)

-- ---- the Julian day
pub length_trim : (f : ℕ → Bool) (s : List ℕ) → length (trim_end f s) ≤ length s
unfolding trim_end
length_trim f [] = omega arith
length_trim f (b ∷ s) = go (every f (b ∷ s)) (length_trim f s)
  where
    go : (e : Bool) → length (trim_end f s) ≤ length s → length (if e then [] else b ∷ trim_end f s) ≤ suc (length s)
    go true h = omega arith
    go false h = omega arith

pub length_julian : (t : ℕ) → instant 86400000000000 ≤ t → t ≤ last → length (julian_text t) ≤ 17
unfolding julian_text
length_julian t low high =
    let n = decimals 9 (julian_real t) in
    let w = wide 1 (n / 1000000000) in
    let s = w ++ (46 ∷ []) ++ places 9 n in
    omega (arith, length_trim (is ".") (trim_end (is "0") s), length_trim (is "0") s, length-append (w ++ (46 ∷ [])) (places 9 n), length-append w (46 ∷ []), length_places 9 n, length_most 1 6 (n / 1000000000) (omega arith) (omega (arith, julian_billionths t low high)))
