-- A date and time written in full reads to its fields, and those to exactly the milliseconds of its counted date. Assumes nothing.
use Prim.Native.Nat.{ℕ, ◌+◌, ◌-◌, ◌*◌, ◌/◌, ◌%◌, ◌≤◌, ◌<◌}
use mathlib.Core.Bool.{Bool, true, false, true≢false}
use mathlib.Core.Path.{◌≡◌, refl, sym, ap, ◌∙◌}
use mathlib.Core.List.{List, [], ◌∷◌, ◌++◌, append_assoc}
use native.Mathlib.Omega.{arith}
use borrow.Author.Tests.{leb-true, eq-eqb, ne_eqb}
use lib.Dec.{eqb, leb}
use lib.Ieee.{Float}
use lib.ListN.{length, length-append, length-map}
use Rattle.rules.specs.Basics.{is_digit, got, every, skip}
use Rattle.rules.specs.Calendar.{year, month_length, midnight}
use Rattle.rules.specs.Floats.{number, ◌⊕◌}
use Rattle.rules.specs.Moments.{Moment, no_zone, set_ms, counted, count_ms, sum_of, with_time, time_ms, past_end}
use Rattle.rules.specs.Reading.{space, fraction_of, fraction, seconds_in, seconds, zone_in, time, timed, time_after, settled, text_value}
use Rattle.rules.specs.Writing.{places}
use Rattle.rules.specs.declared.Time.{Time}
use Rattle.text.specs.Places.{begins, gap}
use Rattle.text.proofs.Bytes.{digit_bounds, not_space}
use Rattle.calendar.proofs.Counting.{month_day}
use Rattle.real.proofs.Run.{Digits}
use Rattle.real.proofs.Seconds.{fraction_none, exact_ms}
use Rattle.moment.proofs.Steps.{in_time, summed}
use Rattle.reading.specs.Readers.{year_month_day}
use Rattle.reading.specs.Written.{Stamp, pointed, written, Full, instant_of, fields_of}
use Rattle.reading.proofs.Places.{both, Stops, digits_places, skip_run, skip_all, run_digits}
use Rattle.reading.proofs.Zones.{no_zone_lem, hour_and_minute}
use Rattle.reading.proofs.Fractions.{no_point}
use Rattle.reading.proofs.Times.{time_of_lem}
use Rattle.reading.proofs.Dates.{time_form_lem, time_follows, ymd, date_and_time, no_minus}
use Rattle.reading.proofs.Values.{is_date}

-- ---- milliseconds of a date and a time
zoneless : (p : Moment) → p.timed ≡ true → p.zone ≡ no_zone → with_time p ≡ set_ms p (p.ms + time_ms p.hour p.minute p.second)
unfolding with_time
zoneless p h z = rw (h, eq-eqb p.zone no_zone z)

count_dated : (p : Moment) → p.counted ≡ false → p.dated ≡ true → count_ms p ≡ sum_of p p.year p.month p.day
unfolding count_ms
count_dated p h k = rw (h, k)

-- ---- the byte that a number begins with
first_digit : (x : ℕ) → x ≤ 9 → (gap (48 + x) ≡ false) × (eqb 45 (48 + x) ≡ false)
first_digit x h = (rw (not_space (48 + x) (omega arith), ne_eqb 84 (48 + x) (omega arith)), ne_eqb 45 (48 + x) (omega arith))

-- ---- whitespace is neither a digit nor a point
not_digit : (b : ℕ) → space b ≡ true → is_digit b ≡ false
not_digit b h = go (is_digit b) refl
  where
    go : (t : Bool) → is_digit b ≡ t → t ≡ false
    go false e = refl
    go true e = let (l, u) = digit_bounds b e in absurd (true≢false (sym h ∙ not_space b (omega arith)))

not_point : (b : ℕ) → space b ≡ true → eqb 46 b ≡ false
not_point b h = ne_eqb 46 b (λ e. true≢false (sym h ∙ ap space (sym e)))

blanks_stop : (l : List ℕ) → every space l ≡ true → Stops is_digit l × (begins 46 l ≡ false)
unfolding every
blanks_stop [] h = (tt, refl)
blanks_stop (b ∷ l) h = let k = (both (space b) (every space l) h).0 in (not_digit b k, not_point b k)

-- ---- the fraction
pub digits_of : (ds : List ℕ) → every (λ d. leb d 9) ds ≡ true → Digits ds
unfolding every
digits_of [] h = tt
digits_of (d ∷ ds) h = let (p, q) = both (leb d 9) (every (λ d. leb d 9) ds) h in (leb-true d 9 p, digits_of ds q)

fraction_written : (ds l : List ℕ) → every (λ d. leb d 9) ds ≡ true → every space l ≡ true → fraction (pointed ds ++ l) ≡ (fraction_of ds, l)
unfolding fraction
fraction_written [] l h k = no_point l (blanks_stop l k).1 ∙ ap (λ (x : Float). (x, l)) (sym fraction_none)
fraction_written (d ∷ ds) l h k = rw (run_digits (d ∷ ds) l h (blanks_stop l k).0)

-- ---- the text, from each part on
abbrev from_second : Stamp → List ℕ
from_second t = places 2 t.second ++ (pointed t.fraction ++ t.blanks)

abbrev from_time : Stamp → List ℕ
from_time t = places 2 t.hour ++ (58 ∷ (places 2 t.minute ++ (58 ∷ from_second t)))

abbrev from_date : Stamp → List ℕ
from_date t = places 4 t.year ++ (45 ∷ (places 2 t.month ++ (45 ∷ (places 2 t.day ++ (t.gap ++ from_time t)))))

from_start : (t : Stamp) → written t ≡ from_date t
unfolding written
from_start t = simp append_assoc

time_begins : (t : Stamp) → Stops gap (from_time t) × (0 < length (from_time t))
unfolding places
time_begins t = ((first_digit (t.hour / 10 % 10) (omega arith)).0, omega arith)

date_begins : (t : Stamp) → begins 45 (from_date t) ≡ false
unfolding places
date_begins t = (first_digit (t.year / 1000 % 10) (omega arith)).1

module _ (t : Stamp) (k : ℕ) (F : Full t k) where
  second_read : seconds (58 ∷ from_second t) ≡ got (number t.second ⊕ fraction_of t.fraction, t.blanks)
  unfolding seconds seconds_in
  second_read = rw (digits_places 2 0 59 t.second (pointed t.fraction ++ t.blanks) (omega (arith, F.seconds)) (omega arith) F.seconds, fraction_written t.fraction t.blanks F.digits F.spaces)

  abbrev time_of : Time
  time_of = record { hour = t.hour; minute = t.minute; second = number t.second ⊕ fraction_of t.fraction; zone = no_zone; utc = false }

  time_read : time (from_time t) ≡ got time_of
  time_read =
      time_of_lem (from_time t) t.hour t.minute (58 ∷ from_second t)
      (hour_and_minute 24 (from_time t) t.hour _ (digits_places 2 0 24 t.hour _ (omega (arith, F.hours)) (omega arith) (omega (arith, F.hours))) _ refl t.minute _ (digits_places 2 0 59 t.minute _ (omega (arith, F.minutes)) (omega arith) F.minutes))
      _ t.blanks second_read no_zone false (ap zone_in (skip_all space t.blanks F.spaces) ∙ no_zone_lem)

  ymd_read : year_month_day 1 12 31 (from_date t) ≡ got (t.year, t.month, t.day, t.gap ++ from_time t)
  ymd_read =
      let e = month_day _ _ _ F.exists in
      ymd 1 12 31 (from_date t) t.year _ (digits_places 4 0 9999 t.year _ (omega (arith, F.years)) (omega arith) F.years) _ refl
      t.month _ (digits_places 2 1 12 t.month _ (omega arith) e.month_low e.month_high) _ refl
      t.day _ (digits_places 2 1 31 t.day _ (omega arith) e.day_low e.day_high)

  after_read : time_after (skip gap (t.gap ++ from_time t)) ≡ got (timed time_of)
  after_read = ap time_after (skip_run gap t.gap (from_time t) F.gaps (time_begins t).0) ∙ time_follows (from_time t) (time_begins t).1 ∙ time_form_lem (from_time t) time_of time_read

  -- a day that exists lies past no month's end
  not_over : past_end (fields_of t) ≡ fields_of t
  unfolding past_end
  not_over = let e : t.day - month_length (year t.year) t.month ≡ 0 = omega (arith, F.exists.day_high) in rw e

  -- the fields as they are written
  pub reads : (clock : ℕ) → text_value clock (written t) ≡ got (fields_of t)
  reads clock =
      ap (text_value clock) (from_start t)
      ∙ is_date clock (from_date t) (fields_of t) (no_minus (from_date t) (date_begins t) ∙ date_and_time year (from_date t) t.year t.month t.day _ ymd_read (timed time_of) after_read ∙ ap (λ (p : Moment). got (settled p)) not_over)

  -- and their sum
  pub time_ms_lem : time_ms t.hour t.minute (number t.second ⊕ fraction_of t.fraction) ≡ t.hour * 3600000 + t.minute * 60000 + (1000 * t.second + k)
  time_ms_lem = ap (λ (n : ℕ). t.hour * 3600000 + t.minute * 60000 + n) (exact_ms t.fraction t.second (digits_of t.fraction F.digits) F.few F.seconds k F.millis F.value)

  pub counts : count_ms (fields_of t) ≡ counted (fields_of t) (instant_of t k)
  counts =
      let p = fields_of t in
      let day = midnight p.year p.month p.day in
      count_dated p refl refl
      ∙ summed p p.year p.month p.day (sym (in_time p.year false (omega arith) (omega (arith, F.years))))
      ∙ zoneless (counted p day) refl refl
      ∙ ap (λ (n : ℕ). set_ms (counted p day) (day + n)) time_ms_lem

-- written in at most 255 bytes, the fraction has few enough digits
pub few_digits : (t : Stamp) → length (written t) ≤ 255 → length t.fraction ≤ 255
few_digits t h =
    let n : length (written t) ≡ length (from_date t) = ap length (from_start t) in
    omega (arith, simp length-append at n, long t.fraction)
  where
    long : (ds : List ℕ) → length ds ≤ length (pointed ds)
    long [] = omega arith
    long (d ∷ ds) = omega (arith, length-map ds (λ n. 48 + n))
