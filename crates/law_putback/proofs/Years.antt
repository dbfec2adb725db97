-- The years 0 to 9999 lie within the range, also where a day runs over its month's end. Assumes nothing.
use Prim.Native.Nat.{ℕ, suc, ◌+◌, ◌-◌, ◌*◌, ◌/◌, ◌≤◌, ◌<◌}
use mathlib.Core.Bool.{Bool, true, false}
use mathlib.Core.Path.{◌≡◌}
use native.Mathlib.Omega.{arith}
use Rattle.rules.specs.Calendar.{year, day_length, days_to, midnight, time_of_day, civil}
use Rattle.rules.specs.Writing.{in_month}
use Rattle.calendar.specs.Ranges.{MonthDay, InRange}
use Rattle.calendar.proofs.Counting.{month_day}
use Rattle.calendar.proofs.Instants.{start_is, time_high, date_again, time_again}
use Rattle.calendar.proofs.Years.{closed, days_high}
use Rattle.timediff.specs.Spans as spans
use Rattle.timediff.proofs.Shifts.{date}
use Rattle.law_putback.specs.Demand.{Instant, at, month, between}

-- the years from -4713 to 0 are longer than the days before the millisecond 0
days_low : (y m d : ℕ) → year 0 ≤ y → 328 ≤ days_to y m d
unfolding days_to
days_low y m d h =
    let e : suc (y - 1) ≡ y = omega arith in
    let c = closed (y - 1) (omega arith) in
    omega (arith, rw e at c)

-- a time u of a day, which may lie past its month's end
pub in_range_lem : (y m d u : ℕ) → year 0 ≤ y → y ≤ year 9999 → MonthDay m d → u < day_length → InRange (midnight y m d + u)
unfolding midnight
in_range_lem y m d u l h k b =
    let low = days_low y m d l in
    let high = days_high y m d (record { year_low = omega arith; year_high = h; fields = k }) in
    rw start_is (record { from = omega arith; to = omega arith })

-- ---- an instant that is written in full
module _ (a : Instant) where
  -- the milliseconds since its day began
  abbrev pub time_in : ℕ
  time_in = a.stamp.hour * 3600000 + a.stamp.minute * 60000 + (1000 * a.stamp.second + a.millis)

  pub in_day : time_in < day_length
  in_day = let F = a.full in omega (arith, F.hours, F.minutes, F.seconds, F.millis)

  pub lies_in_range : InRange (at a)
  lies_in_range = let F = a.full in in_range_lem (year a.stamp.year) a.stamp.month a.stamp.day time_in (omega arith) (omega (arith, F.years)) (month_day _ _ _ F.exists) in_day

  -- its date and its time of day are found again
  pub its_date : civil (at a) ≡ record { year = year a.stamp.year; month = a.stamp.month; day = a.stamp.day }
  its_date = let F = a.full in date_again (year a.stamp.year) a.stamp.month a.stamp.day time_in F.exists (omega arith) (omega (arith, F.years)) in_day

  pub its_time : time_of_day (at a) ≡ time_in
  its_time = time_again (year a.stamp.year) a.stamp.month a.stamp.day time_in in_day

  pub its_month : spans.month_at (at a) + 1 ≡ 480000 + month a
  unfolding spans.month_at
  its_month = rw its_date (omega (arith, a.full.exists.month_low))

  pub month_limits : (1 ≤ month a) × (month a ≤ 120000)
  month_limits = let F = a.full in omega (arith, F.years, F.exists.month_low, F.exists.month_high)

-- the months between, by the texts and by the milliseconds
pub same_between : (plus : Bool) (a b : Instant) → spans.between plus (at a) (at b) ≡ between plus a b
unfolding spans.between
same_between true a b = omega (arith, its_month a, its_month b)
same_between false a b = omega (arith, its_month a, its_month b)

pub between_high : (plus : Bool) (a b : Instant) → between plus a b ≤ 119999
between_high true a b = omega (arith, month_limits a, month_limits b)
between_high false a b = omega (arith, month_limits a, month_limits b)

-- a shift up to them leads to a month of the years 0 to 9999
pub shift_in_range : (plus : Bool) (a b : Instant) (n : ℕ) → n ≤ between plus a b → InRange (spans.shifted plus (at b) n)
unfolding spans.shifted in_month
shift_in_range plus a b n h =
    let t = at b in
    let (low, high) = months plus h in
    let D = month_day _ _ _ (date t (lies_in_range b)).exists in
    in_range_lem _ _ _ _ low high (record { month_low = omega arith; month_high = omega arith; day_low = D.day_low; day_high = D.day_high }) (time_high t)
  where
    months : (p : Bool) → n ≤ between p a b → (year 0 ≤ spans.moved p (spans.month_at (at b)) n / 12) × (spans.moved p (spans.month_at (at b)) n / 12 ≤ year 9999)
    months true l = omega (arith, its_month b, month_limits a, month_limits b)
    months false l = omega (arith, its_month b, month_limits a, month_limits b)
