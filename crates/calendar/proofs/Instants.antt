-- From milliseconds to dates and back. Assumes nothing.
use mathlib.Core.Path.{◌≡◌, refl}
use Prim.Native.Nat.{ℕ, suc, ◌+◌, ◌≤◌, ◌<◌}
use native.Mathlib.Omega.{arith}
use Rattle.rules.specs.Calendar.{year, minus_year, instant, last, day_length, leap, month_lengths, sum, years, before_month, day_of_year, days_to, Exists, day_zero, start, midnight, day_of, time_of_day, civil}
use Rattle.calendar.specs.Ranges.{last_day}
use Rattle.calendar.proofs.Counting.{DateOf, only}
use Rattle.calendar.proofs.Dates.{date}

-- the two numbers that everything counts from
pub day_zero_lem : day_zero ≡ 327
unfolding day_zero days_to years day_of_year before_month month_lengths leap sum
day_zero_lem = refl

pub start_is : start ≡ 9223372008558775808
unfolding start
start_is = rw day_zero_lem

-- the day of an instant lies within the count
pub day_low : (t : ℕ) → instant 0 ≤ t → day_zero ≤ day_of t
unfolding day_of
day_low t h = rw (day_zero_lem, start_is) (omega arith)

pub day_high : (t : ℕ) → t ≤ last → day_of t ≤ last_day
unfolding day_of
day_high t h = rw start_is (omega arith)

-- a time of day is shorter than a day
pub time_high : (t : ℕ) → time_of_day t < day_length
unfolding time_of_day
time_high t = omega arith

-- the millisecond 0 comes after -4713-01-01
pub from_start : (t : ℕ) → instant 0 ≤ t → start ≤ t
from_start t h = rw start_is (omega arith)

-- a day later it is the next day
pub day_after : (t : ℕ) → start ≤ t → day_of (t + day_length) ≡ suc (day_of t)
unfolding day_of
day_after t h = omega arith

-- "Milliseconds to fields .. gives an existing day"
pub date_of_lem : (t : ℕ) → t ≤ last → DateOf (day_of t) (civil t).year (civil t).month (civil t).day
unfolding civil
date_of_lem t h = date (day_of t) (day_high t h)

-- "Back and forth from any such millisecond returns it": from any since -4713-01-01 began
pub there_and_back : (t : ℕ) → start ≤ t → t ≤ last → midnight (civil t).year (civil t).month (civil t).day + time_of_day t ≡ t
unfolding midnight time_of_day day_of
there_and_back t l h = rw (date_of_lem t h).counted (omega arith)

-- a time u of a day, which may lie past its month's end: its day and its time of day are found again
pub day_again : (y m d u : ℕ) → u < day_length → day_of (midnight y m d + u) ≡ days_to y m d
unfolding midnight day_of
day_again y m d u h = omega arith

pub time_again : (y m d u : ℕ) → u < day_length → time_of_day (midnight y m d + u) ≡ u
unfolding midnight time_of_day
time_again y m d u h = omega arith

-- at midnight it is the day of the date
pub day_of_midnight : (y m d : ℕ) → day_of (midnight y m d) ≡ days_to y m d
unfolding midnight day_of
day_of_midnight y m d = omega arith

-- and, where the day exists, its date is found again
pub date_again : (y m d u : ℕ) → Exists y m d → minus_year 4713 ≤ y → y ≤ year 9999 → u < day_length → civil (midnight y m d + u) ≡ record { year = y; month = m; day = d }
unfolding civil
date_again y m d u D low high h = rw (day_again y m d u h) (only (days_to y m d) y m d (record { exists = D; counted = refl; low = low; high = high }))
