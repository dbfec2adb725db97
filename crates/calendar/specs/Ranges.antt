-- The ranges that the functions take and give. Years and milliseconds are held as rules holds them.
use Rattle.std.specs.Prelude.{ℕ, ◌≤◌}
use Rattle.rules.specs.Calendar.{year, minus_year, instant, last}

-- the day 9999-12-31, counted from -4713-01-01
abbrev pub last_day : ℕ
last_day = 5373811

-- a month, and a day that may lie past that month's end
pub record MonthDay (m d : ℕ) : Type 0 where
  pub month_low : 1 ≤ m
  pub month_high : m ≤ 12
  pub day_low : 1 ≤ d
  pub day_high : d ≤ 31

-- such a day of the years -4713 to 9999
pub record Countable (y m d : ℕ) : Type 0 where
  pub year_low : minus_year 4713 ≤ y
  pub year_high : y ≤ year 9999
  pub fields : MonthDay m d

-- a time from the millisecond 0 to the last
pub record InRange (t : ℕ) : Type 0 where
  pub from : instant 0 ≤ t
  pub to : t ≤ last
