-- "The calendar": by counting. src/lib.rt says how years and milliseconds are held, so that neither is ever negative.
use Rattle.std.specs.Prelude.{if◌then◌else◌, ℕ, zero, suc, ◌+◌, ◌-◌, ◌*◌, ◌/◌, ◌%◌, ◌≤◌, Bool, not, ◌&&◌, ◌||◌, List, [], ◌∷◌, eqb, ltb, leb, take, get_or}
use Rattle.rules.specs.Types.{Ymd}

-- the year n, and the year -n, as they are held
abbrev pub year : ℕ → ℕ
year n = 40000 + n

abbrev pub minus_year : ℕ → ℕ
minus_year n = 40000 - n

-- "Milliseconds count from noon of -4713-11-24, which is 0": the millisecond n as it is held
abbrev pub instant : ℕ → ℕ
instant n = 9223372036854775808 + n

-- "The last is 464269060799999. The Unix epoch is 210866760000000."
abbrev pub last : ℕ
last = instant 464269060799999

abbrev pub unix_epoch : ℕ
unix_epoch = instant 210866760000000

-- whether a time lies within 0 to the last
abbrev pub in_range : ℕ → Bool
in_range t = leb (instant 0) t && leb t last

-- in milliseconds
abbrev pub day_length : ℕ
day_length = 86400000

abbrev pub half_day : ℕ
half_day = 43200000

-- ---- years and months
-- "A year is leap if 4 divides it and 100 does not, or 400 does."
abbrev pub divides : ℕ → ℕ → Bool
divides k n = eqb (n % k) 0

unfoldable pub leap : ℕ → Bool
leap y = (divides 4 y && not (divides 100 y)) || divides 400 y

-- "Month lengths stand in two rows of twelve, common and leap."
abbrev pub common_row : List ℕ
common_row = 31 ∷ 28 ∷ 31 ∷ 30 ∷ 31 ∷ 30 ∷ 31 ∷ 31 ∷ 30 ∷ 31 ∷ 30 ∷ 31 ∷ []

abbrev pub leap_row : List ℕ
leap_row = 31 ∷ 29 ∷ 31 ∷ 30 ∷ 31 ∷ 30 ∷ 31 ∷ 31 ∷ 30 ∷ 31 ∷ 30 ∷ 31 ∷ []

unfoldable pub month_lengths : ℕ → List ℕ
month_lengths y = if leap y then leap_row else common_row

unfoldable pub month_length : ℕ → ℕ → ℕ
month_length y m = get_or (month_lengths y) (m - 1) 0

unfoldable pub year_length : ℕ → ℕ
year_length y = if leap y then 366 else 365

-- a day that exists
pub record Exists (y m d : ℕ) : Type 0 where
  pub month_low : 1 ≤ m
  pub month_high : m ≤ 12
  pub day_low : 1 ≤ d
  pub day_high : d ≤ month_length y m

-- ---- "The definition counts days by adding year and month lengths": from -4713-01-01 on
-- what a list of numbers adds up to
unfoldable pub sum : List ℕ → ℕ
sum [] = 0
sum (n ∷ ns) = n + sum ns

-- the days of the n years from -4713 on
unfoldable pub years : ℕ → ℕ
years zero = 0
years (suc n) = years n + year_length (minus_year 4713 + n)

-- the days of y before its month m, and before a day of it
unfoldable pub before_month : ℕ → ℕ → ℕ
before_month y m = sum (take (m - 1) (month_lengths y))

unfoldable pub day_of_year : ℕ → ℕ → ℕ → ℕ
day_of_year y m d = before_month y m + (d - 1)

-- the days from -4713-01-01 to a date; "a day past its month runs into the next"
unfoldable pub days_to : ℕ → ℕ → ℕ → ℕ
days_to y m d = years (y - minus_year 4713) + day_of_year y m d

-- The date n days after the start of the month m of y, with the lengths of that month and of the later ones: whole months are counted off.
unfoldable pub in_months : ℕ → List ℕ → ℕ → ℕ → Ymd
in_months y [] m n = record { year = y; month = m; day = n + 1 }
in_months y (l ∷ ls) m n = if ltb n l then record { year = y; month = m; day = n + 1 } else in_months y ls (m + 1) (n - l)

-- The date n days after the start of the year y: whole years are counted off, at most k of them.
unfoldable pub in_years : ℕ → ℕ → ℕ → Ymd
in_years zero y n = in_months y (month_lengths y) 1 n
in_years (suc k) y n =
    let length = year_length y in
    let within = in_months y (month_lengths y) 1 n in
    let later = in_years k (y + 1) (n - length) in
    if ltb n length then within else later

-- the date n days after -4713-01-01: that is in 9999 at the latest
unfoldable pub date_after : ℕ → Ymd
date_after n = in_years 14712 (minus_year 4713) n

-- ---- milliseconds
-- the days from -4713-01-01 to -4713-11-24, which holds the millisecond 0 at its noon
unfoldable pub day_zero : ℕ
day_zero = days_to (minus_year 4713) 11 24

-- the instant at which -4713-01-01 begins
unfoldable pub start : ℕ
start = instant 0 - (day_zero * day_length + half_day)

-- "Fields to milliseconds takes years -4713 to 9999": the instant at which a date begins
unfoldable pub midnight : ℕ → ℕ → ℕ → ℕ
midnight y m d = start + days_to y m d * day_length

-- the days from -4713-01-01 to the day of an instant, and the milliseconds since that day began
unfoldable pub day_of : ℕ → ℕ
day_of t = (t - start) / day_length

unfoldable pub time_of_day : ℕ → ℕ
time_of_day t = (t - start) % day_length

-- "Milliseconds to fields takes 0 to the last and gives an existing day": the date of an instant's day
unfoldable pub civil : ℕ → Ymd
civil t = date_after (day_of t)

-- the days since the last Monday, and since the last Sunday: the day of the millisecond 0 was a Monday
unfoldable pub since_monday : ℕ → ℕ
since_monday t = (day_of t - day_zero) % 7

unfoldable pub since_sunday : ℕ → ℕ
since_sunday t = (day_of t - day_zero + 1) % 7

-- the Thursday of the week, from Monday on, that holds an instant: the ISO year is its year
unfoldable pub thursday : ℕ → Ymd
thursday t = date_after (day_of t + 3 - since_monday t)

-- the ISO week: the weeks of that year up to that Thursday
unfoldable pub iso_week : ℕ → ℕ
iso_week t = let c = thursday t in day_of_year c.year c.month c.day / 7 + 1
