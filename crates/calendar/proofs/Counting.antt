-- Counting a date off gives the date back. Assumes nothing.
use mathlib.Core.Path.{◌≡◌, refl, ◌∙◌}
use mathlib.Core.List.{List, [], ◌∷◌}
use Prim.Native.Nat.{ℕ, zero, suc, ◌+◌, ◌-◌, ◌≤◌, ◌<◌}
use native.Mathlib.Omega.{arith}
use lib.ListN.{get_or, take}
use native.Mathlib.Nat.{zero-add, add-zero, sub-zero}
use borrow.Author.Tests.{lt-ltb, le-ltb}
use Rattle.rules.specs.Calendar.{year, minus_year, sum, years, year_length, month_lengths, month_length, Exists, before_month, day_of_year, days_to, in_months, in_years, date_after}
use Rattle.calendar.specs.Ranges.{MonthDay, Countable}
use Rattle.calendar.proofs.Years.{month_high, in_year}

-- whole months counted off: the day x of the entry k of a list of lengths
in_months_lem : (y : ℕ) (ls : List ℕ) (m k x : ℕ) → x < get_or ls k 0 → in_months y ls m (sum (take k ls) + x) ≡ record { year = y; month = m + k; day = x + 1 }
unfolding in_months sum
in_months_lem y [] m k x h = absurd (omega arith)
in_months_lem y (l ∷ ls) m zero x h = rw (zero-add x, lt-ltb x l, add-zero m)
in_months_lem y (l ∷ ls) m (suc k) x h =
    let e : l + sum (take k ls) + x - l ≡ sum (take k ls) + x = omega arith in
    let f : m + suc k ≡ m + 1 + k = omega arith in
    rw (le-ltb (l + sum (take k ls) + x) l (omega arith), e, f) (in_months_lem y ls (m + 1) k x h)

-- whole years counted off: one of them, and then those from -4713 on
past_year : (k y x : ℕ) → in_years (suc k) y (year_length y + x) ≡ in_years k (y + 1) x
unfolding in_years
past_year k y x =
    let e : year_length y + x - year_length y ≡ x = omega arith in
    rw (le-ltb (year_length y + x) (year_length y) (omega arith), e)

in_years_lem : (k j x : ℕ) → j ≤ k → in_years k (minus_year 4713) (years j + x) ≡ in_years (k - j) (minus_year 4713 + j) x
unfolding years
in_years_lem k zero x h = rw (zero-add x, sub-zero k)
in_years_lem k (suc j) x h =
    let e : years j + year_length (35287 + j) + x ≡ years j + (year_length (35287 + j) + x) = omega arith in
    let f : k - j ≡ suc (k - suc j) = omega arith in
    let g : 35287 + suc j ≡ 35287 + j + 1 = omega arith in
    rw (e, in_years_lem k j (year_length (35287 + j) + x) (omega arith), f, g) (past_year (k - suc j) (35287 + j) x)

-- no whole year is left
last_year : (k y x : ℕ) → x < year_length y → in_years k y x ≡ in_months y (month_lengths y) 1 x
unfolding in_years
last_year zero y x h = refl
last_year (suc k) y x h = rw (lt-ltb x (year_length y))

-- The date of the day n: it exists, it is counted as that day, and its year is one of -4713 to 9999.
pub record DateOf (n y m d : ℕ) : Type 0 where
  pub exists : Exists y m d
  pub counted : days_to y m d ≡ n
  pub low : minus_year 4713 ≤ y
  pub high : y ≤ year 9999

-- the day of a date that exists is one that a month can have
pub month_day : (y m d : ℕ) → Exists y m d → MonthDay m d
month_day y m d D =
    let l = month_high y m D.month_low D.month_high in
    record { month_low = D.month_low; month_high = D.month_high; day_low = D.day_low; day_high = omega arith }

back : (y m d : ℕ) → Exists y m d → minus_year 4713 ≤ y → y ≤ year 9999 → date_after (days_to y m d) ≡ record { year = y; month = m; day = d }
unfolding date_after days_to day_of_year before_month month_length
back y m d D low high =
    let x : ℕ = sum (take (m - 1) (month_lengths y)) + (d - 1) in
    let e : 35287 + (y - 35287) ≡ y = omega arith in
    let f : 1 + (m - 1) ≡ m = omega arith in
    let g : d - 1 + 1 ≡ d = omega arith in
    in_years_lem 14712 (y - 35287) x (omega arith)
    ∙ rw e (last_year (14712 - (y - 35287)) y x (in_year y m d (month_day y m d D)))
    ∙ in_months_lem y (month_lengths y) 1 (m - 1) (d - 1) (omega (arith, D.day_high))
    ∙ rw (f, g)

-- a day has one date only: the one that is counted off
pub only : (n y m d : ℕ) → DateOf n y m d → date_after n ≡ record { year = y; month = m; day = d }
only n y m d h = rw (← h.counted) (back y m d h.exists h.low h.high)

-- a date that exists is one that the functions take
pub countable : (n y m d : ℕ) → DateOf n y m d → Countable y m d
countable n y m d h = record { year_low = h.low; year_high = h.high; fields = month_day y m d h.exists }
