-- The leap rule, and the lengths of months and years. Assumes nothing.
use mathlib.Core.Path.{◌≡◌, refl}
use Rattle.std.specs.Prelude.{if◌then◌else◌}
use Rattle.std.specs.Int.{from_bool}
use mathlib.Core.Bool.{Bool, true, false, not, ◌&&◌, ◌||◌}
use mathlib.Core.List.{List, [], ◌∷◌}
use Prim.Native.Nat.{ℕ, zero, suc, ◌+◌, ◌-◌, ◌*◌, ◌/◌, ◌%◌, ◌≤◌, ◌<◌}
use native.Mathlib.Omega.{arith}
use lib.Dec.{eqb, leb}
use lib.ListN.{get_or, take}
use borrow.Author.Tests.{eqb-true, eqb-false, leb-true}
use Rattle.std.proofs.lemmas.Bool.{agree_below, agree_below_at}
use Rattle.rules.specs.Calendar.{year, minus_year, leap, leap_row, common_row, month_lengths, month_length, year_length, sum, years, before_month, day_of_year, days_to}
use Rattle.calendar.specs.Ranges.{last_day, MonthDay, Countable}

-- the days that the leap rule adds to a year
abbrev pub leap_day : ℕ → ℕ
leap_day y = if leap y then 1 else 0

-- the leap rule as an equation that omega reads: 1 - r is 1 where r is 0, and else 0
pub leap_sum : (y : ℕ) → leap_day y + (1 - y % 100) ≡ (1 - y % 4) + (1 - y % 400)
unfolding leap
leap_sum y = go (eqb (y % 4) 0) (eqb (y % 100) 0) (eqb (y % 400) 0) refl refl refl
  where
    go : (a b c : Bool) → eqb (y % 4) 0 ≡ a → eqb (y % 100) 0 ≡ b → eqb (y % 400) 0 ≡ c → (if (a && not b) || c then 1 else 0) + (1 - y % 100) ≡ (1 - y % 4) + (1 - y % 400)
    go false b false p q r = omega (arith, eqb-false (y % 4) 0 p, eqb-false (y % 400) 0 r)
    go false b true p q r = omega (arith, eqb-false (y % 4) 0 p, eqb-true (y % 400) 0 r)
    go true false c p q r = omega (arith, eqb-true (y % 4) 0 p, eqb-false (y % 100) 0 q)
    go true true false p q r = omega (arith, eqb-true (y % 4) 0 p, eqb-true (y % 100) 0 q, eqb-false (y % 400) 0 r)
    go true true true p q r = omega (arith, eqb-true (y % 100) 0 q, eqb-true (y % 400) 0 r)

-- at most one day
pub leap_le : (y : ℕ) → leap_day y ≤ 1
leap_le y = omega (arith, leap_sum y)

-- a year has 365 days and that one
pub year_length_lem : (y : ℕ) → year_length y ≡ 365 + leap_day y
unfolding year_length
year_length_lem y = go (leap y)
  where
    go : (b : Bool) → (if b then 366 else 365) ≡ 365 + (if b then 1 else 0)
    go true = refl
    go false = refl

-- a year is as long as its twelve months
pub twelve : (y : ℕ) → sum (month_lengths y) ≡ year_length y
unfolding sum month_lengths year_length
twelve y = go (leap y)
  where
    go : (b : Bool) → sum (if b then leap_row else common_row) ≡ (if b then 366 else 365)
    go true = refl
    go false = refl

-- the row of a table of two: that of leap years is the second
pub row : (y r : ℕ) (common leaps : List ℕ) → r ≡ from_bool (leap y) → get_or (common ∷ leaps ∷ []) r [] ≡ (if leap y then leaps else common)
row y r common leaps = go (leap y)
  where
    go : (b : Bool) → r ≡ from_bool b → get_or (common ∷ leaps ∷ []) r [] ≡ (if b then leaps else common)
    go true e = rw e
    go false e = rw e

-- a test of a row of months at each number below n, which antt computes for both rows
pub by_row : (n : ℕ) (f : List ℕ → ℕ → Bool) → agree_below (f common_row) (λ _. true) n ≡ true → agree_below (f leap_row) (λ _. true) n ≡ true → (y k : ℕ) → k < n → f (month_lengths y) k ≡ true
unfolding month_lengths
by_row n f c l y = go (leap y)
  where
    go : (b : Bool) (k : ℕ) → k < n → f (if b then leap_row else common_row) k ≡ true
    go true k = agree_below_at (f leap_row) (λ _. true) n k l
    go false k = agree_below_at (f common_row) (λ _. true) n k c

-- a month has 28 to 31 days
pub month_low : (y m : ℕ) → 1 ≤ m → m ≤ 12 → 28 ≤ month_length y m
unfolding month_length
month_low y m l h = leb-true _ _ (by_row 12 (λ ls k. leb 28 (get_or ls k 0)) refl refl y (m - 1) (omega arith))

pub month_high : (y m : ℕ) → 1 ≤ m → m ≤ 12 → month_length y m ≤ 31
unfolding month_length
month_high y m l h = leb-true _ _ (by_row 12 (λ ls k. leb (get_or ls k 0) 31) refl refl y (m - 1) (omega arith))

-- 31 days from a month's first on lie in its year
pub before_high : (y m : ℕ) → 1 ≤ m → m ≤ 12 → before_month y m + 31 ≤ year_length y
unfolding before_month sum
before_high y m l h = rw (← twelve y) (leb-true _ _ (by_row 12 (λ ls k. leb (sum (take k ls) + 31) (sum ls)) refl refl y (m - 1) (omega arith)))

-- so a day lies in its year, also past its month's end
pub in_year : (y m d : ℕ) → MonthDay m d → day_of_year y m d < year_length y
unfolding day_of_year
in_year y m d h = omega (arith, before_high y m h.month_low h.month_high)

-- a quotient grows by one where the number becomes a multiple
next_4 : (p : ℕ) → suc p / 4 ≡ p / 4 + (1 - suc p % 4)
next_4 p = omega arith

next_100 : (p : ℕ) → suc p / 100 ≡ p / 100 + (1 - suc p % 100)
next_100 p = omega arith

next_400 : (p : ℕ) → suc p / 400 ≡ p / 400 + (1 - suc p % 400)
next_400 p = omega arith

-- the step of `closed_from`, with each quotient and each remainder a variable: omega has none to look into
step : (p Y L l a b c a' b' c' x z w : ℕ) → Y + b + 12888312 ≡ 365 * suc p + a + c → L ≡ 365 + l → l + z ≡ x + w → a' ≡ a + x → b' ≡ b + z → c' ≡ c + w → (Y + L) + b' + 12888312 ≡ 365 * suc (suc p) + a' + c'
step p Y L l a b c a' b' c' x z w h e k f g i = omega arith

closed_from : (n p : ℕ) → p ≡ 35286 + n → years n + p / 100 + 12888312 ≡ 365 * suc p + p / 4 + p / 400
unfolding years
closed_from zero p e = rw e refl
closed_from (suc n) p e =
    let q : ℕ = 35286 + n in
    let f : p ≡ suc q = omega arith in
    let g : 35287 + n ≡ suc q = omega arith in
    rw (f, g) (step q _ _ _ _ _ _ _ _ _ _ _ _ (closed_from n q refl) (year_length_lem (suc q)) (leap_sum (suc q)) (next_4 q) (next_100 q) (next_400 q))

-- the days of the years -4713 to y by quotients: y / 4 - y / 100 + y / 400 are the leap years from 1 to y
pub closed : (y : ℕ) → minus_year 4714 ≤ y → years (suc y - minus_year 4713) + y / 100 + 12888312 ≡ 365 * suc y + y / 4 + y / 400
closed y h = closed_from (suc y - 35287) y (omega arith)

-- the next year begins where this one ends
pub next_year : (y : ℕ) → minus_year 4713 ≤ y → years (suc y - minus_year 4713) ≡ years (y - minus_year 4713) + year_length y
unfolding years
next_year y h =
    let e : suc y - 35287 ≡ suc (y - 35287) = omega arith in
    let f : 35287 + (y - 35287) ≡ y = omega arith in
    rw (e, f)

-- the years -4713 to 9999 have 5373812 days
pub all_years : years (year 10000 - minus_year 4713) ≡ 5373812
all_years = omega (arith, closed (year 9999) (omega arith))

-- all of them end with 9999
years_high : (y : ℕ) → minus_year 4713 ≤ y → y ≤ year 9999 → years (suc y - minus_year 4713) ≤ 5373812
years_high y l h = omega (arith, closed y (omega arith))

-- no day is counted past 9999-12-31
pub days_high : (y m d : ℕ) → Countable y m d → days_to y m d ≤ last_day
unfolding days_to
days_high y m d h = omega (arith, in_year y m d h.fields, next_year y h.year_low, years_high y h.year_low h.year_high)
