-- A month as one number, y * 12 + (m - 1): the days before it rise by its length. Assumes nothing.
use mathlib.Core.Path.{◌≡◌, refl, ◌∙◌}
use mathlib.Core.List.{List, [], ◌∷◌}
use Prim.Native.Nat.{ℕ, zero, suc, ◌+◌, ◌-◌, ◌*◌, ◌/◌, ◌%◌, ◌≤◌, ◌<◌}
use native.Mathlib.Omega.{arith}
use native.Mathlib.Decide.{dec_lt}
use native.Mathlib.Numerals.{add-one}
use lib.Dec.{eqb}
use lib.ListN.{get_or, take}
use borrow.Author.Tests.{eqb-true}
use Rattle.rules.specs.Calendar.{minus_year, sum, year_length, month_lengths, month_length, before_month, day_of_year, days_to}
use Rattle.calendar.proofs.Counting.{DateOf}
use Rattle.calendar.proofs.Years.{by_row, twelve, month_low, month_high, next_year}

-- ---- the next month

-- one entry more of a list
take_one : (ls : List ℕ) (k : ℕ) → sum (take (suc k) ls) ≡ sum (take k ls) + get_or ls k 0
unfolding sum
take_one [] zero = refl
take_one [] (suc k) = refl
take_one (l ∷ ls) zero = omega arith
take_one (l ∷ ls) (suc k) = omega (arith, take_one ls k)

-- all twelve entries
take_twelve : (y : ℕ) → sum (take 12 (month_lengths y)) ≡ year_length y
unfolding sum
take_twelve y = eqb-true _ _ (by_row 1 (λ ls k. eqb (sum (take 12 ls)) (sum ls)) refl refl y 0 (omega arith)) ∙ twelve y

-- the days to the next month, and from December to the next year
next_month : (y m d : ℕ) → 1 ≤ m → days_to y (m + 1) d ≡ days_to y m d + month_length y m
unfolding days_to day_of_year before_month month_length
next_month y m d h =
    let e : m + 1 - 1 ≡ suc (m - 1) = omega arith in
    rw e (omega (arith, take_one (month_lengths y) (m - 1)))

new_year : (y d : ℕ) → minus_year 4713 ≤ y → days_to (y + 1) 1 d ≡ days_to y 12 d + month_length y 12
unfolding days_to day_of_year before_month month_length sum
new_year y d h = rw (add-one y) (omega (arith, next_year y h, take_twelve y, take_one (month_lengths y) 11))

-- a day past its month's end is a day of the next month, and after December one of the next year
pub over : (y m d : ℕ) → 1 ≤ m → month_length y m < d → days_to y m d ≡ days_to y (m + 1) (d - month_length y m)
unfolding days_to day_of_year
over y m d h l = omega (arith, next_month y m (d - month_length y m) h)

pub over_december : (y d : ℕ) → minus_year 4713 ≤ y → month_length y 12 < d → days_to y 12 d ≡ days_to (y + 1) 1 (d - month_length y 12)
unfolding days_to day_of_year
over_december y d h l = omega (arith, new_year y (d - month_length y 12) h)

-- ---- months by number

-- the length of the month k, and the days before it
unfoldable pub len : ℕ → ℕ
len k = month_length (k / 12) (k % 12 + 1)

unfoldable pub first : ℕ → ℕ
first k = days_to (k / 12) (k % 12 + 1) 1

-- it is 28 to 31 days long
pub len_low : (k : ℕ) → 28 ≤ len k
unfolding len
len_low k = month_low (k / 12) (k % 12 + 1) (omega arith) (omega arith)

pub len_high : (k : ℕ) → len k ≤ 31
unfolding len
len_high k = month_high (k / 12) (k % 12 + 1) (omega arith) (omega arith)

-- the month and the year of a month's number
number : (y m : ℕ) → 1 ≤ m → m ≤ 12 → ((y * 12 + (m - 1)) / 12 ≡ y) × ((y * 12 + (m - 1)) % 12 + 1 ≡ m)
number y m l h = omega arith

-- a date's day by its month's number, and that month's length
pub of_date : (y m d : ℕ) → 1 ≤ m → m ≤ 12 → days_to y m d ≡ first (y * 12 + (m - 1)) + (d - 1)
unfolding first days_to day_of_year
of_date y m d l h = let e = number y m l h in rw (e.0, e.1) (omega arith)

pub of_length : (y m : ℕ) → 1 ≤ m → m ≤ 12 → month_length y m ≡ len (y * 12 + (m - 1))
unfolding len
of_length y m l h = let e = number y m l h in rw (e.0, e.1)

-- the day d of the month k, by its number
pub in_month_lem : (k d : ℕ) → days_to (k / 12) (k % 12 + 1) d ≡ first k + (d - 1)
unfolding first days_to day_of_year
in_month_lem k d = omega arith

-- a day lies in its date's month
pub of_day_lem : (n y m d : ℕ) → DateOf n y m d → (first (y * 12 + (m - 1)) ≤ n) × (n < first (y * 12 + (m - 1)) + len (y * 12 + (m - 1)))
of_day_lem n y m d h =
    let D = h.exists in
    omega (arith, h.counted, of_date y m d D.month_low D.month_high, of_length y m D.month_low D.month_high)

-- the next month begins where this one ends, from -4713 on
pub first_next : (k : ℕ) → minus_year 4713 * 12 ≤ k → first (suc k) ≡ first k + len k
unfolding first len
first_next k h = go (dec_lt (k % 12) 11)
  where
    go : Dec (k % 12 < 11) → days_to (suc k / 12) (suc k % 12 + 1) 1 ≡ days_to (k / 12) (k % 12 + 1) 1 + month_length (k / 12) (k % 12 + 1)
    go (yes l) =
        let p : suc k / 12 ≡ k / 12 = omega arith in
        let q : suc k % 12 ≡ k % 12 + 1 = omega arith in
        rw (p, q) (next_month (k / 12) (k % 12 + 1) 1 (omega arith))
    go (no l) =
        let p : suc k / 12 ≡ k / 12 + 1 = omega arith in
        let q : suc k % 12 ≡ 0 = omega (arith, l) in
        let r : k % 12 ≡ 11 = omega (arith, l) in
        rw (p, q, r) (new_year (k / 12) 1 (omega arith))

-- an earlier month ends before a later one begins
pub first_rises : (j k : ℕ) → minus_year 4713 * 12 ≤ j → j < k → first j + len j ≤ first k
first_rises j zero h l = absurd (omega arith)
first_rises j (suc k) h l = go (first_rises j k h) (dec_lt j k)
  where
    go : (j < k → first j + len j ≤ first k) → Dec (j < k) → first j + len j ≤ first (suc k)
    go ih (yes i) = omega (arith, ih i, first_next k (omega arith))
    go ih (no i) =
        let e : j ≡ k = omega (arith, i) in
        rw e (omega (arith, first_next k (omega arith)))
