-- The date of a day by quotients, in years that begin on 1 March: what `date_after` computes. Assumes nothing.
use mathlib.Core.Path.{◌≡◌, refl, sym}
use Prim.Native.Nat.{ℕ, suc, ◌+◌, ◌-◌, ◌*◌, ◌/◌, ◌%◌, ◌≤◌, ◌<◌}
use native.Mathlib.Omega.{arith}
use native.Mathlib.Decide.{dec_lt}
use native.Mathlib.Numerals.{add-one}
use lib.Dec.{eqb, ltb}
use lib.ListN.{get_or, take}
use borrow.Author.Tests.{eqb-true, ltb-true}
use Rattle.rules.specs.Calendar.{year, minus_year, month_lengths, month_length, sum, years, before_month, day_of_year, days_to}
use Rattle.calendar.specs.Ranges.{last_day}
use Rattle.calendar.proofs.Counting.{DateOf}
use Rattle.calendar.proofs.Years.{by_row, twelve, leap_day, leap_sum, leap_le, year_length_lem, closed, next_year, all_years}

-- ---- the year

-- the century c of the day n, and its day b; a century has 36524 days, each fourth one more
century : (n c b : ℕ) → c ≡ (4 * n + 3) / 146097 → b ≡ (4 * n + 3) % 146097 / 4 → (n ≡ 36524 * c + c / 4 + b) × (4 * b ≤ 146093 + c % 4)
century n c b p q = let e : n ≡ 36524 * c + c / 4 + b = omega arith in (e, omega arith)

-- the year z of the day b of a century, and its day x; a year has 365 days, each fourth one more
year_of : (b z x : ℕ) → z ≡ (4 * b + 3) / 1461 → x ≡ (4 * b + 3) % 1461 / 4 → (b ≡ 365 * z + z / 4 + x) × (4 * x ≤ 1457 + z % 4)
year_of b z x p q = let e : b ≡ 365 * z + z / 4 + x = omega arith in (e, omega arith)

-- the quotients of the year that these two are
joined : (c z : ℕ) → z < 100 → ((35200 + 100 * c + z) / 4 ≡ 8800 + 25 * c + z / 4) × ((35200 + 100 * c + z) / 100 ≡ 352 + c) × ((35200 + 100 * c + z) / 400 ≡ 88 + c / 4)
joined c z h = omega arith

-- the next year, where it may be leap
next_4 : (c z : ℕ) → z % 4 ≡ 3 → suc (35200 + 100 * c + z) % 4 ≡ 0
next_4 c z e = let q : suc (35200 + 100 * c + z) / 4 ≡ 8800 + 25 * c + z / 4 + 1 = omega arith in omega arith

next_100 : (c z : ℕ) → z < 99 → 1 ≤ suc (35200 + 100 * c + z) % 100
next_100 c z e = omega arith

next_400 : (c z : ℕ) → z ≡ 99 → c % 4 ≡ 3 → suc (35200 + 100 * c + z) % 400 ≡ 0
next_400 c z e f = let q : suc (35200 + 100 * c + z) / 400 ≡ 88 + c / 4 + 1 = omega arith in omega arith

-- the day x is the 366th of its year only where the next February has 29 days
leap_next : (c z : ℕ) → z < 100 → (b x : ℕ) → b ≡ 365 * z + z / 4 + x → 4 * b ≤ 146093 + c % 4 → 4 * x ≤ 1457 + z % 4 → x < 365 + leap_day (suc (35200 + 100 * c + z))
leap_next c z h b x p q r = go (dec_lt x 365)
  where
    by_century : 365 ≤ x → z % 4 ≡ 3 → Dec (z < 99) → x < 365 + leap_day (suc (35200 + 100 * c + z))
    by_century l e (yes k) = omega (arith, leap_sum (suc (35200 + 100 * c + z)), next_4 c z e, next_100 c z k)
    by_century l e (no k) =
        let g : z ≡ 99 = omega (arith, k) in
        omega (arith, leap_sum (suc (35200 + 100 * c + z)), next_4 c z e, next_400 c z g (omega arith))

    go : Dec (x < 365) → x < 365 + leap_day (suc (35200 + 100 * c + z))
    go (yes l) = omega arith
    go (no l) = by_century (omega (arith, l)) (omega (arith, l)) (dec_lt z 99)

-- The day n of the count is the day x after 1 March of the year y: 306 days later the next year begins.
pub record March (n y x : ℕ) : Type 0 where
  pub sum : n + 306 ≡ years (suc y - minus_year 4713) + x
  pub within : x < 365 + leap_day (suc y)
  pub low : minus_year 4714 ≤ y
  pub high : y ≤ year 9999

-- the sums with each quotient a variable
sum_of : (n c b z x Y c4 z4 y4 y1 y400 : ℕ) → n + 31717 ≡ 36524 * c + c4 + b → b ≡ 365 * z + z4 + x → y4 ≡ 8800 + 25 * c + z4 → y1 ≡ 352 + c → y400 ≡ 88 + c4 → Y + y1 + 12888312 ≡ 365 * suc (35200 + 100 * c + z) + y4 + y400 → n + 306 ≡ Y + x
sum_of n c b z x Y c4 z4 y4 y1 y400 p q r s t u = omega arith

-- what the two divisions find
pub march : (n c b z x : ℕ) → n ≤ last_day → c ≡ (4 * (n + 31717) + 3) / 146097 → b ≡ (4 * (n + 31717) + 3) % 146097 / 4 → z ≡ (4 * b + 3) / 1461 → x ≡ (4 * b + 3) % 1461 / 4 → March n (35200 + 100 * c + z) x
march n c b z x l p q r s =
    let u = century (n + 31717) c b p q in
    let v = year_of b z x r s in
    let h : z < 100 = omega arith in
    let j = joined c z h in
    let low : 35286 ≤ 35200 + 100 * c + z = omega (arith, u.0, v.0, v.1) in
    record {
      sum = sum_of n c b z x _ _ _ _ _ _ u.0 v.0 j.0 j.1 j.2 (closed (35200 + 100 * c + z) low);
      within = leap_next c z h b x v.0 u.1 v.1;
      low = low;
      high = omega arith;
    }

-- ---- the month

-- the months before the day x after 1 March, and the days of its month before it
abbrev pub month : ℕ → ℕ
month x = (5 * x + 2) / 153

abbrev pub rest : ℕ → ℕ
rest x = x - (153 * month x + 2) / 5

-- March to December: 306 days, each tested in both rows
spring_sum : (y x : ℕ) → x < 306 → sum (take (month x + 2) (month_lengths y)) + rest x + 306 ≡ sum (month_lengths y) + x
unfolding sum
spring_sum y x l = eqb-true _ _ (by_row 306 (λ ls x. eqb (sum (take (month x + 2) ls) + rest x + 306) (sum ls + x)) refl refl y x l)

spring_fit : (y x : ℕ) → x < 306 → rest x < get_or (month_lengths y) (month x + 2) 0
spring_fit y x l = ltb-true _ _ (by_row 306 (λ ls x. ltb (rest x) (get_or ls (month x + 2) 0)) refl refl y x l)

-- January and February: the 60 days x after those, of which the last is one of 366 only
winter_sum : (y x : ℕ) → x < 60 → sum (take (month (x + 306) - 10) (month_lengths y)) + rest (x + 306) ≡ x
unfolding sum
winter_sum y x l = eqb-true _ _ (by_row 60 (λ ls x. eqb (sum (take (month (x + 306) - 10) ls) + rest (x + 306)) x) refl refl y x l)

winter_fit : (y x : ℕ) → x < 60 → rest (x + 306) < get_or (month_lengths y) (month (x + 306) - 10) 0 + (x + 307 - sum (month_lengths y))
unfolding sum
winter_fit y x l = ltb-true _ _ (by_row 60 (λ ls x. ltb (rest (x + 306)) (get_or ls (month (x + 306) - 10) 0 + (x + 307 - sum ls))) refl refl y x l)

-- ---- the date

-- -4714 ends before the count begins
from_4713 : (n y x : ℕ) → March n y x → x < 306 → minus_year 4713 ≤ y
unfolding years
from_4713 n y x h l = go (dec_lt y 35287)
  where
    go : Dec (y < 35287) → 35287 ≤ y
    go (yes k) =
        let e : suc y - 35287 ≡ 0 = omega arith in
        omega (arith, rw e at h.sum)
    go (no k) = omega (arith, k)

-- 9999 ends with the last day
before_10000 : (n y x : ℕ) → March n y x → n ≤ last_day → 306 ≤ x → suc y ≤ year 9999
before_10000 n y x h l k = go (dec_lt y 49999)
  where
    go : Dec (y < 49999) → suc y ≤ 49999
    go (yes i) = i
    go (no i) =
        let e : suc y ≡ 50000 = omega (arith, i, h.high) in
        omega (arith, rw e at h.sum, all_years)

-- March to December are months of the same year
pub spring : (n y x : ℕ) → March n y x → month x < 10 → DateOf n y (month x + 3) (rest x + 1)
unfolding days_to day_of_year before_month month_length
spring n y x h l =
    let k : x < 306 = omega arith in
    let low = from_4713 n y x h k in
    let m : month x + 3 - 1 ≡ month x + 2 = omega arith in
    let d : rest x + 1 - 1 ≡ rest x = omega arith in
    record {
      exists = record { month_low = omega arith; month_high = omega arith; day_low = omega arith; day_high = rw m (omega (arith, spring_fit y x k)) };
      counted = rw (m, d) (omega (arith, h.sum, next_year y low, twelve y, spring_sum y x k));
      low = low;
      high = h.high;
    }

-- January and February are the next year's
january : (n y x : ℕ) → March n y (x + 306) → n ≤ last_day → 10 ≤ month (x + 306) → DateOf n (suc y) (month (x + 306) - 9) (rest (x + 306) + 1)
unfolding days_to day_of_year before_month month_length
january n y x h u l =
    let k : x < 60 = omega (arith, h.within, leap_le (suc y)) in
    let m : month (x + 306) - 9 - 1 ≡ month (x + 306) - 10 = omega arith in
    let d : rest (x + 306) + 1 - 1 ≡ rest (x + 306) = omega arith in
    record {
      exists = record { month_low = omega arith; month_high = omega arith; day_low = omega arith; day_high = rw m (omega (arith, winter_fit (suc y) x k, h.within, twelve (suc y), year_length_lem (suc y))) };
      counted = rw (m, d) (omega (arith, h.sum, winter_sum (suc y) x k));
      low = omega (arith, h.low);
      high = before_10000 n y (x + 306) h u (omega arith);
    }

pub winter : (n y x : ℕ) → March n y x → n ≤ last_day → 10 ≤ month x → DateOf n (y + 1) (month x - 9) (rest x + 1)
winter n y x h u l =
    let e : x ≡ x - 306 + 306 = omega arith in
    let w : March n y (x - 306 + 306) = rw (sym e) h in
    rw (add-one y, e) (january n y (x - 306) w u (omega arith))
