-- The days of the week, and the ISO week. Assumes nothing.
use mathlib.Core.Path.{◌≡◌, refl, sym}
use Rattle.std.specs.Prelude.{if◌then◌else◌}
use mathlib.Core.Bool.{Bool, true, false}
use Prim.Native.Nat.{ℕ, zero, suc, ◌+◌, ◌-◌, ◌*◌, ◌/◌, ◌%◌, ◌≤◌}
use native.Mathlib.Omega.{arith}
use lib.Dec.{eqb}
use borrow.Author.Tests.{eqb-true, eqb-false}
use Rattle.rules.specs.Calendar.{instant, day_length, day_zero, midnight, day_of, since_monday, since_sunday, thursday, iso_week}
use Rattle.calendar.specs.Ranges.{last_day, InRange}
use Rattle.calendar.proofs.Years.{leap_le, year_length_lem, in_year}
use Rattle.calendar.proofs.Counting.{DateOf, month_day}
use Rattle.calendar.proofs.Dates.{date}
use Rattle.calendar.proofs.Instants.{day_zero_lem, start_is, day_low, day_high, from_start, day_after, day_of_midnight}

-- the days since Monday, a day later: from 6 on Sunday to 0
abbrev pub tomorrow : ℕ → ℕ
tomorrow w = if eqb w 6 then 0 else w + 1

next : (n : ℕ) → suc n % 7 ≡ tomorrow (n % 7)
next n = go (eqb (n % 7) 6) refl
  where
    go : (b : Bool) → eqb (n % 7) 6 ≡ b → suc n % 7 ≡ (if b then 0 else n % 7 + 1)
    go true e = omega (arith, eqb-true (n % 7) 6 e)
    go false e = omega (arith, eqb-false (n % 7) 6 e)

-- the day of the millisecond 0 is a Monday
pub monday : since_monday (instant 0) ≡ 0
unfolding since_monday day_of
monday = rw (day_zero_lem, start_is)

-- each day is followed by the next of the week
pub next_day : (t : ℕ) → instant 0 ≤ t → since_monday (t + day_length) ≡ tomorrow (since_monday t)
unfolding since_monday
next_day t h =
    let e = day_after t (from_start t h) in
    let f : suc (day_of t) - day_zero ≡ suc (day_of t - day_zero) = omega (arith, day_low t h) in
    rw (e, f) (next (day_of t - day_zero))

counted : (w : ℕ → ℕ) → w day_zero ≡ 0 → ((n : ℕ) → day_zero ≤ n → w (suc n) ≡ tomorrow (w n)) → (k n : ℕ) → n ≡ day_zero + k → w n ≡ k % 7
counted w z s zero n e =
    let f : n ≡ day_zero = omega arith in
    rw f z
counted w z s (suc k) n e =
    let f : n ≡ suc (day_zero + k) = omega arith in
    rw (f, s (day_zero + k) (omega arith), counted w z s k (day_zero + k) refl) (sym (next k))

-- whatever goes through the week so, from that Monday on, is `since_monday`
pub only_week : (w : ℕ → ℕ) → w day_zero ≡ 0 → ((n : ℕ) → day_zero ≤ n → w (suc n) ≡ tomorrow (w n)) → (t : ℕ) → instant 0 ≤ t → w (day_of t) ≡ since_monday t
unfolding since_monday
only_week w z s t h = counted w z s (day_of t - day_zero) (day_of t) (omega (arith, day_low t h))

-- Sunday comes a day before Monday
pub sunday : (t : ℕ) → since_sunday t ≡ (since_monday t + 1) % 7
unfolding since_sunday since_monday
sunday t = omega arith

-- 9999-12-31 is a Friday, so that its Thursday is within the count
pub thursday_high : (t : ℕ) → InRange t → day_of t + 3 - since_monday t ≤ last_day
unfolding since_monday
thursday_high t h = rw day_zero_lem (omega (arith, day_high t h.to, rw day_zero_lem at (day_low t h.from)))

-- the Thursday of t is the fourth day of the week that begins with the last Monday
pub thursday_date : (t : ℕ) → InRange t → DateOf (day_of t + 3 - since_monday t) (thursday t).year (thursday t).month (thursday t).day
unfolding thursday
thursday_date t h = date (day_of t + 3 - since_monday t) (thursday_high t h)

fourth : (n z : ℕ) → z ≤ n → (n + 3 - (n - z) % 7 - z) % 7 ≡ 3
fourth n z h =
    let q : n + 3 - (n - z) % 7 - z ≡ 7 * ((n - z) / 7) + 3 = omega arith in
    rw q (omega arith)

-- and it is a Thursday
pub is_thursday : (t : ℕ) → InRange t → since_monday (midnight (thursday t).year (thursday t).month (thursday t).day) ≡ 3
unfolding since_monday
is_thursday t h =
    let D = thursday_date t h in
    rw (day_of_midnight (thursday t).year (thursday t).month (thursday t).day, D.counted) (fourth (day_of t) day_zero (day_low t h.from))

-- the ISO week is 1 to 53
pub week_low : (t : ℕ) → 1 ≤ iso_week t
unfolding iso_week
week_low t = omega arith

pub week_high : (t : ℕ) → InRange t → iso_week t ≤ 53
unfolding iso_week
week_high t h =
    let D = thursday_date t h in
    let c = thursday t in
    omega (arith, in_year c.year c.month c.day (month_day c.year c.month c.day D.exists), year_length_lem c.year, leap_le c.year)
