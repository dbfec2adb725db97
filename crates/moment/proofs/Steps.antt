-- What each step of the rules gives, case by case. Assumes nothing.
use mathlib.Core.Bool.{Bool, true, false, not}
use Rattle.std.specs.Prelude.{if◌then◌else◌}
use mathlib.Core.Path.{◌≡◌}
use Prim.Native.Nat.{ℕ, ◌≤◌}
use borrow.Author.Tests.{le-leb, leb-true}
use lib.Dec.{eqb, leb}
use lib.Ieee.{Float}
use Rattle.rules.specs.Calendar.{year, minus_year, instant, last, in_range, midnight, civil, time_of_day}
use Rattle.calendar.specs.Ranges.{MonthDay, Countable}
use Rattle.moment.specs.Ranges.{sum_takes}
use Rattle.moment.proofs.Branches.{either, by_test}
use Rattle.real.proofs.Tests.{and_left, and_right}
use Rattle.rules.specs.Reading.{is_julian, julian_ms, raw_number}
use Rattle.rules.specs.Moments.{Moment, blank, failure, no_zone, counted, clear, set_date, set_dated, set_time, set_raw, set_utc, with_time, sum_of, count_ms, on_date, fill_date, on_time, fill_time}

-- ---- sum_of
pub in_time : (y : ℕ) (raw : Bool) → minus_year 4713 ≤ y → y ≤ year 9999 → not raw ≡ sum_takes y raw
in_time y raw h k = rw (le-leb (minus_year 4713) y h, le-leb y (year 9999) k)

pub taken : (y m d : ℕ) (raw : Bool) → MonthDay m d → sum_takes y raw ≡ true → Countable y m d
taken y m d raw k h = record { year_low = leb-true (minus_year 4713) y (and_left _ _ h); year_high = leb-true y (year 9999) (and_left _ (not raw) (and_right (leb (minus_year 4713) y) _ h)); fields = k }

pub summed : (p : Moment) (y m d : ℕ) → sum_takes y p.raw ≡ true → sum_of p y m d ≡ with_time (counted p (midnight y m d))
unfolding sum_of
summed p y m d h = rw h

pub unsummed : (p : Moment) (y m d : ℕ) → sum_takes y p.raw ≡ false → sum_of p y m d ≡ failure
unfolding sum_of
unsummed p y m d h = rw h

-- ---- count_ms
pub already : (p : Moment) → p.counted ≡ true → count_ms p ≡ p
unfolding count_ms
already p h = rw h

-- what comes of it: the record as it stood; the error record; or milliseconds that stand, and the fields cleared where a zone was taken off
pub count_cases : (P : Moment → Type 0) (p : Moment) → (p.counted ≡ true → P p) → P failure → ((t : ℕ) → P (counted p t)) → ((t : ℕ) → P (set_utc (clear (counted p t)))) → P (count_ms p)
unfolding count_ms sum_of with_time
count_cases P p stands fails sums clears =
    by_test P p.counted p (if p.dated then sum_of p p.year p.month p.day else sum_of p (year 2000) 1 1) stands
    (λ _. either P p.dated (sum_of p p.year p.month p.day) (sum_of p (year 2000) 1 1) (sum p.year p.month p.day) (sum (year 2000) 1 1))
  where
    sum : (y m d : ℕ) → P (sum_of p y m d)
    sum y m d = either P (sum_takes y p.raw) (with_time (counted p (midnight y m d))) failure (either P p.timed _ (counted p (midnight y m d)) (either P (eqb p.zone no_zone) _ _ (sums _) (clears _)) (sums _)) fails

-- ---- fill_date
pub date_stands : (p : Moment) → p.dated ≡ true → fill_date p ≡ p
unfolding fill_date
date_stands p h = rw h

pub date_unknown : (p : Moment) → p.dated ≡ false → p.counted ≡ false → fill_date p ≡ set_dated (set_date p (year 2000) 1 1) true
unfolding fill_date
date_unknown p h k = rw (h, k)

pub in_range_lem : (t : ℕ) → instant 0 ≤ t → t ≤ last → in_range t ≡ true
in_range_lem t a b = rw (le-leb (instant 0) t a) (le-leb t last b)

pub date_filled : (p : Moment) → p.dated ≡ false → p.counted ≡ true → in_range p.ms ≡ true → fill_date p ≡ on_date p (civil p.ms)
unfolding fill_date
date_filled p h k r = rw (h, k, r)

pub date_cases : (P : Moment → Type 0) (p : Moment) → (p.dated ≡ true → P p) → (in_range p.ms ≡ true → P (on_date p (civil p.ms))) → (p.counted ≡ true → in_range p.ms ≡ false → P failure) → (p.counted ≡ false → P (set_dated (set_date p (year 2000) 1 1) true)) → P (fill_date p)
unfolding fill_date
date_cases P p stands fills fails unknown =
    by_test P p.dated p (if p.counted then (if in_range p.ms then on_date p (civil p.ms) else failure) else set_dated (set_date p (year 2000) 1 1) true) stands
    (λ _. by_test P p.counted (if in_range p.ms then on_date p (civil p.ms) else failure) (set_dated (set_date p (year 2000) 1 1) true) (λ c. by_test P (in_range p.ms) (on_date p (civil p.ms)) failure fills (fails c)) unknown)

-- ---- fill_time
pub time_stands : (p : Moment) → p.timed ≡ true → fill_time p ≡ p
unfolding fill_time
time_stands p h = rw h

pub time_filled : (p : Moment) → p.timed ≡ false → fill_time p ≡ on_time (count_ms p) (time_of_day (count_ms p).ms)
unfolding fill_time
time_filled p h = rw h

pub time_cases : (P : Moment → Type 0) (p : Moment) → (p.timed ≡ true → P p) → P (on_time (count_ms p) (time_of_day (count_ms p).ms)) → P (fill_time p)
unfolding fill_time
time_cases P p stands fills = by_test P p.timed p (on_time (count_ms p) (time_of_day (count_ms p).ms)) stands (λ _. fills)

-- ---- what is read
pub raw_julian : (n : Float) → is_julian n ≡ true → raw_number n ≡ counted (set_raw (set_time blank 0 0 n) true) (instant (julian_ms n))
raw_julian n h = rw h

pub raw_other : (n : Float) → is_julian n ≡ false → raw_number n ≡ set_raw (set_time blank 0 0 n) true
raw_other n h = rw h
