-- Where a step of the rules refuses, fails or leaves the record as it is, and a test of theirs answers no: the cases beside those of Steps
-- and Modifiers. The check finds them by itself at each function; they are laws of the rules' definitions. Assumes nothing.
use mathlib.Core.Bool.{Bool, true, false}
use mathlib.Core.Path.{◌≡◌, sym, ap, ◌∙◌}
use Prim.Native.Nat.{ℕ, ◌+◌, ◌-◌, ◌*◌, ◌/◌, ◌%◌, ◌≤◌, ◌<◌}
use native.Mathlib.Nat.{mul-one}
use native.Mathlib.Omega.{arith}
use borrow.Author.Tests.{eq-eqb, le-leb, lt-leb, le-ltb, lt-ltb}
use lib.Dec.{leb}
use lib.IntN.{ℤ, pos, ◌*ℤ◌}
use Rattle.rules.specs.Basics.{refuse}
use Rattle.rules.specs.Calendar.{year, minus_year, instant, last, in_range, day_length}
use Rattle.rules.specs.Floats.{number}
use Rattle.rules.specs.Moments.{Moment, blank, failure, no_zone, clear, set_ms, set_date, set_time, set_timed, set_zone, set_utc, time_ms, with_time, sum_of, count_ms, fill_date, fill_time, fill, shift}
use Rattle.rules.specs.Modifiers.{signed, from_epoch, is_auto, auto, is_unix, unix, days_on}
use Rattle.rules.specs.Reading.{timed}
use Rattle.rules.specs.declared.Refusal.{Refusal}
use Rattle.rules.specs.declared.Time.{Time}
use Rattle.moment.specs.Ranges.{sum_takes}
use Rattle.moment.specs.Sums.{date_meant, time_meant}
use Rattle.moment.proofs.Modifiers.{step, passes}
use Rattle.moment.proofs.Steps.{date_stands, time_stands}
use Rattle.moment.proofs.Ways.{move_back, move_product}

-- ---- sums of fields
pub too_early : (y : ℕ) (raw : Bool) → y < minus_year 4713 → false ≡ sum_takes y raw
too_early y raw h = rw (lt-leb (minus_year 4713) y h)

pub too_late : (y : ℕ) (raw : Bool) → minus_year 4713 ≤ y → year 9999 < y → false ≡ sum_takes y raw
too_late y raw h k = rw (le-leb (minus_year 4713) y h, lt-leb y (year 9999) k)

pub zoneless : (p : Moment) → p.timed ≡ true → p.zone ≡ no_zone → with_time p ≡ set_ms p (p.ms + time_ms p.hour p.minute p.second)
unfolding with_time
zoneless p h z = rw (h, eq-eqb p.zone no_zone z)

pub count_dated : (p : Moment) → p.counted ≡ false → p.dated ≡ true → count_ms p ≡ sum_of p p.year p.month p.day
unfolding count_ms
count_dated p h k = rw (h, k)

-- what is meant
pub date_known : (p : Moment) → p.dated ≡ true → record { year = p.year; month = p.month; day = p.day } ≡ date_meant p
date_known p h = rw h

pub date_not : (p : Moment) → p.dated ≡ false → record { year = year 2000; month = 1; day = 1 } ≡ date_meant p
date_not p h = rw h

pub time_known : (p : Moment) → p.timed ≡ true → record { hour = p.hour; minute = p.minute; second = p.second; zone = p.zone; utc = false } ≡ time_meant p
time_known p h = rw h

pub time_not : (p : Moment) → p.timed ≡ false → record { hour = 0; minute = 0; second = number 0; zone = no_zone; utc = false } ≡ time_meant p
time_not p h = rw h

-- ---- fields from milliseconds
pub before_range : (t : ℕ) → t < instant 0 → in_range t ≡ false
before_range t h = rw (lt-leb (instant 0) t h)

pub from_range : (t : ℕ) → instant 0 ≤ t → in_range t ≡ leb t last
from_range t h = rw (le-leb (instant 0) t h)

pub after_range : (t : ℕ) → last < t → in_range t ≡ false
after_range t h = rw (le-leb (instant 0) t (omega arith), lt-leb t last h)

pub date_fails : (p : Moment) → p.dated ≡ false → p.counted ≡ true → in_range p.ms ≡ false → fill_date p ≡ failure
unfolding fill_date
date_fails p h k r = rw (h, k, r)

pub fill_stands : (p : Moment) → p.dated ≡ true → p.timed ≡ true → p ≡ fill p
unfolding fill
fill_stands p d t = sym (ap fill_time (date_stands p d) ∙ time_stands p t)

-- ---- what is read
pub timed_utc : (t : Time) → t.utc ≡ true → timed t ≡ set_utc (set_zone (set_timed (set_time blank t.hour t.minute t.second) true) t.zone)
timed_utc t h = rw h

pub timed_other : (t : Time) → t.utc ≡ false → timed t ≡ set_zone (set_timed (set_time blank t.hour t.minute t.second) true) t.zone
timed_other t h = rw h

-- ---- the modifiers
pub step_back : (p : Moment) (b : Bool) (n : ℕ) → b ≡ true → clear (set_ms p (p.ms - n)) ≡ step (signed b n) p
step_back p b n h = rw h (ap (λ (t : ℕ). clear (set_ms p t)) (ap (λ (m : ℕ). p.ms - m) (sym (mul-one n)) ∙ sym (move_back p.ms n 1)))

pub step_on : (p : Moment) (b : Bool) (n : ℕ) → b ≡ false → clear (set_ms p (p.ms + n)) ≡ step (signed b n) p
step_on p b n h = rw h (ap (λ (m : ℕ). clear (set_ms p (p.ms + m))) (sym (mul-one n)))

pub auto_out : (p : Moment) → p.raw ≡ true → p.counted ≡ false → is_auto p.second ≡ false → auto p ≡ p
unfolding auto
auto_out p h k i = rw (h, k, i)

pub unix_known : (p : Moment) → p.raw ≡ false → unix p ≡ refuse Refusal.Null
unfolding unix
unix_known p h = rw h

pub unix_out : (p : Moment) → p.raw ≡ true → is_unix (from_epoch p.second) ≡ false → unix p ≡ refuse Refusal.Null
unfolding unix
unix_out p h k = rw (h, k)

-- the days on to a day of the week, which are counted from the start of -4713-11-23
abbrev sunday : ℕ
sunday = 9223372036725175808

pub on_early : (n t : ℕ) → t < sunday → n + (sunday - t) / day_length % 7 ≡ days_on n t
unfolding days_on
on_early n t h = rw (lt-leb sunday t h)

pub on_next : (n t : ℕ) → sunday ≤ t → n < (t - sunday) / day_length % 7 → n + 7 - (t - sunday) / day_length % 7 ≡ days_on n t
unfolding days_on
on_next n t h k = rw (le-leb sunday t h, lt-ltb n ((t - sunday) / day_length % 7) k)

pub on_this : (n t : ℕ) → sunday ≤ t → (t - sunday) / day_length % 7 ≤ n → n - (t - sunday) / day_length % 7 ≡ days_on n t
unfolding days_on
on_this n t h k = rw (le-leb sunday t h, le-ltb n ((t - sunday) / day_length % 7) k)

-- k months n times are so many at once
pub shift_times : (p : Moment) (z : ℤ) (k : ℕ) → shift p (z *ℤ pos k) 1 ≡ shift p z k
unfolding shift
shift_times p z k = ap (λ (n : ℕ). set_date p (n / 12) (n % 12 + 1) p.day) (sym (move_product (p.year * 12 + (p.month - 1)) z k))

-- ---- the final range
pub passes_failed : (q : Moment) → q.failed ≡ true → false ≡ passes q
passes_failed q h = rw h

pub passes_range : (q : Moment) (b : Bool) → q.failed ≡ false → in_range q.ms ≡ b → b ≡ passes q
passes_range q b h k = rw (h, k)
