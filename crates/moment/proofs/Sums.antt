-- The milliseconds of a record's fields, as the date and the time of day that are meant give them. Assumes nothing.
use mathlib.Core.Bool.{Bool, true, false}
use Rattle.std.specs.Prelude.{if◌then◌else◌}
use mathlib.Core.Path.{◌≡◌, refl, sym, ap, ◌∙◌, subst}
use Prim.Native.Nat.{ℕ, ◌+◌, ◌-◌, ◌*◌}
use native.Mathlib.Omega.{arith}
use borrow.Author.Tests.{eq-eqb, ne_eqb, eqb-true}
use lib.Dec.{eqb}
use lib.Ieee.{of_int, round, mul, add, to_unsigned}
use Rattle.rules.specs.Calendar.{year, midnight}
use Rattle.rules.specs.Floats.{number}
use Rattle.rules.specs.Moments.{Moment, failure, no_zone, counted, clear, set_utc, time_ms, with_time, sum_of, count_ms}
use Rattle.rules.specs.Reading.{settled}
use Rattle.rules.specs.declared.Time.{Time}
use Rattle.rules.specs.declared.Ymd.{Ymd}
use Rattle.calendar.specs.Ranges.{MonthDay, Countable}
use Rattle.moment.specs.Ranges.{sum_takes, TimeRead, Sane}
use Rattle.moment.specs.Sums.{date_meant, time_meant, civil_instant, summed_to}
use Rattle.moment.proofs.Branches.{branch_false, either, by_test}
use Rattle.moment.proofs.Bounds.{midnight_in}
use Rattle.moment.proofs.Steps.{taken, summed, unsummed}

-- ---- what is meant
-- its ranges, where it is summed
date_in : (p : Moment) → Sane p → MonthDay (date_meant p).month (date_meant p).day
date_in p s = either (λ (d : Ymd). MonthDay d.month d.day) p.dated _ _ s.date (omega arith)

time_in : (p : Moment) → Sane p → TimeRead (time_meant p)
time_in p s =
    by_test TimeRead p.timed _ _ (λ h. record { hours = s.time.hours; minutes = s.time.minutes; seconds = λ _. s.time.seconds h; zone_low = s.time.zone_low; zone_high = s.time.zone_high })
    (λ _. midnight_in)

pub date_asked : (p : Moment) (d : Ymd) → d ≡ date_meant p → Sane p → sum_takes d.year p.raw ≡ true → Countable d.year d.month d.day
date_asked p d e s h = taken _ _ _ p.raw (subst (λ (x : Ymd). MonthDay x.month x.day) (sym e) (date_in p s)) h

pub time_asked : (p : Moment) (t : Time) → t ≡ time_meant p → Sane p → TimeRead t
time_asked p t e s = subst TimeRead (sym e) (time_in p s)

-- ---- the milliseconds
pub sums_zoneless : (p : Moment) (n zone : ℕ) → zone ≡ no_zone → counted p n ≡ summed_to p n zone
sums_zoneless p n zone z = rw (eq-eqb zone no_zone z)

pub sums_zoned : (p : Moment) (n zone : ℕ) → (zone ≡ no_zone → ⊥) → set_utc (clear (counted p n)) ≡ summed_to p n zone
sums_zoned p n zone z = rw (ne_eqb zone no_zone z)

abbrev sum_at : Moment → Ymd → Moment
sum_at p d = sum_of p d.year d.month d.day

count_meant : (p : Moment) → p.counted ≡ false → count_ms p ≡ sum_at p (date_meant p)
unfolding count_ms
count_meant p h = branch_false p.counted p _ h ∙ go p.dated
  where
    go : (b : Bool) → (if b then sum_of p p.year p.month p.day else sum_of p (year 2000) 1 1) ≡ sum_at p (if b then record { year = p.year; month = p.month; day = p.day } else record { year = year 2000; month = 1; day = 1 })
    go true = refl
    go false = refl

-- a time of day in a zone, after the instant n
abbrev summed_at : Moment → ℕ → Time → Moment
summed_at p n t = summed_to p (n + time_ms t.hour t.minute t.second + no_zone * 60000 - t.zone * 60000) t.zone

no_time_ms : time_ms 0 0 (number 0) ≡ 0
unfolding of_int round mul add to_unsigned
no_time_ms = refl

-- equal where the test holds, and the same where not
same_else : (b : Bool) {x y : Moment} (z : Moment) → (b ≡ true → x ≡ y) → (if b then x else z) ≡ (if b then y else z)
same_else true z h = h refl
same_else false z h = refl

with_meant : (p : Moment) (n : ℕ) → with_time (counted p n) ≡ summed_at p n (time_meant p)
unfolding with_time
with_meant p n = go p.timed
  where
    here : ℕ
    here = n + time_ms p.hour p.minute p.second

    there : Moment
    there = set_utc (clear (counted p (here + no_zone * 60000 - p.zone * 60000)))

    zoneless_ms : (a z : ℕ) → eqb z no_zone ≡ true → a ≡ a + no_zone * 60000 - z * 60000
    zoneless_ms a z h = let e = eqb-true z no_zone h in rw e (omega arith)

    go : (b : Bool) → (if b then (if eqb p.zone no_zone then counted p here else there) else counted p n) ≡ summed_at p n (if b then record { hour = p.hour; minute = p.minute; second = p.second; zone = p.zone; utc = false } else record { hour = 0; minute = 0; second = number 0; zone = no_zone; utc = false })
    go true = same_else (eqb p.zone no_zone) there (λ h. ap (counted p) (zoneless_ms here p.zone h))
    go false = ap (counted p) (omega (arith, no_time_ms))

pub count_sums : (p : Moment) (d : Ymd) (t : Time) (n : ℕ) → d ≡ date_meant p → t ≡ time_meant p → n ≡ civil_instant d.year d.month d.day t.hour t.minute t.second t.zone → p.counted ≡ false → sum_takes d.year p.raw ≡ true → summed_to p n t.zone ≡ count_ms p
count_sums p d t n e f g c h =
    let m = midnight d.year d.month d.day in
    ap (λ (k : ℕ). summed_to p k t.zone) g ∙ ap (summed_at p m) f ∙ sym (count_meant p c ∙ ap (sum_at p) (sym e) ∙ summed p _ _ _ h ∙ with_meant p m)

pub count_fails : (p : Moment) (d : Ymd) → d ≡ date_meant p → p.counted ≡ false → sum_takes d.year p.raw ≡ false → failure ≡ count_ms p
count_fails p d e c h = sym (count_meant p c ∙ ap (sum_at p) (sym e) ∙ unsummed p _ _ _ h)

-- ---- a zone is taken off at once
pub settled_not : (p : Moment) → p.zone ≡ no_zone → p ≡ settled p
settled_not p z = rw (eq-eqb p.zone no_zone z)
