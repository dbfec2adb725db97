-- The ranges of the fields, through each step of the rules. Assumes nothing.
use mathlib.Core.Bool.{Bool, true, false, ◌&&◌}
use Rattle.std.specs.Prelude.{if◌then◌else◌}
use mathlib.Core.List.{List, [], ◌∷◌}
use mathlib.Core.Path.{◌≡◌, refl, sym, ap, ◌∙◌, subst}
use Prim.Native.Nat.{ℕ, ◌+◌, ◌-◌, ◌*◌, ◌/◌, ◌%◌, ◌^◌, ◌≤◌, ◌<◌}
use native.Mathlib.Omega.{arith}
use borrow.Author.Tests.{leb-true}
use lib.Dec.{eqb, leb, ltb}
use lib.Ieee.{Float, of_int, round, le}
use Rattle.rules.specs.Calendar.{year, instant, last, in_range, midnight, civil}
use Rattle.rules.specs.Floats.{number, ◌⊘◌}
use Rattle.rules.specs.Functions.{renewed}
use Rattle.rules.specs.Moments.{Moment, blank, failure, no_zone, counted, clear, set_date, set_dated, set_time, set_timed, set_zone, set_raw, set_counted, set_over, time_ms, with_time, sum_of, count_ms, fill_date, on_time, fill_time, fill}
use Rattle.calendar.specs.Ranges.{MonthDay, Countable, InRange}
use Rattle.calendar.proofs.Counting.{countable}
use Rattle.calendar.proofs.Instants.{start_is, date_of_lem, time_high}
use Rattle.calendar.proofs.Years.{days_high}
use Rattle.real.specs.InMinute.{in_minute}
use Rattle.real.proofs.Tests.{and_right}
use Rattle.real.proofs.Seconds.{minute_ms, filled_minute}
use Rattle.real.specs.StepMost.{step_most}
use Rattle.moment.specs.Ranges.{sum_takes, TimeIn, Sane, ReadYear, Near, After, most_before, Ranged, Full}
use Rattle.moment.specs.Steps.{first_of_month, first_of_year}
use Rattle.moment.proofs.Branches.{never, either, by_test}
use Rattle.moment.proofs.Steps.{taken, already, in_range_lem, count_cases, date_cases, time_cases}

-- ---- how far from the millisecond 0

pub near_more : (m n t : ℕ) → m ≤ n → Near m t → Near n t
near_more m n t h k = omega arith

-- "With 16 modifiers the milliseconds stay within 64 bits": before the last there is room for one more step either way.
pub near_room : (t k : ℕ) → Near most_before t → k ≤ step_most → (k < t) × (t + k < 2 ^ 64)
near_room t k h l = omega arith

pub after_more : (m n : ℕ) (p : Moment) → m ≤ n → After m p → After n p
after_more m n p h a = record { sane = a.sane; years = a.years; near = near_more m n p.ms h a.near }

-- ---- a step from p to q that goes no further
abbrev pub Kept : Moment → Moment → Type 0
Kept p q = (n : ℕ) → After n p → After n q

abbrev Years : Moment → Type 0
Years p = p.dated ≡ true → ReadYear p.year

-- field by field: what stays is λ s. s
kept : (p q : Moment) → (Sane p → Sane q) → (Years p → Years q) → ((n : ℕ) → Near n p.ms → Near n q.ms) → Kept p q
kept p q s y t n a = record { sane = s a.sane; years = y a.years; near = t n a.near }

kept_same : (p : Moment) → Kept p p
kept_same p n a = a

kept_then : (p q r : Moment) → Kept p q → Kept q r → Kept p r
kept_then p q r k l n a = l n (k n a)

-- a record anew
kept_new : (p q : Moment) → (Sane p → After 0 q) → Kept p q
kept_new p q h n a = after_more 0 n q (omega arith) (h a.sane)

-- ---- setters
no_date : {A : Type 0} → false ≡ true → A
no_date h = never (sym h)

no_time : {second : Float} → TimeIn 0 0 false second no_zone
no_time = record { hours = omega arith; minutes = omega arith; seconds = no_date; zone_low = omega arith; zone_high = omega arith }

pub after_blank : After 0 blank
after_blank = record { sane = record { date = omega arith; time = no_time; overs = omega arith }; years = no_date; near = omega arith }

after_failure : After 0 failure
after_failure = record { sane = after_blank.sane; years = no_date; near = omega arith }

clear_sane : (p : Moment) → Sane p → Sane (clear p)
clear_sane p s = record { date = s.date; time = record { hours = s.time.hours; minutes = s.time.minutes; seconds = no_date; zone_low = omega arith; zone_high = omega arith }; overs = s.overs }

pub date_kept : (p : Moment) (y m d : ℕ) → ReadYear y → MonthDay m d → Kept p (set_dated (set_date p y m d) true)
date_kept p y m d r k = kept p (set_dated (set_date p y m d) true) (λ s. record { date = k; time = s.time; overs = s.overs }) (λ _ _. r) (λ n t. t)

pub undated_kept : (p : Moment) → Kept p (set_dated p false)
undated_kept p = kept p (set_dated p false) (λ s. s) (λ _. no_date) (λ n t. t)

-- ---- milliseconds from fields
read_year : (y m d : ℕ) → Countable y m d → ReadYear y
read_year y m d c = omega arith

midnight_low : (y m d : ℕ) → 9223372008558775808 ≤ midnight y m d
unfolding midnight
midnight_low y m d = omega (arith, start_is)

midnight_high : (y m d : ℕ) → Countable y m d → midnight y m d + 86399999 ≤ last
unfolding midnight
midnight_high y m d c = omega (arith, start_is, days_high y m d c)

-- a time of day, hour 24 too, is less than 25 hours
time_most : (h m : ℕ) (s : Float) → h ≤ 24 → m ≤ 59 → in_minute s ≡ true → time_ms h m s < 90000000
time_most h m s a b c = omega (arith, minute_ms s c)

-- a sum of fields lies near the millisecond 0, and only a year that was in range still stands
sum_after : (p : Moment) (y m d : ℕ) → Sane p → MonthDay m d → (p.dated ≡ true → p.year ≡ y) → After 0 (sum_of p y m d)
unfolding sum_of with_time
sum_after p y m d s k e = by_test (λ (q : Moment). After 0 q) (sum_takes y p.raw) (with_time (counted p (midnight y m d))) failure inside (λ _. after_failure)
  where
    zoned : (z a t : ℕ) → 541 ≤ z → z ≤ 2339 → 9223372008558775808 ≤ a → a + 86399999 ≤ last → t < 90000000 → Near 0 (a + t + no_zone * 60000 - z * 60000)
    zoned z a t zl zh al ah th = omega arith

    inside : sum_takes y p.raw ≡ true → After 0 (with_time (counted p (midnight y m d)))
    inside t =
        let c = taken y m d p.raw k t in
        let top = midnight_high y m d c in
        let bottom = midnight_low y m d in
        let ys : Years p = λ h. subst (λ (z : ℕ). ReadYear z) (sym (e h)) (read_year y m d c) in
        by_test (λ (q : Moment). After 0 q) p.timed _ (counted p (midnight y m d))
        (λ h.
        let day = time_most p.hour p.minute p.second s.time.hours s.time.minutes (s.time.seconds h) in
        either (λ (q : Moment). After 0 q) (eqb p.zone no_zone) _ _ (record { sane = s; years = ys; near = omega arith })
        (record { sane = clear_sane p s; years = no_date; near = zoned p.zone _ _ s.time.zone_low s.time.zone_high bottom top day }))
        (λ _. record { sane = s; years = ys; near = omega arith })

-- of a record whose milliseconds do not stand
fresh : (p : Moment) → Sane p → After 0 (if p.dated then sum_of p p.year p.month p.day else sum_of p (year 2000) 1 1)
fresh p s = by_test (λ (q : Moment). After 0 q) p.dated _ _ (λ _. sum_after p p.year p.month p.day s s.date (λ _. refl)) (λ h. sum_after p (year 2000) 1 1 s (omega arith) (λ k. never (sym k ∙ h)))

pub count_fresh : (p : Moment) → Sane p → p.counted ≡ false → After 0 (count_ms p)
unfolding count_ms
count_fresh p s c = by_test (λ (q : Moment). After 0 q) p.counted p _ (λ h. never (sym h ∙ c)) (λ _. fresh p s)

pub count_kept : (p : Moment) → Kept p (count_ms p)
unfolding count_ms
count_kept p = either (λ (q : Moment). Kept p q) p.counted p _ (kept_same p) (kept_new p _ (fresh p))

-- ---- fields from milliseconds
civil_countable : (t : ℕ) → in_range t ≡ true → Countable (civil t).year (civil t).month (civil t).day
civil_countable t h = countable _ _ _ _ (date_of_lem t (leb-true t last (and_right (leb (instant 0) t) _ h)))

pub fill_date_kept : (p : Moment) → Kept p (fill_date p)
fill_date_kept p =
    date_cases (λ (q : Moment). Kept p q) p (λ _. kept_same p) (λ h. let c = civil_countable p.ms h in date_kept p _ _ _ (read_year _ _ _ c) c.fields) (λ _ _. kept_new p failure (λ _. after_failure)) (λ _. date_kept p (year 2000) 1 1 (omega arith) (omega arith))

-- t milliseconds after midnight
pub time_of : {h m zone : ℕ} {b : Bool} {x : Float} (t : ℕ) → t < 86400000 → TimeIn h m b x zone → TimeIn (t / 3600000) (t / 60000 % 60) true (number (t % 60000) ⊘ number 1000) zone
time_of t h i = record { hours = omega arith; minutes = omega arith; seconds = λ _. filled_minute (t % 60000) (omega arith); zone_low = i.zone_low; zone_high = i.zone_high }

time_kept : (p : Moment) (t : ℕ) → t < 86400000 → Kept p (on_time p t)
time_kept p t h = kept p (on_time p t) (λ s. record { date = s.date; time = time_of t h s.time; overs = s.overs }) (λ y. y) (λ n a. a)

pub fill_time_kept : (p : Moment) → Kept p (fill_time p)
fill_time_kept p = time_cases (λ (q : Moment). Kept p q) p (λ _. kept_same p) (kept_then p (count_ms p) _ (count_kept p) (time_kept (count_ms p) _ (time_high (count_ms p).ms)))

-- ---- the modifiers
-- what `day_start` makes of a date
abbrev pub at_start : Moment → Moment
at_start p = set_over (set_zone (set_counted (set_raw (set_timed (set_time p 0 0 (number 0)) true) false) false) no_zone) 0

pub no_seconds : in_minute (number 0) ≡ true
unfolding of_int round le
no_seconds = refl

pub midnight_in : TimeIn 0 0 true (number 0) no_zone
midnight_in = record { hours = omega arith; minutes = omega arith; seconds = λ _. no_seconds; zone_low = omega arith; zone_high = omega arith }

pub start_kept : (p : Moment) → Kept p (at_start p)
start_kept p = kept p (at_start p) (λ s. record { date = s.date; time = midnight_in; overs = omega arith }) (λ y. y) (λ n t. t)

pub month_kept : (p : Moment) → Kept p (first_of_month p)
month_kept p = kept p (first_of_month p) (λ s. record { date = record { month_low = s.date.month_low; month_high = s.date.month_high; day_low = omega arith; day_high = omega arith }; time = s.time; overs = s.overs }) (λ y. y) (λ n t. t)

pub year_kept : (p : Moment) → Kept p (first_of_year p)
year_kept p = kept p (first_of_year p) (λ s. record { date = omega arith; time = s.time; overs = s.overs }) (λ y. y) (λ n t. t)

-- before it the year lies in range
pub fill_year : (n : ℕ) (p : Moment) → After n p → ReadYear (fill p).year
unfolding fill
fill_year n p a = time_cases (λ (q : Moment). ReadYear q.year) (fill_date p) (λ _. date) (count_cases (λ (q : Moment). ReadYear q.year) (fill_date p) (λ _. date) (omega arith) (λ _. date) (λ _. date))
  where
    date : ReadYear (fill_date p).year
    date = date_cases (λ (q : Moment). ReadYear q.year) p (λ h. a.years h) (λ h. read_year _ _ _ (civil_countable p.ms h)) (λ _ _. omega arith) (λ _. omega arith)

-- ---- a record in range, filled: all that is written of it stands
fill_timed : (p : Moment) → (fill p).timed ≡ true
unfolding fill
fill_timed p = time_cases (λ (q : Moment). q.timed ≡ true) (fill_date p) (λ h. h) refl

fill_ms : (p : Moment) → p.counted ≡ true → in_range p.ms ≡ true → (fill p).ms ≡ p.ms
unfolding fill
fill_ms p c r = time_cases (λ (q : Moment). q.ms ≡ p.ms) (fill_date p) (λ _. date.0) (ap (λ (q : Moment). q.ms) (already (fill_date p) date.1) ∙ date.0)
  where
    date : ((fill_date p).ms ≡ p.ms) × ((fill_date p).counted ≡ true)
    date = date_cases (λ (q : Moment). (q.ms ≡ p.ms) × (q.counted ≡ true)) p (λ _. (refl, c)) (λ _. (refl, c)) (λ _ h. never (sym r ∙ h)) (λ h. never (sym c ∙ h))

pub fill_full : (n : ℕ) (p : Moment) → After n p → Ranged p → Full (fill p)
unfolding fill
fill_full n p a r =
    let i = in_range_lem p.ms r.ranged.from r.ranged.to in
    record {
      sane = (kept_then p (fill_date p) (fill p) (fill_date_kept p) (fill_time_kept (fill_date p)) n a).sane;
      years = fill_year n p a;
      timed = fill_timed p;
      ranged = subst (λ (t : ℕ). InRange t) (sym (fill_ms p r.stands i)) r.ranged;
    }

pub renewed_full : (n : ℕ) (m : List ℕ) (p : Moment) → After n p → Ranged p → Full (renewed m p)
unfolding renewed
renewed_full n (b ∷ m) p a r = fill_full n p a r
renewed_full n [] p a r = either (λ (q : Moment). Full (fill q)) (p.dated && ltb 28 p.day) (set_dated p false) p (fill_full n (set_dated p false) (undated_kept p n a) (record { ranged = r.ranged; stands = r.stands })) (fill_full n p a r)
