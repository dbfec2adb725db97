-- A record that stands for an instant is counted to it, and filled to its date and time of day. Assumes nothing.
use Prim.Native.Nat.{ℕ, ◌+◌, ◌*◌, ◌/◌, ◌%◌, ◌≤◌, ◌<◌}
use Rattle.std.specs.Prelude.{if◌then◌else◌}
use mathlib.Core.Bool.{Bool, true, false, not, true≢false}
use mathlib.Core.Path.{◌≡◌, refl, sym, ap, ◌∙◌, subst}
use native.Mathlib.Omega.{arith}
use lib.Ieee.{Float, of_int, round, mul, add, to_unsigned}
use Rattle.rules.specs.Calendar.{year, minus_year, day_length, midnight, civil, time_of_day, in_range}
use Rattle.rules.specs.Floats.{number, ◌⊘◌}
use Rattle.rules.specs.Moments.{Moment, no_zone, counted, set_ms, set_counted, time_ms, count_ms, on_date, on_time, fill_date, fill_time, fill}
use Rattle.rules.specs.declared.Ymd.{Ymd}
use Rattle.rules.specs.declared.Time.{Time}
use Rattle.calendar.specs.Ranges.{InRange}
use Rattle.calendar.proofs.Instants.{there_and_back, date_of_lem, from_start, time_high}
use Rattle.moment.specs.Ranges.{sum_takes}
use Rattle.moment.specs.Sums.{date_meant, time_meant}
use Rattle.moment.proofs.Steps.{already, in_time, in_range_lem, date_stands, date_unknown, date_filled, time_stands, time_filled}
use Rattle.moment.proofs.Sums.{count_sums, sums_zoneless}
use Rattle.real.proofs.Seconds.{filled_ms}
use Rattle.law_putback.proofs.Seconds.{Prints, as_filled}
use Rattle.timediff.specs.Promise.{StandsFor, Counts}
use Rattle.law_page.specs.Stands.{ymd, ClockIs, Stands}

pub never : {A : Type 0} → true ≡ false → A
never h = absurd (true≢false h)

pub stands_as : {t : ℕ} {p q : Moment} → p ≡ q → Stands t q → Stands t p
stands_as e h = rw e h

pub stands_at : {t u : ℕ} {p : Moment} → t ≡ u → Stands u p → Stands t p
stands_at e h = rw e h

pub no_ms : time_ms 0 0 (number 0) ≡ 0
unfolding of_int round mul add to_unsigned
no_ms = refl

-- ---- counted
module _ {t : ℕ} {p : Moment} (S : Stands t p) where
  date_meant_lem : p.counted ≡ false → civil t ≡ date_meant p
  date_meant_lem c = go p.dated refl
    where
      go : (b : Bool) → p.dated ≡ b → civil t ≡ (if b then ymd p.year p.month p.day else ymd (year 2000) 1 1)
      go true e = S.date_is e
      go false e = S.no_date e c

  abbrev time_of : Bool → Time
  time_of b = if b then record { hour = p.hour; minute = p.minute; second = p.second; zone = p.zone; utc = false } else record { hour = 0; minute = 0; second = number 0; zone = no_zone; utc = false }

  time_meant_lem : p.counted ≡ false → time_ms (time_meant p).hour (time_meant p).minute (time_meant p).second ≡ time_of_day t
  time_meant_lem c = go p.timed refl
    where
      go : (b : Bool) → p.timed ≡ b → time_ms (time_of b).hour (time_of b).minute (time_of b).second ≡ time_of_day t
      go true e = S.time_is e
      go false e = no_ms ∙ sym (S.no_time e c)

  zone_meant : (time_meant p).zone ≡ no_zone
  zone_meant = go p.timed
    where
      go : (b : Bool) → (time_of b).zone ≡ no_zone
      go true = S.has_no_zone
      go false = refl

  -- a number as it was given is counted
  pub not_raw : p.counted ≡ false → p.raw ≡ false
  not_raw c = go p.raw refl
    where
      go : (b : Bool) → p.raw ≡ b → b ≡ false
      go false e = refl
      go true e = never (sym (S.number e).0 ∙ c)

  pub timed_not_raw : p.timed ≡ true → p.raw ≡ false
  timed_not_raw c = go p.raw refl
    where
      go : (b : Bool) → p.raw ≡ b → b ≡ false
      go false e = refl
      go true e = never (sym c ∙ (S.number e).1)

  pub count : count_ms p ≡ counted p t
  count = go p.counted refl
    where
      go : (b : Bool) → p.counted ≡ b → count_ms p ≡ counted p t
      go true c = already p c ∙ ap (set_counted p) c ∙ ap (λ (n : ℕ). set_counted (set_ms p n) true) (S.ms_is c)
      go false c =
          let (l, h) = S.fields c in
          let D = date_of_lem t h in
          let d = date_meant_lem c in
          let e = subst (λ (d : Ymd). midnight d.year d.month d.day + time_of_day t ≡ t) d (there_and_back t l h) in
          let low = subst (λ (d : Ymd). minus_year 4713 ≤ d.year) d D.low in
          let high = subst (λ (d : Ymd). d.year ≤ year 9999) d D.high in
          let takes : sum_takes (date_meant p).year p.raw ≡ true = sym (in_time (date_meant p).year p.raw low high) ∙ ap not (not_raw c) in
          sym (sums_zoneless p t (time_meant p).zone zone_meant ∙ count_sums p (date_meant p) (time_meant p) t refl refl (omega (arith, e, time_meant_lem c, zone_meant)) c takes)

-- ---- filled
-- a time of day, as it is filled in
filled_time : (u : ℕ) → u < day_length → time_ms (u / 3600000) (u / 60000 % 60) (number (u % 60000) ⊘ number 1000) ≡ u
filled_time u h = let m = filled_ms (u % 60000) (omega arith) in let q : u / 60000 / 60 ≡ u / 3600000 = omega arith in omega (arith, m)

filled_clock : (u : ℕ) → ClockIs u (u / 3600000) (u / 60000 % 60) (number (u % 60000) ⊘ number 1000)
filled_clock u =
    let s = u % 60000 / 1000 in
    let k = u % 60000 % 1000 in
    let e : 1000 * s + k ≡ u % 60000 = omega arith in
    let P = as_filled s k (omega arith) (omega arith) in
    let Q : Prints s k (number (u % 60000) ⊘ number 1000) = subst (λ (n : ℕ). Prints s k (number n ⊘ number 1000)) e P in
    record { hour = refl; minute = refl; second = Q.cut_is; thousandths = Q.decimals_are ∙ e }

dated_stands : {t : ℕ} (p : Moment) → Stands t p → (c : Ymd) → civil t ≡ c → Stands t (on_date p c)
dated_stands p S c e = record { ms_is = S.ms_is; date_is = λ _. e; no_date = λ h _. never h; time_is = S.time_is; clock_is = S.clock_is; no_time = S.no_time; fields = S.fields; has_no_zone = S.has_no_zone; number = S.number; something = refl; not_failed = S.not_failed }

timed_stands : {t : ℕ} (p : Moment) → Stands t p → p.dated ≡ true → Stands t (on_time (counted p t) (time_of_day t))
timed_stands {t} p S d = record { ms_is = λ _. refl; date_is = S.date_is; no_date = λ h _. never (sym d ∙ h); time_is = λ _. filled_time (time_of_day t) (time_high t); clock_is = λ _. filled_clock (time_of_day t); no_time = λ h _. never h; fields = λ h. never h; has_no_zone = S.has_no_zone; number = λ h. never (sym h); something = rw d; not_failed = S.not_failed }

-- what is filled: the record stands for t still, its date and its time of day stand, and it is no number as given
pub record Full (t : ℕ) (p : Moment) : Type 0 where
  pub stands : Stands t p
  pub dated : p.dated ≡ true
  pub timed : p.timed ≡ true

pub fill_date_lem : {t : ℕ} (p : Moment) → Stands t p → InRange t → Stands t (fill_date p) × ((fill_date p).dated ≡ true)
fill_date_lem {t} p S R = go p.dated p.counted refl refl
  where
    from : {q : Moment} → fill_date p ≡ q → Stands t q → q.dated ≡ true → Stands t (fill_date p) × ((fill_date p).dated ≡ true)
    from e s d = rw e (s, d)

    go : (b c : Bool) → p.dated ≡ b → p.counted ≡ c → Stands t (fill_date p) × ((fill_date p).dated ≡ true)
    go true c d e = from (date_stands p d) S d
    go false true d e = from (date_filled p d e (ap in_range (S.ms_is e) ∙ in_range_lem t R.from R.to)) (dated_stands p S (civil p.ms) (ap civil (sym (S.ms_is e)))) refl
    go false false d e = from (date_unknown p d e) (dated_stands p S (ymd (year 2000) 1 1) (S.no_date d e)) refl

pub fill_all : {t : ℕ} (p : Moment) → Stands t p → InRange t → Full t (fill p)
unfolding fill
fill_all {t} p S R = let (s, d) = fill_date_lem p S R in go (fill_date p) s d (fill_date p).timed refl
  where
    from : {q r : Moment} → r ≡ q → Full t q → Full t r
    from e h = rw e h

    go : (q : Moment) → Stands t q → q.dated ≡ true → (b : Bool) → q.timed ≡ b → Full t (fill_time q)
    go q s d true h = from (time_stands q h) (record { stands = s; dated = d; timed = h })
    go q s d false h =
        from (time_filled q h ∙ ap (λ (r : Moment). on_time r (time_of_day r.ms)) (count s)) (record { stands = timed_stands q s d; dated = d; timed = refl })

pub clock_as : {u v h m : ℕ} {s : Float} → u ≡ v → ClockIs v h m s → ClockIs u h m s
clock_as e C = rw e C

-- fields that stand are as timediff has them
pub as_fields : {t : ℕ} {p : Moment} → Full t p → StandsFor t p
as_fields {t} {p} F =
    let S = F.stands in
    let d = sym (S.date_is F.dated) in
    record {
      year_is = ap (λ (c : Ymd). c.year) d;
      month_is = ap (λ (c : Ymd). c.month) d;
      day_is = ap (λ (c : Ymd). c.day) d;
      time_is = S.time_is F.timed;
      is_dated = F.dated;
      is_timed = F.timed;
      has_no_zone = S.has_no_zone;
      not_raw = timed_not_raw S F.timed;
      not_failed = S.not_failed;
    }

-- the milliseconds forgotten: they are counted again from the fields
pub again : {t : ℕ} {p : Moment} → Full t p → InRange t → Stands t (set_counted p false)
again {t} {p} F R =
    let S = F.stands in
    record { ms_is = λ h. never (sym h); date_is = S.date_is; no_date = λ h _. never (sym F.dated ∙ h); time_is = S.time_is; clock_is = S.clock_is; no_time = λ h _. never (sym F.timed ∙ h); fields = λ _. (from_start t R.from, R.to); has_no_zone = S.has_no_zone; number = λ h. never (sym h ∙ timed_not_raw S F.timed); something = rw F.dated; not_failed = S.not_failed }

-- only milliseconds stand
pub only_ms : {t : ℕ} {p : Moment} → Counts t p → Stands t p
only_ms {t} {p} C =
    record {
      ms_is = λ _. C.ms_is;
      date_is = λ h. never (sym h ∙ C.not_dated);
      no_date = λ _ h. never (sym C.is_counted ∙ h);
      time_is = λ h. never (sym h ∙ C.not_timed);
      clock_is = λ h. never (sym h ∙ C.not_timed);
      no_time = λ _ h. never (sym C.is_counted ∙ h);
      fields = λ h. never (sym C.is_counted ∙ h);
      has_no_zone = C.has_no_zone;
      number = λ h. never (sym h ∙ C.not_raw);
      something = rw (C.not_dated, C.not_timed, C.is_counted);
      not_failed = C.not_failed;
    }
