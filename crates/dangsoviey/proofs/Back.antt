-- A stamp is read back to its milliseconds, as specs/Back.antt says it. Assumes nothing.
use Prim.Native.Nat.{ℕ, suc, ◌+◌, ◌-◌, ◌*◌, ◌/◌, ◌%◌, ◌^◌, ◌≤◌, ◌<◌}
use mathlib.Core.Bool.{true, false}
use mathlib.Core.List.{[], ◌∷◌, ◌++◌}
use mathlib.Core.Path.{◌≡◌, refl, sym, ap, ◌∙◌, subst}
use native.Mathlib.Decide.{dec_le}
use native.Mathlib.Omega.{arith}
use borrow.Author.Tests.{le-leb, lt-leb, le-ltb}
use lib.Dec.{leb→le}
use lib.IntN.{ℤ, pos, negsuc}
use lib.ListN.{length}
use lib.Signed.{◌≤ℤ◌}
use Rattle.rules.specs.Basics.{ascii, every}
use Rattle.rules.specs.Calendar.{year, unix_epoch, last, in_range, days_to, Exists, day_of, time_of_day, civil}
use Rattle.rules.specs.Calls.{bytes, text, integer, bad_shape, bad_bytes, bad_setting}
use Rattle.rules.specs.Decimal.{value}
use Rattle.rules.specs.Moments.{Moment, blank, counted, set_utc, set_subsec, on_date, on_time, fill_time, fill}
use Rattle.rules.specs.Writing.{places, signed_year, three_decimals, since_epoch, date_text, time_text}
use Rattle.rules.specs.declared.Setting.{Setting}
use Rattle.calendar.specs.Ranges.{InRange}
use Rattle.calendar.proofs.Counting.{DateOf, month_day}
use Rattle.calendar.proofs.Instants.{start_is, time_high, date_of_lem, there_and_back}
use Rattle.calendar.proofs.Years.{in_year, next_year, closed}
use Rattle.real.proofs.Seconds.{filled_thousandths}
use Rattle.digits.proofs.Decimal.{wide_places}
use Rattle.moment.proofs.Steps.{already, in_range_lem, date_filled, time_filled}
use Rattle.reading.specs.Written.{Stamp, written, Full}
use Rattle.law_putback.specs.Demand.{Instant, at}
use Rattle.law_putback.proofs.Demand.{none_bad, none_high}
use Rattle.law_putback.proofs.Given.{given}
use Rattle.law_putback.proofs.Reached.{by_itself}
use Rattle.law_putback.proofs.Texts.{in_written, not_high}
use Rattle.dangsoviey.specs.Milliseconds.{milliseconds, instant_of, stamped, stamp}
use Rattle.dangsoviey.specs.Back.{Back}

-- ---- z and its instant
since : (z : ℤ) → InRange (instant_of z) → since_epoch (instant_of z) ≡ z
since (pos n) r =
    let e : unix_epoch + n * 1 - unix_epoch ≡ n = omega arith in
    rw (le-leb unix_epoch (unix_epoch + n * 1) (omega arith), e)
since (negsuc n) r =
    let e : unix_epoch - suc (unix_epoch - suc n * 1) ≡ n = omega (arith, r.from) in
    rw (lt-leb unix_epoch (unix_epoch - suc n * 1) (omega arith), e)

-- the first millisecond of the year 0, and the last one of 9999
low : (z : ℤ) → negsuc 62167219199999 ≤ℤ z → unix_epoch - 62167219200000 ≤ instant_of z
low (pos n) h = omega arith
low (negsuc n) h = omega (arith, leb→le n 62167219199999 h.le)

top : (z : ℤ) → z ≤ℤ pos 253402300799999 → instant_of z ≤ last
top (pos n) h = omega (arith, leb→le n 253402300799999 h.le)
top (negsuc n) h = omega arith

-- ---- the year is 0 or later: the years up to -1 have 1721387 days
years_before : (y m d : ℕ) → DateOf (days_to y m d) y m d → y < year 0 → days_to y m d < 1721387
unfolding days_to
years_before y m d D h = omega (arith, in_year y m d (month_day y m d D.exists), next_year y D.low, closed y (omega (arith, D.low)))

module _ (t : ℕ) (l : unix_epoch - 62167219200000 ≤ t) (u : t ≤ last) where
  date : DateOf (day_of t) (civil t).year (civil t).month (civil t).day
  date = date_of_lem t u

  days : 1721387 ≤ day_of t
  unfolding day_of
  days = rw start_is (omega arith)

  not_before : year 0 ≤ (civil t).year
  not_before = go (dec_le (year 0) (civil t).year)
    where
      go : Dec (year 0 ≤ (civil t).year) → year 0 ≤ (civil t).year
      go (yes h) = h
      go (no h) =
          let D : DateOf (days_to (civil t).year (civil t).month (civil t).day) (civil t).year (civil t).month (civil t).day = rw date.counted date in
          absurd (omega (arith, years_before _ _ _ D (omega (arith, h)), date.counted, days))

-- ---- its record
-- as it is filled
abbrev shown : ℕ → Moment
shown t = on_time (on_date (set_subsec (set_utc (counted blank t)) true) (civil t)) (time_of_day t)

shows : (z : ℤ) → InRange (instant_of z) → stamped z ≡ shown (instant_of z)
unfolding stamped fill
shows z r =
    let p = set_subsec (set_utc (counted blank (instant_of z))) true in
    ap fill_time (date_filled p refl refl (in_range_lem (instant_of z) r.from r.to))
    ∙ time_filled (on_date p (civil (instant_of z))) refl
    ∙ ap (λ (q : Moment). on_time q (time_of_day q.ms)) (already (on_date p (civil (instant_of z))) refl)

-- what is then written
stamp_text : (z : ℤ) → in_range (instant_of z) ≡ true → text (date_text (stamped z) ++ ascii " " ++ time_text (stamped z)) ≡ stamp z
unfolding stamp
stamp_text z r = rw r

-- ---- the same date and time, written in full
abbrev in_minute : ℕ → ℕ
in_minute t = time_of_day t % 60000

abbrev full_of : ℕ → Stamp
full_of t = record {
  year = (civil t).year - year 0;
  month = (civil t).month;
  day = (civil t).day;
  gap = ascii " ";
  hour = time_of_day t / 3600000;
  minute = time_of_day t / 60000 % 60;
  second = in_minute t / 1000;
  fraction = in_minute t / 10 ^ 2 % 10 ∷ in_minute t / 10 ^ 1 % 10 ∷ in_minute t / 10 ^ 0 % 10 ∷ [];
  blanks = [];
}

long : (t : ℕ) → length (written (full_of t)) ≡ 23
unfolding written places
long t = refl

-- the three lowest decimal digits
three : (n : ℕ) → 1000 * value 0 (n / 10 ^ 2 % 10 ∷ n / 10 ^ 1 % 10 ∷ n / 10 ^ 0 % 10 ∷ []) ≡ n % 1000 * 10 ^ 3
unfolding value
three n = let k : n % 1000 ≡ n / 100 % 10 * 100 + n / 10 % 10 * 10 + n % 10 = omega arith in omega arith

module _ (t : ℕ) (l : unix_epoch - 62167219200000 ≤ t) (u : t ≤ last) where
  year_is : year ((civil t).year - year 0) ≡ (civil t).year
  year_is = omega (arith, not_before t l u)

  full : Full (full_of t) (in_minute t % 1000)
  unfolding every
  full =
      let D = date t l u in
      let h = time_high t in
      let d : (n : ℕ) → n % 10 ≤ 9 = λ n. omega arith in
      record {
        years = omega (arith, D.high);
        exists = subst (λ (y : ℕ). Exists y (civil t).month (civil t).day) (sym year_is) D.exists;
        gaps = refl;
        hours = omega arith;
        minutes = omega arith;
        seconds = omega arith;
        digits = rw (le-leb _ 9 (d (in_minute t / 10 ^ 2)), le-leb _ 9 (d (in_minute t / 10 ^ 1)), le-leb _ 9 (d (in_minute t / 10 ^ 0)));
        few = omega arith;
        millis = omega arith;
        value = three (in_minute t);
        spaces = refl;
      }

  in_full : Instant
  in_full = record { stamp = full_of t; millis = in_minute t % 1000; full = full; short = omega (arith, long t) }

  there : at in_full ≡ t
  unfolding in_full
  there =
      let e : time_of_day t / 3600000 * 3600000 + time_of_day t / 60000 % 60 * 60000 + (1000 * (in_minute t / 1000) + in_minute t % 1000) ≡ time_of_day t = omega arith in
      rw (year_is, e) (there_and_back t (rw start_is (omega arith)) u)

  -- the text is the same
  same : date_text (shown t) ++ ascii " " ++ time_text (shown t) ≡ written (full_of t)
  unfolding date_text time_text signed_year three_decimals written places
  same =
      let D = date t l u in
      let M = month_day _ _ _ D.exists in
      let h = time_high t in
      rw (
        le-leb (year 0) (civil t).year (not_before t l u),
        filled_thousandths (in_minute t) (omega arith),
        wide_places 3 ((civil t).year - year 0) (omega (arith, D.high)),
        wide_places 1 (civil t).month (omega (arith, M.month_high)),
        wide_places 1 (civil t).day (omega (arith, M.day_high)),
        wide_places 1 (time_of_day t / 3600000) (omega arith),
        wide_places 1 (time_of_day t / 60000 % 60) (omega arith),
        wide_places 1 (in_minute t / 1000) (omega arith),
      )

-- ---- what it is read back to
-- of any instant that is written in full, the milliseconds are its own
instant_ms : (set : Setting) → bad_setting set ≡ false → (a : Instant) → milliseconds set (bytes (written a.stamp)) [] ≡ integer (since_epoch (at a))
unfolding milliseconds bad_shape bad_bytes
instant_ms set ok a = rw (le-ltb 255 (length (written a.stamp)) a.short, none_bad, not_high (in_written a.stamp a.millis a.full), none_high, ok, by_itself (given a set))

pub reads_back : Back
unfolding in_full
reads_back set ok z h k =
    let t = instant_of z in
    let l = low z h in
    let u = top z k in
    let r : InRange t = record { from = omega arith; to = u } in
    record {
      stamped = written (full_of t);
      is = sym (stamp_text z (in_range_lem (instant_of z) r.from r.to)) ∙ ap (λ (p : Moment). text (date_text p ++ ascii " " ++ time_text p)) (shows z r) ∙ ap text (same t l u);
      count = long t;
      back = instant_ms set ok (in_full t l u) ∙ ap (λ (n : ℕ). integer (since_epoch n)) (there t l u) ∙ ap integer (since z r);
    }
