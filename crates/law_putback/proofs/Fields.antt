-- What a record shows: filled from its milliseconds, or with fields as they were read. Assumes nothing.
use Prim.Native.Nat.{ℕ, ◌+◌, ◌*◌, ◌/◌, ◌%◌, ◌≤◌}
use mathlib.Core.Bool.{Bool, true, false}
use mathlib.Core.Path.{◌≡◌, refl, sym, ap, ◌∙◌, subst}
use mathlib.Core.List.{[]}
use native.Mathlib.Decide.{dec_le}
use native.Mathlib.Omega.{arith}
use Rattle.rules.specs.Calendar.{in_range, time_of_day, civil}
use Rattle.rules.specs.Floats.{number, whole, decimals, ◌⊘◌}
use Rattle.rules.specs.Functions.{renewed}
use Rattle.rules.specs.Moments.{Moment, counted, set_dated, count_ms, on_date, on_time, fill_time, fill, past_end, shift}
use Rattle.rules.specs.Modifiers.{by_date}
use Rattle.rules.specs.declared.Ymd.{Ymd}
use Rattle.calendar.specs.Ranges.{InRange}
use Rattle.moment.proofs.Modifiers.{renew_not, renew}
use Rattle.moment.proofs.Steps.{already, in_range_lem, count_cases, date_stands, date_filled, time_stands, time_filled}
use Rattle.reading.proofs.Stamps.{digits_of}
use Rattle.timediff.specs.Promise.{Counts, put_back}
use Rattle.law_putback.specs.Demand.{Instant, at}
use Rattle.law_putback.proofs.Years.{lies_in_range, its_date, its_time}
use Rattle.law_putback.proofs.Given.{fields}
use Rattle.law_putback.proofs.Seconds.{Prints, as_read, as_filled}
use Rattle.law_putback.proofs.Shown.{Shows}

shows_as : {t : ℕ} {p q : Moment} → p ≡ q → Shows t q → Shows t p
shows_as e h = rw e h

-- ---- filled from the milliseconds
-- the seconds of a time of day
filled_second : (t : ℕ) → (whole (number (t % 60000) ⊘ number 1000) ≡ t % 60000 / 1000) × (decimals 3 (number (t % 60000) ⊘ number 1000) ≡ t % 60000)
filled_second t =
    let s = t % 60000 / 1000 in
    let k = t % 60000 % 1000 in
    let e : 1000 * s + k ≡ t % 60000 = omega arith in
    let P = as_filled s k (omega arith) (omega arith) in
    let Q : Prints s k (number (t % 60000) ⊘ number 1000) = subst (λ (n : ℕ). Prints s k (number n ⊘ number 1000)) e P in
    (Q.cut_is, Q.decimals_are ∙ e)

filled : (p : Moment) (t : ℕ) → Counts t p → InRange t → fill p ≡ on_time (on_date p (civil p.ms)) (time_of_day p.ms)
unfolding fill
filled p t c R =
    ap fill_time (date_filled p c.not_dated c.is_counted (ap in_range c.ms_is ∙ in_range_lem t R.from R.to))
    ∙ time_filled (on_date p (civil p.ms)) c.not_timed
    ∙ ap (λ (q : Moment). on_time q (time_of_day q.ms)) (already (on_date p (civil p.ms)) c.is_counted)

pub shows_filled : (p : Moment) (t : ℕ) → Counts t p → p.subsec ≡ false → InRange t → Shows t (fill p)
shows_filled p t c s R =
    let (w, d) = filled_second (time_of_day p.ms) in
    let h : Shows p.ms (on_time (on_date p (civil p.ms)) (time_of_day p.ms)) = record { ms_is = refl; year_is = refl; month_is = refl; day_is = refl; hour_is = refl; minute_is = refl; cut_is = w; decimals_are = d; plain = s } in
    shows_as (filled p t c R) (subst (λ (u : ℕ). Shows u (on_time (on_date p (civil p.ms)) (time_of_day p.ms))) c.ms_is h)

-- ---- the shift leaves `subsec` as it was: not asked for
count_plain : (p : Moment) → p.subsec ≡ false → (count_ms p).subsec ≡ false
count_plain p h = count_cases (λ (q : Moment). q.subsec ≡ false) p (λ _. h) refl (λ _. h) (λ _. h)

pub shift_plain : (plus : Bool) (n rest : ℕ) (p : Moment) → (fill p).subsec ≡ false → (put_back plus n rest p).subsec ≡ false
unfolding by_date past_end shift
shift_plain plus n rest p h = count_plain _ h

-- ---- as it was read
pub stands_filled : (p : Moment) → p.dated ≡ true → p.timed ≡ true → fill p ≡ p
unfolding fill
stands_filled p d t = ap fill_time (date_stands p d) ∙ time_stands p t

module _ (a : Instant) where
  -- the record that it reaches by itself
  abbrev pub reached : Moment
  reached = counted (fields a) (at a)

  pub shows_read : Shows (at a) reached
  shows_read =
      let F = a.full in
      let P = as_read a.stamp.second a.millis F.seconds F.millis a.stamp.fraction (digits_of a.stamp.fraction F.digits) F.few F.value in
      let date = sym (its_date a) in
      record {
        ms_is = refl;
        year_is = ap (λ (d : Ymd). d.year) date;
        month_is = ap (λ (d : Ymd). d.month) date;
        day_is = ap (λ (d : Ymd). d.day) date;
        hour_is = rw (its_time a) (omega (arith, F.hours, F.minutes, F.seconds, F.millis));
        minute_is = rw (its_time a) (omega (arith, F.hours, F.minutes, F.seconds, F.millis));
        cut_is = P.cut_is ∙ rw (its_time a) (omega (arith, F.hours, F.minutes, F.seconds, F.millis));
        decimals_are = P.decimals_are ∙ rw (its_time a) (omega (arith, F.hours, F.minutes, F.seconds, F.millis));
        plain = refl;
      }

  pub shows_itself : Shows (at a) (fill reached)
  shows_itself = shows_as (stands_filled reached refl refl) shows_read

  -- "With no modifier, date, time and datetime renew a day above 28 from the milliseconds": to the same date, since it exists
  renewed_date : fill (set_dated reached false) ≡ on_date (set_dated reached false) (civil (at a))
  unfolding fill
  renewed_date =
      let R = lies_in_range a in
      ap fill_time (date_filled (set_dated reached false) refl refl (in_range_lem (at a) R.from R.to))
      ∙ time_stands (on_date (set_dated reached false) (civil (at a))) refl

  pub shows_renewed : Shows (at a) (renewed [] reached)
  shows_renewed = go (dec_le reached.day 28)
    where
      go : Dec (reached.day ≤ 28) → Shows (at a) (renewed [] reached)
      go (yes l) = shows_as (sym (renew_not reached l)) shows_itself
      go (no l) =
          let S = shows_read in
          shows_as (sym (renew reached (omega (arith, l))) ∙ renewed_date)
          (record { ms_is = refl; year_is = refl; month_is = refl; day_is = refl; hour_is = S.hour_is; minute_is = S.minute_is; cut_is = S.cut_is; decimals_are = S.decimals_are; plain = refl })
