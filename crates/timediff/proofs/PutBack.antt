-- What timediff gives, put back: as the date form of a modifier, rules' `by_date`, it takes B to A. Assumes nothing.
use mathlib.Core.Path.{◌≡◌, refl, sym, ◌∙◌, ap}
use mathlib.Core.Bool.{Bool, true, false, not}
use Prim.Native.Nat.{ℕ, zero, suc, ◌+◌, ◌-◌, ◌*◌, ◌/◌, ◌%◌, ◌≤◌, ◌<◌}
use native.Mathlib.Omega.{arith}
use borrow.Author.Tests.{le-leb, eq-eqb}
use Rattle.rules.specs.Basics.{move}
use Rattle.rules.specs.Calendar.{year, minus_year, Exists, day_length, month_length, midnight}
use Rattle.rules.specs.Moments.{Moment, no_zone, counted, set_counted, set_date, set_over, clear, time_ms, with_time, sum_of, count_ms, fill_date, fill_time, fill, past_end, shift}
use Rattle.rules.specs.Moments as moment
use Rattle.rules.specs.Modifiers.{signed, by_date}
use Rattle.rules.specs.Writing.{in_month}
use Rattle.rules.specs.declared.Ymd.{Ymd}
use Rattle.calendar.specs.Ranges.{InRange}
use Rattle.calendar.proofs.Instants.{date_again, time_again}
use Rattle.timediff.specs.Promise.{StandsFor, Counts, put_back}
use Rattle.timediff.specs.Spans.{moved, Toward, month_at, shifted, between, months_of, rest_of}
use Rattle.timediff.proofs.Shifts.{years}
use Rattle.timediff.proofs.Numbers as numbers

-- Fields that stand are not filled. So they stand for an instant where they were written in full: an existing day, a time of that day, no zone.
pub as_filled : (b : ℕ) (p : Moment) → StandsFor b p → StandsFor b (fill p)
unfolding fill fill_date fill_time
as_filled b p h = let e : fill p ≡ p = rw (h.is_dated, h.is_timed) in rw e h

pub in_full : (p : Moment) → Exists p.year p.month p.day → minus_year 4713 ≤ p.year → p.year ≤ year 9999 → time_ms p.hour p.minute p.second < day_length → p.dated ≡ true → p.timed ≡ true → p.zone ≡ no_zone → p.raw ≡ false → p.failed ≡ false → StandsFor (midnight p.year p.month p.day + time_ms p.hour p.minute p.second) p
in_full p D low high u d t z r f =
    let c = sym (date_again p.year p.month p.day (time_ms p.hour p.minute p.second) D low high u) in
    record { year_is = ap (λ (c : Ymd). c.year) c; month_is = ap (λ (c : Ymd). c.month) c; day_is = ap (λ (c : Ymd). c.day) c; time_is = sym (time_again p.year p.month p.day (time_ms p.hour p.minute p.second) u); is_dated = d; is_timed = t; has_no_zone = z; not_raw = r; not_failed = f }

-- a number of steps by a modifier's sign
steps : (plus : Bool) (x n : ℕ) → move x (signed (not plus) n) 1 ≡ moved plus x n
steps true x n = omega arith
steps false x zero = omega arith
steps false x (suc n) = omega arith

-- the sum of fields that stand
summed : (p : Moment) → p.counted ≡ false → p.dated ≡ true → p.timed ≡ true → p.zone ≡ no_zone → p.raw ≡ false → minus_year 4713 ≤ p.year → p.year ≤ year 9999 → count_ms p ≡ counted p (midnight p.year p.month p.day + time_ms p.hour p.minute p.second)
unfolding count_ms sum_of with_time
summed p c d t z r low high = rw (c, d, le-leb (minus_year 4713) p.year low, le-leb p.year (year 9999) high, r, t, eq-eqb p.zone no_zone z)

-- fields in another calendar month, and their sum
in_other : Moment → ℕ → Moment
in_other f k = set_over (set_date (set_counted f false) (k / 12) (k % 12 + 1) f.day) (f.day - month_length (k / 12) (k % 12 + 1))

counts_as : {t : ℕ} {p q : Moment} → p ≡ q → Counts t q → Counts t p
counts_as e h = rw e h

module _ (plus : Bool) (b n : ℕ) (p : Moment) (h : StandsFor b (fill p)) where
  month_moved : (y m : ℕ) → y * 12 + m ≡ n → move ((fill p).year * 12 + ((fill p).month - 1)) (signed (not plus) (y * 12 + m)) 1 ≡ moved plus (month_at b) n
  unfolding month_at
  month_moved y m e = steps plus ((fill p).year * 12 + ((fill p).month - 1)) (y * 12 + m) ∙ rw (h.year_is, h.month_is, e)

  sum_is : midnight (moved plus (month_at b) n / 12) (moved plus (month_at b) n % 12 + 1) (fill p).day + time_ms (fill p).hour (fill p).minute (fill p).second ≡ shifted plus b n
  unfolding shifted in_month
  sum_is = rw (h.day_is, h.time_is)

  -- The date form moves B by n months and then by the rest, wherever the month that it leads to is one of -4713 to 9999.
  pub moves : (y m d t : ℕ) → y * 12 + m ≡ n → minus_year 4713 ≤ moved plus (month_at b) n / 12 → moved plus (month_at b) n / 12 ≤ year 9999 → Counts (moved plus (shifted plus b n) (d * day_length + t)) (by_date (not plus) y m d t p)
  unfolding by_date past_end shift in_other
  moves y m d t e low high =
      let f = fill p in
      let k = moved plus (month_at b) n in
      let by = signed (not plus) (d * day_length + t) in
      let q : past_end (shift (set_counted f false) (signed (not plus) (y * 12 + m)) 1) ≡ in_other f k = ap (in_other f) (month_moved y m e) in
      let s = ap count_ms q ∙ summed (in_other f k) refl h.is_dated h.is_timed h.has_no_zone h.not_raw low high in
      counts_as (ap (λ (q : Moment). clear (moment.moved q by 1)) s) (record { ms_is = steps plus _ _ ∙ ap (λ (x : ℕ). moved plus x (d * day_length + t)) sum_is; is_counted = refl; not_dated = refl; not_timed = refl; has_no_zone = refl; not_raw = h.not_raw; not_failed = h.not_failed })

-- ---- timediff's answer as a modifier

module _ (plus : Bool) (a b : ℕ) (A : InRange a) (B : InRange b) (w : Toward plus a b) (p : Moment) (h : StandsFor b (fill p)) where
  -- up to the months between, the modifier makes every shift; with no rest it is the month shift alone
  pub shifts : (n rest : ℕ) → n ≤ between plus a b → Counts (moved plus (shifted plus b n) rest) (put_back plus n rest p)
  shifts n rest l =
      let y = years plus a b A B w n l in
      let e : rest / day_length * day_length + rest % day_length ≡ rest = omega arith in
      rw e at (moves plus b n p h (n / 12) (n % 12) (rest / day_length) (rest % day_length) (omega arith) y.0 y.1)

  pub by_months_lem : (n : ℕ) → n ≤ between plus a b → (put_back plus n 0 p).ms ≡ shifted plus b n
  by_months_lem n l = (shifts n 0 l).ms_is ∙ go plus _
    where
      go : (q : Bool) (x : ℕ) → moved q x 0 ≡ x
      go true x = omega arith
      go false x = omega arith

  -- put back as B's modifier, the months and the rest reach A to the millisecond
  pub arrives : Counts a (put_back plus (months_of plus a b) (rest_of plus a b) p)
  arrives = rw (numbers.arrives plus a b A B w) at (shifts (months_of plus a b) (rest_of plus a b) (numbers.up_to plus a b))
