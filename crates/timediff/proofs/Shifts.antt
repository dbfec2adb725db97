-- Where B lies once it is moved: its month's first day, and the milliseconds from there on, which a month shift keeps. Assumes nothing.
use mathlib.Core.Path.{◌≡◌, ap}
use mathlib.Core.Bool.{Bool, true, false}
use Prim.Native.Nat.{ℕ, suc, ◌+◌, ◌-◌, ◌*◌, ◌/◌, ◌≤◌, ◌<◌}
use native.Mathlib.Omega.{arith}
use native.Mathlib.Decide.{dec_lt}
use borrow.Author.Tests.{ltb-true, ltb-false, le-ltb}
use Rattle.std.specs.Int.{abs_diff}
use Rattle.rules.specs.Calendar.{minus_year, year, day_length, start, midnight, day_of, time_of_day, civil}
use Rattle.rules.specs.Writing.{in_month}
use Rattle.calendar.specs.Ranges.{InRange}
use Rattle.calendar.proofs.Counting.{DateOf}
use Rattle.calendar.proofs.Instants.{time_high, from_start, date_of_lem, there_and_back}
use Rattle.calendar.proofs.Months.{len, first, len_low, len_high, of_date, of_length, in_month_lem, first_next, first_rises}
use Rattle.timediff.specs.Promise.{Past}
use Rattle.timediff.specs.Spans.{moved, gap, past, Toward, month_at, shifted, passes, between}

-- ---- the sign's two ways

pub is_past : (plus : Bool) (a x : ℕ) → past plus a x ≡ true → Past plus a x
is_past true a x h = ltb-true _ _ h
is_past false a x h = ltb-true _ _ h

pub is_within : (plus : Bool) (a x : ℕ) → past plus a x ≡ false → Toward plus a x
is_within true a x h = ltb-false _ _ h
is_within false a x h = ltb-false _ _ h

pub not_past : (plus : Bool) (a x : ℕ) → Toward plus a x → past plus a x ≡ false
not_past true a x h = le-ltb _ _ h
not_past false a x h = le-ltb _ _ h

-- the way is known, so the distance is the one that goes that way
pub gap_is : (plus : Bool) (x a : ℕ) → Toward plus a x → abs_diff x a ≡ gap plus x a
gap_is true x a h = omega arith
gap_is false x a h = omega arith

-- ---- instants by their months

-- the milliseconds of its month before an instant
unfoldable pub into : ℕ → ℕ
into t = ((civil t).day - 1) * day_length + time_of_day t

pub in_month_is : (b k : ℕ) → in_month b k ≡ start + first k * day_length + into b
unfolding in_month midnight into
in_month_is b k = omega (arith, in_month_lem k (civil b).day)

module _ (t : ℕ) (h : InRange t) where
  pub date : DateOf (day_of t) (civil t).year (civil t).month (civil t).day
  date = date_of_lem t h.to

  -- an instant lies in its own month
  pub home : in_month t (month_at t) ≡ t
  unfolding month_at in_month midnight
  home =
      let D = date.exists in
      omega (arith, there_and_back t (from_start t h.from) h.to, of_date (civil t).year (civil t).month (civil t).day D.month_low D.month_high, in_month_lem (month_at t) (civil t).day)

  pub into_low : into t < len (month_at t) * day_length
  unfolding into month_at
  into_low =
      let D = date.exists in
      omega (arith, time_high t, of_length (civil t).year (civil t).month D.month_low D.month_high, D.day_low, D.day_high)

  pub into_31 : into t < 31 * day_length
  into_31 = omega (arith, into_low, len_high (month_at t))

  -- its month is one of -4713 to 9999
  pub month_low : minus_year 4713 * 12 ≤ month_at t
  unfolding month_at
  month_low = omega (arith, date.low)

  pub month_high : month_at t ≤ year 9999 * 12 + 11
  unfolding month_at
  month_high = omega (arith, date.high, date.exists.month_high)

-- an instant that is not before another is not in an earlier month
pub month_order : (t u : ℕ) → InRange t → InRange u → t ≤ u → month_at t ≤ month_at u
month_order t u h i l = go (dec_lt (month_at u) (month_at t))
  where
    go : Dec (month_at u < month_at t) → month_at t ≤ month_at u
    go (yes k) = omega (arith, first_rises (month_at u) (month_at t) (month_low u i) k, home t h, home u i, in_month_is t (month_at t), in_month_is u (month_at u), into_low u i)
    go (no k) = omega (arith, k)

-- ---- the shifts from none to the months between

module _ (plus : Bool) (a b : ℕ) (A : InRange a) (B : InRange b) (w : Toward plus a b) where
  -- the months lie the same way as the instants
  pub ordered : Toward plus (month_at a) (month_at b)
  ordered = go plus w
    where
      go : (p : Bool) → Toward p a b → Toward p (month_at a) (month_at b)
      go true l = month_order b a B A l
      go false l = month_order a b A B l

  -- no months: B itself
  pub none : shifted plus b 0 ≡ b
  unfolding shifted
  none = go plus
    where
      go : (p : Bool) → in_month b (moved p (month_at b) 0) ≡ b
      go true = let e : month_at b + 0 ≡ month_at b = omega arith in rw e (home b B)
      go false = let e : month_at b - 0 ≡ month_at b = omega arith in rw e (home b B)

  pub none_stays : passes plus a b 0 ≡ false
  unfolding passes
  none_stays = rw none (not_past plus a b w)

  -- a shift up to them leads to a month from -4713 to 9999
  pub years : (n : ℕ) → n ≤ between plus a b → (minus_year 4713 ≤ moved plus (month_at b) n / 12) × (moved plus (month_at b) n / 12 ≤ year 9999)
  unfolding between
  years n = go plus ordered
    where
      go : (p : Bool) → Toward p (month_at a) (month_at b) → n ≤ gap p (month_at b) (month_at a) → (minus_year 4713 ≤ moved p (month_at b) n / 12) × (moved p (month_at b) n / 12 ≤ year 9999)
      go true o l = omega (arith, month_low b B, month_high a A)
      go false o l = omega (arith, month_low a A, month_high b B)

-- two months before A's month B lies before A, whatever its day; and in the month after A's it lies after A
pub two_before : (a b k : ℕ) → InRange a → InRange b → minus_year 4713 * 12 ≤ k → suc (suc k) ≡ month_at a → in_month b k ≤ a
two_before a b k A B l e = omega (arith, in_month_is b k, home a A, in_month_is a (month_at a), ap first e, first_next k l, first_next (suc k) (omega arith), len_low k, len_low (suc k), into_31 b B)

pub one_after : (a b : ℕ) → InRange a → a ≤ in_month b (suc (month_at a))
one_after a b A = omega (arith, in_month_is b (suc (month_at a)), first_next (month_at a) (month_low a A), home a A, in_month_is a (month_at a), into_low a A)
