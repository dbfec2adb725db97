-- What timediff's numbers promise, for every A and B from the millisecond 0 to the last, A lying the way that the sign says. Assumes nothing.
use mathlib.Core.Path.{◌≡◌}
use mathlib.Core.Bool.{Bool, true, false}
use Prim.Native.Nat.{ℕ, suc, ◌+◌, ◌-◌, ◌*◌, ◌≤◌, ◌<◌}
use native.Mathlib.Omega.{arith}
use native.Mathlib.Decide.{dec_lt}
use Rattle.rules.specs.Calendar.{day_length}
use Rattle.rules.specs.Writing.{in_month}
use Rattle.calendar.specs.Ranges.{InRange}
use Rattle.calendar.proofs.Months.{len_high, first_next}
use Rattle.timediff.specs.Promise.{Past}
use Rattle.timediff.specs.Spans.{moved, gap, Toward, month_at, shifted, passes, between, months_of, rest_of}
use Rattle.timediff.proofs.BackOff as off
use Rattle.timediff.proofs.Shifts.{is_past, is_within, not_past, home, in_month_is, into_31, month_low, ordered, none_stays, two_before, one_after}

-- ---- the greatest months

module _ (plus : Bool) (a b : ℕ) where
  pub up_to : months_of plus a b ≤ between plus a b
  unfolding months_of
  up_to = off.up_to (passes plus a b) (between plus a b)

  -- of all shifts up to the months between, the months are the greatest that does not carry B past A
  pub greatest : (n : ℕ) → n ≤ between plus a b → Toward plus a (shifted plus b n) → n ≤ months_of plus a b
  unfolding months_of passes
  greatest n l h = off.greatest (passes plus a b) (between plus a b) n l (not_past plus a (shifted plus b n) h)

  pub greater_passes : (n : ℕ) → months_of plus a b < n → n ≤ between plus a b → Past plus a (shifted plus b n)
  unfolding months_of passes
  greater_passes n l h = is_past plus a (shifted plus b n) (off.above (passes plus a b) (between plus a b) n l h)

  pub stays : InRange a → InRange b → Toward plus a b → Toward plus a (shifted plus b (months_of plus a b))
  unfolding months_of passes
  stays A B w = is_within plus a _ (off.stays (passes plus a b) (between plus a b) (none_stays plus a b A B w))

-- ---- "two back-offs suffice"; backward, one

two_forward : (a b : ℕ) → InRange a → InRange b → month_at b ≤ month_at a → between true a b ≤ months_of true a b + 2
unfolding between shifted
two_forward a b A B o = go (dec_lt (month_at a - month_at b) 2)
  where
    go : Dec (month_at a - month_at b < 2) → month_at a - month_at b ≤ months_of true a b + 2
    go (yes l) = omega arith
    go (no l) = omega (arith, l, greatest true a b (month_at a - month_at b - 2) (omega arith) (two_before a b (month_at b + (month_at a - month_at b - 2)) A B (omega (arith, month_low b B)) (omega (arith, l))))

pub one_backward : (a b : ℕ) → InRange a → month_at a ≤ month_at b → between false a b ≤ months_of false a b + 1
unfolding between shifted
one_backward a b A o = go (dec_lt (month_at b - month_at a) 1)
  where
    go : Dec (month_at b - month_at a < 1) → month_at b - month_at a ≤ months_of false a b + 1
    go (yes l) = omega arith
    go (no l) =
        let e : month_at b - (month_at b - month_at a - 1) ≡ suc (month_at a) = omega (arith, l) in
        omega (arith, l, greatest false a b (month_at b - month_at a - 1) (omega arith) (rw e (one_after a b A)))

pub two_suffice : (plus : Bool) (a b : ℕ) → InRange a → InRange b → Toward plus a b → between plus a b ≤ months_of plus a b + 2
two_suffice true a b A B w = two_forward a b A B (ordered true a b A B w)
two_suffice false a b A B w = omega (arith, one_backward a b A (ordered false a b A B w))

-- ---- the rest is below 31 days: either B's day stands in A's month, or one month more passes

rest_forward : (a b n : ℕ) → InRange a → InRange b → month_at b ≤ month_at a → n ≤ between true a b → shifted true b n ≤ a → ((m : ℕ) → n < m → m ≤ between true a b → a < shifted true b m) → a - shifted true b n < 31 * day_length
unfolding shifted between
rest_forward a b n A B o u w g = go (dec_lt n (month_at a - month_at b))
  where
    go : Dec (n < month_at a - month_at b) → a - in_month b (month_at b + n) < 31 * day_length
    go (yes l) =
        let e : month_at b + suc n ≡ suc (month_at b + n) = omega arith in
        let p : a < in_month b (suc (month_at b + n)) = rw e at (g (suc n) (omega arith) l) in
        omega (arith, in_month_is b (suc (month_at b + n)), in_month_is b (month_at b + n), first_next (month_at b + n) (omega (arith, month_low b B)), len_high (month_at b + n))
    go (no l) =
        let e : month_at b + n ≡ month_at a = omega (arith, l) in
        rw e (omega (arith, in_month_is b (month_at a), home a A, in_month_is a (month_at a), into_31 a A))

rest_backward : (a b n : ℕ) → InRange a → InRange b → month_at a ≤ month_at b → n ≤ between false a b → a ≤ shifted false b n → ((m : ℕ) → n < m → m ≤ between false a b → shifted false b m < a) → shifted false b n - a < 31 * day_length
unfolding shifted between
rest_backward a b n A B o u w g = go (dec_lt n (month_at b - month_at a))
  where
    go : Dec (n < month_at b - month_at a) → in_month b (month_at b - n) - a < 31 * day_length
    go (yes l) =
        let e : month_at b - n ≡ suc (month_at b - suc n) = omega arith in
        rw e (omega (arith, g (suc n) (omega arith) l, in_month_is b (suc (month_at b - suc n)), in_month_is b (month_at b - suc n), first_next (month_at b - suc n) (omega (arith, month_low a A)), len_high (month_at b - suc n)))
    go (no l) =
        let e : month_at b - n ≡ month_at a = omega (arith, l) in
        rw e (omega (arith, in_month_is b (month_at a), home a A, in_month_is a (month_at a), into_31 b B))

pub rest_high : (plus : Bool) (a b : ℕ) → InRange a → InRange b → Toward plus a b → rest_of plus a b < 31 * day_length
unfolding rest_of
rest_high true a b A B w = rest_forward a b (months_of true a b) A B (ordered true a b A B w) (up_to true a b) (stays true a b A B w) (greater_passes true a b)
rest_high false a b A B w = rest_backward a b (months_of false a b) A B (ordered false a b A B w) (up_to false a b) (stays false a b A B w) (greater_passes false a b)

-- ---- the months, and then the rest, take B to A

pub arrives : (plus : Bool) (a b : ℕ) → InRange a → InRange b → Toward plus a b → moved plus (shifted plus b (months_of plus a b)) (rest_of plus a b) ≡ a
unfolding rest_of
arrives plus a b A B w = go plus _ (stays plus a b A B w)
  where
    go : (p : Bool) (x : ℕ) → Toward p a x → moved p x (gap p x a) ≡ a
    go true x h = omega arith
    go false x h = omega arith
