-- Numbers as Julian days and as seconds from 1970: how many milliseconds they come to, and milliseconds as days and seconds. Assumes nothing.
use Rattle.std.proofs.Common.{◌≡◌, ℕ, suc, ◌-◌, ◌*◌, ◌^◌, ◌<◌, ◌≤◌, true, false, T, refl, ◌∙◌, le_trans, le_refl, arith, lit≤, pow_pos}
use native.Mathlib.Decide.{dec_lt}
use lib.Ieee.{Float, nan, inf, fin, binary64, add, mul, div, neg, le, lt, of_int, round, minus, to_unsigned}
use lib.Ieee.Positive.{num, den, positive}
use Rattle.rules.specs.Floats.{number, ratio, half, within, below, decimals, negative, ◌⊕◌, ◌⊘◌}
use Rattle.rules.specs.Calendar.{instant, last, unix_epoch}
use Rattle.rules.specs.Reading.{is_julian, julian_ms}
use Rattle.rules.specs.Modifiers.{from_epoch, nearest_ms, is_auto, is_unix}
use Rattle.rules.specs.Writing.{unix_real, julian_real}
use Rattle.real.proofs.Sign.{number_neg, round_sign, div_sign}
use Rattle.real.proofs.Signs.{minus_pos, minus_neg}
use Rattle.real.proofs.Within.{Within, is_plain, is_plain_lem, within_neg, within_mul, within_add, within_div, within_round, plain_round, whole_within, decimals_within, half_self}
use Rattle.real.proofs.Tests.{and_left, and_right, number_plain, number_within, within_below, within_le, span_within, around}
use Rattle.real.proofs.Near.{number_val, div_at}

-- ---- what each test lets through: at most the milliseconds of its limit, computed

nearest_within : {x y : Float} → Within x y → T (is_plain (y ⊕ half)) → nearest_ms x ≤ nearest_ms y
nearest_within w p = whole_within (within_add w half_self p)

same : (k : ℕ) → k ≤ 2 ^ 53 → Within (number k) (number k)
same k h = number_within k k (le_refl k) h

-- 5373484.5 itself would come to one millisecond past the last
pub julian_ms_lem : (n : Float) → is_julian n ≡ true → julian_ms n ≤ 464269060800000
unfolding of_int round mul add to_unsigned
julian_ms_lem n h = nearest_within (within_mul (span_within n (number_plain 0 (lit≤ tt)) (is_plain_lem (ratio 53734845 10) tt) h).0 (same 86400000 (lit≤ tt)) tt) tt

pub unix_ms : (r : Float) → is_unix r ≡ true → nearest_ms r ≤ 464269060800000
unfolding of_int round add to_unsigned
unix_ms r h = nearest_within (span_within r (number_plain 0 (lit≤ tt)) (number_plain 464269060800000 (lit≤ tt)) h).0 tt

-- and within the range: 464269060799999 is the last
pub auto_ms : (s : Float) → is_auto s ≡ true → nearest_ms (from_epoch s) ≤ 464269060799000
unfolding of_int round mul add to_unsigned
auto_ms s h =
    let low = number 210866760000 in
    let high = number 253402300799 in
    let w : Within s high = around s (number_plain 210866760000 (lit≤ tt)) (number_within 210866760000 253402300799 (lit≤ tt) (lit≤ tt)) (and_left (le (neg low) s) (le s high) h) (and_right (le (neg low) s) (le s high) h) in
    nearest_within (within_add (within_mul w (same 1000 (lit≤ tt)) tt) (same 210866760000000 (lit≤ tt)) tt) tt

-- ---- no test lets a NaN through
pub julian_nan : is_julian nan ≡ false
unfolding le lt of_int round
julian_nan = refl

pub unix_nan : is_unix nan ≡ false
unfolding le lt of_int round
unix_nan = refl

pub auto_nan : is_auto nan ≡ false
unfolding le lt neg of_int round
auto_nan = refl

pub below_nan : (limit : Float) → below nan limit ≡ false
unfolding lt neg
below_nan nan = refl
below_nan (inf s) = refl
below_nan (fin s m e) = refl

-- ---- milliseconds as days, from 86400000000000 on, and as seconds: what fixed point asks
less : num (number 5373485) * den (number 8388608) < num (number 8388608) * den (number 5373485)
unfolding of_int round
less = lit≤ tt

days_span : (d : ℕ) → 86400000000000 ≤ d → d ≤ 464269060799999 → within (number 1000000) (number d ⊘ number 86400000) (number 8388608) ≡ true
unfolding of_int
days_span d h k =
    let x = round binary64 false (d * 1) 86400000 in
    let e : number d ⊘ number 86400000 ≡ x = div_at binary64 (number d) (number 86400000) d 1 86400000 1 (pow_pos 0) (pow_pos 0) (lit≤ tt) (number_val d (le_trans k (lit≤ tt))) (number_val 86400000 (lit≤ tt)) in
    let hi : Within x (number 5373485) = within_round false (d * 1) 86400000 5373485 1 (lit≤ tt) (lit≤ tt) (omega arith) tt in
    let lo : Within (number 1000000) x = within_round false 1000000 1 (d * 1) 86400000 (lit≤ tt) (lit≤ tt) (omega arith) (plain_round (d * 1) 86400000 hi.left) in
    rw (e, within_le (number_plain 1000000 (lit≤ tt)) lo) (and_right (lt (neg (number 8388608)) x) (lt x (number 8388608)) (within_below hi (number_plain 8388608 (lit≤ tt)) less))

pub julian_span : (t : ℕ) → instant 86400000000000 ≤ t → t ≤ last → within (number 1000000) (julian_real t) (number 8388608) ≡ true
unfolding julian_real
julian_span t h k = days_span (t - instant 0) (omega arith) (omega arith)

above : T (positive (number 1000))
unfolding of_int round
above = tt

since_within : (t : ℕ) → instant 0 ≤ t → t ≤ last → Within (of_int binary64 (minus t unix_epoch)) (number 253402300800000)
since_within t h k = go (dec_lt t unix_epoch)
  where
    go : Dec (t < unix_epoch) → Within (of_int binary64 (minus t unix_epoch)) (number 253402300800000)
    go (yes l) = rw (minus_neg t unix_epoch l, ← number_neg (unix_epoch - suc t)) (within_neg (number_within (suc (unix_epoch - suc t)) 253402300800000 (omega arith) (lit≤ tt)))
    go (no l) = rw (minus_pos t unix_epoch (omega (arith, l))) (number_within (t - unix_epoch) 253402300800000 (omega arith) (lit≤ tt))

since_seconds : (t : ℕ) → instant 0 ≤ t → t ≤ last → Within (unix_real t) (number 253402300800000 ⊘ number 1000)
unfolding unix_real of_int round div
since_seconds t h k = within_div (number 1000) (since_within t h k) tt tt

pub unix_span : (t : ℕ) → instant 0 ≤ t → t ≤ last → below (unix_real t) (number 9007199254740992) ≡ true
unfolding of_int round div
unix_span t h k = within_below (since_seconds t h k) (number_plain 9007199254740992 (lit≤ tt)) (lit≤ tt)

-- ---- how many decimals they come to, and the sign of the seconds
pub julian_billionths : (t : ℕ) → instant 86400000000000 ≤ t → t ≤ last → decimals 9 (julian_real t) ≤ 8388608000000000
unfolding of_int round
julian_billionths t h k = decimals_within 9 (span_within (julian_real t) (number_plain 1000000 (lit≤ tt)) (number_plain 8388608 (lit≤ tt)) (julian_span t h k)).0

pub unix_thousandths : (t : ℕ) → instant 0 ≤ t → t ≤ last → decimals 3 (unix_real t) ≤ 253402300800000
unfolding of_int round div
unix_thousandths t h k = decimals_within 3 (since_seconds t h k)

pub unix_plus : (t : ℕ) → unix_epoch ≤ t → negative (unix_real t) ≡ false
unfolding unix_real of_int
unix_plus t h = div_sign (of_int binary64 (minus t unix_epoch)) (number 1000) above ∙ rw (minus_pos t unix_epoch h) (round_sign false (t - unix_epoch) 1)

pub unix_minus : (t : ℕ) → t < unix_epoch → negative (unix_real t) ≡ true
unfolding unix_real of_int
unix_minus t h = div_sign (of_int binary64 (minus t unix_epoch)) (number 1000) above ∙ rw (minus_neg t unix_epoch h) (round_sign true (suc (unix_epoch - suc t)) 1)
