-- Seconds: the fraction that digits write, seconds as milliseconds, and the bounds that callers need. Assumes nothing.
use Rattle.std.proofs.Common.{◌≡◌, ℕ, ◌+◌, ◌-◌, ◌*◌, ◌^◌, ◌<◌, ◌≤◌, true, false, T, List, [], length, negsuc, sym, refl, ap, ◌∙◌, subst, le_trans, le_of_eq, le_refl, lt_of_lt_of_le, le_of_suc-le-suc, mul-le-mul_right, mul_assoc, mul_comm, mul-lt-mul_of_pos_right, mul-one, arith, lit≤, pow_pos, pow-add}
use native.Mathlib.Nat.{one-le-pow}
use lib.Ieee.Positive.{num, den}
use lib.Ieee.{Float, fin, binary64, add, mul, div, le, lt, of_int, round, to_unsigned}
use Rattle.rules.specs.Floats.{number, ratio, half, whole, below, decimals, ◌⊕◌, ◌⊗◌, ◌⊘◌}
use Rattle.rules.specs.Decimal.{value}
use Rattle.rules.specs.Moments.{seconds_ms}
use Rattle.rules.specs.Reading.{digit_sum, scale, fraction_of}
use Rattle.real.specs.InMinute.{in_minute}
use Rattle.real.proofs.Run.{Digits}
use Rattle.real.proofs.Millis.{Nearly, nearly_sum, nearly_ms, nearly_decimals, nearly_quotient}
use Rattle.real.proofs.Fractions.{value_lt, fraction_near, fraction_within, most_near, most_plain}
use Rattle.real.proofs.Near.{number_val, div_at}
use Rattle.real.proofs.Within.{Within, Plain, plain_val, is_plain, is_plain_lem, within_self, within_mul, within_add, within_round, plain_mul, plain_add, whole_within, decimals_within, half_self}
use Rattle.real.proofs.Tests.{and_left, and_right, number_plain, number_within, within_below, within_le, not_below, between}

-- ---- the fraction

-- without a digit it is 0
pub fraction_none : fraction_of [] ≡ number 0
unfolding fraction_of digit_sum scale div of_int round lt
fraction_none = refl

-- any digits, up to 255 of them: as many as a time value holds
pub fraction_span : (ds : List ℕ) → Digits ds → length ds ≤ 255 → (le (number 0) (fraction_of ds) ≡ true) × (le (fraction_of ds) (ratio 999 1000) ≡ true)
fraction_span ds D n = let (p, w) = fraction_within ds D n in (not_below p, within_le p w)

-- ---- milliseconds grow with the seconds, up to 59.999
abbrev top : Float
top = ratio 59999 1000

plains : T (is_plain top) × T (is_plain (top ⊗ number 1000)) × T (is_plain (top ⊗ number 1000 ⊕ half))
unfolding of_int round mul add
plains = (tt, tt, tt)

top_plain : Plain top
top_plain = is_plain_lem top plains.0

-- 59.999 is the sum of its parts: computed apart, since two computations are costly to compare
abbrev digits : Float
digits = fin false 8444108563831325 (negsuc 46)

top_sum : number 59 ⊕ ratio 999 1000 ≡ digits
unfolding of_int round add
top_sum = refl

top_is : top ≡ digits
unfolding round
top_is = refl

top_ms : seconds_ms top ≡ 59999
unfolding of_int round mul add to_unsigned
top_ms = refl

top_thousandths : decimals 3 top ≡ 59999
unfolding round
top_thousandths = refl

top_whole : whole top ≡ 59
unfolding round to_unsigned
top_whole = refl

top_lt : num top * den (number 9007199254740992) < num (number 9007199254740992) * den top
unfolding of_int round
top_lt = lit≤ tt

thousand : Within (number 1000) (number 1000)
thousand = number_within 1000 1000 (le_refl 1000) (lit≤ tt)

seconds_mono : {x y : Float} → Within x y → Within y top → seconds_ms x ≤ seconds_ms y
seconds_mono w v =
    let m = within_mul v thousand plains.1 in
    let p = plain_mul w.right thousand.right m.left in
    let a = within_add m half_self plains.2 in
    let x = within_mul w thousand p in
    whole_within (within_add x half_self (plain_add x.right half_self.right a.left))

-- ---- whole seconds and a fraction, of up to 255 digits: as many as a time value holds
module _ (ds : List ℕ) (s : ℕ) (D : Digits ds) (n : length ds ≤ 255) (hs : s ≤ 59) where
  -- digits whose value is k whole milliseconds
  pub exact_ms : (k : ℕ) → k ≤ 999 → 1000 * value 0 ds ≡ k * 10 ^ length ds → seconds_ms (number s ⊕ fraction_of ds) ≡ 1000 * s + k
  exact_ms k kk e = nearly_ms (number s ⊕ fraction_of ds) (1000 * s + k) (omega arith) (nearly_sum s k (fraction_of ds) hs kk (fraction_near ds D n k kk e))

  -- "With three digits or fewer the milliseconds are exactly those written."
  pub three_digits : length ds ≤ 3 → seconds_ms (number s ⊕ fraction_of ds) ≡ 1000 * s + value 0 ds * 10 ^ (3 - length ds)
  three_digits h =
      let v = value 0 ds in
      let m = length ds in
      let r : 10 ^ m * 10 ^ (3 - m) ≡ 1000 = sym (pow-add 10 m (3 - m)) ∙ ap (λ (z : ℕ). 10 ^ z) (rest m h) in
      let l : v * 10 ^ (3 - m) < 1000 = lt_of_lt_of_le (mul-lt-mul_of_pos_right (value_lt ds D n) (one-le-pow (3 - m) 10 (lit≤ tt))) (le_of_eq r) in
      exact_ms (v * 10 ^ (3 - m)) (le_of_suc-le-suc l) (ap (λ (z : ℕ). z * v) (sym r) ∙ mul_comm (10 ^ m * 10 ^ (3 - m)) v ∙ ap (λ (z : ℕ). v * z) (mul_comm (10 ^ m) (10 ^ (3 - m))) ∙ sym (mul_assoc v (10 ^ (3 - m)) (10 ^ m)))
    where
      rest : (m : ℕ) → m ≤ 3 → m + (3 - m) ≡ 3
      rest m h = omega arith

  -- any digits: 0.999 at most
  read_within : {f : Float} → Within f (ratio 999 1000) → Within (number s ⊕ f) top
  read_within {f} w = subst (λ (z : Float). Within (number s ⊕ f) z) (top_sum ∙ sym top_is) (within_add (number_within s 59 hs (lit≤ tt)) w (subst (λ (z : Float). T (is_plain z)) (sym top_sum) tt))

  pub any_ms : seconds_ms (number s ⊕ fraction_of ds) ≤ 1000 * s + 999
  any_ms =
      let most = within_self most_plain in
      let near = nearly_sum s 999 (ratio 999 1000) hs (le_refl 999) most_near in
      let self = number_within s s (le_refl s) (le_trans hs (lit≤ tt)) in
      let w = within_add self (fraction_within ds D n).1 (plain_add self.right most_plain (read_within most).left) in
      le_trans (seconds_mono w (read_within most)) (le_of_eq (nearly_ms (number s ⊕ ratio 999 1000) (1000 * s + 999) (omega arith) near))

  pub read_minute : in_minute (number s ⊕ fraction_of ds) ≡ true
  read_minute =
      let (q, f) = fraction_within ds D n in
      let w = read_within f in
      let p = is_plain_lem (number s ⊕ fraction_of ds) (plain_add (number_plain s (le_trans hs (lit≤ tt))) q w.left) in
      rw (not_below p) (within_le p w)

-- ---- what is left of a day's milliseconds, as seconds
module _ (t : ℕ) (h : t ≤ 59999) where
  abbrev filled : Float
  filled = number t ⊘ number 1000

  near : Nearly filled t 2
  near = nearly_quotient t (le_trans h (lit≤ tt))

  filled_is : filled ≡ round binary64 false (t * 1) 1000
  filled_is = div_at binary64 (number t) (number 1000) t 1 1000 1 (pow_pos 0) (pow_pos 0) (lit≤ tt) (number_val t (le_trans h (lit≤ tt))) (number_val 1000 (lit≤ tt))

  -- back again
  pub filled_ms : seconds_ms filled ≡ t
  filled_ms = nearly_ms filled t (le_trans h (lit≤ tt)) near

  pub filled_thousandths : decimals 3 filled ≡ t
  filled_thousandths = nearly_decimals filled t near

  pub filled_minute : in_minute filled ≡ true
  filled_minute =
      let p = plain_val filled near.units (2 ^ 1074) near.is in
      let w = subst (λ (z : Float). Within z top) (sym filled_is) (within_round false (t * 1) 1000 59999 1000 (lit≤ tt) (lit≤ tt) (mul-le-mul_right 1000 (le_trans (le_of_eq (mul-one t)) h)) plains.0) in
      rw (not_below p) (within_le p w)

-- ---- the seconds of a time of day
module _ (x : Float) (h : in_minute x ≡ true) where
  within_top : Within x top
  within_top = (between x (number_plain 0 (lit≤ tt)) top_plain (and_left (le (number 0) x) (le x top) h) (and_right (le (number 0) x) (le x top) h)).0

  pub minute_ms : seconds_ms x ≤ 59999
  minute_ms = le_trans (seconds_mono within_top (within_self top_plain)) (le_of_eq top_ms)

  pub minute_thousandths : decimals 3 x ≤ 59999
  minute_thousandths = le_trans (decimals_within 3 within_top) (le_of_eq top_thousandths)

  pub minute_whole : whole x ≤ 59
  minute_whole = le_trans (whole_within within_top) (le_of_eq top_whole)

  pub minute_below : below x (number 9007199254740992) ≡ true
  minute_below = within_below within_top (number_plain 9007199254740992 (lit≤ tt)) top_lt
