-- `N unit`: how far each unit moves a time within its limit, and that sixteen such steps stay within 64 bits. Assumes nothing.
use Rattle.std.proofs.Common.{◌≡◌, ℕ, zero, suc, ◌+◌, ◌-◌, ◌*◌, ◌/◌, ◌^◌, ◌<◌, ◌≤◌, min, Bool, true, false, cond, not, T, ltb, ◌⊎◌, ℤ, pos, neg_ℤ, nat_abs, sym, refl, ap, ◌∙◌, inl, inr, ⊎_elim, true≢false, le_trans, le_of_eq, le_refl, lt_of_lt_of_le, le_of_suc-le-suc, le_of_lt, add-le-add, mul-le-mul_right, mod-lt, div-lt_iff_lt-mul, add-mul, mul-pos, div-add-mod', zero-mul, mul-one, mul_right_comm, div-mul-le_self, arith, lit≤}
use lib.Ieee.{Float, nan, inf, fin, binary64, up, down, add, sub, mul, neg, sum, of_int, round, to_signed, to_unsigned}
use lib.Ieee.Back.{round_whole}
use lib.Ieee.Exact.{HasValue}
use lib.Ieee.Fits.{down_pos}
use lib.Ieee.Positive.{num, den, den_pos}
use Rattle.rules.specs.Floats.{number, half, cut, whole, below, ◌⊕◌, ◌⊖◌, ◌⊗◌}
use Rattle.rules.specs.Modifiers.{signed, unit_ms, fraction_ms}
use Rattle.real.specs.StepMost.{step_most}
use Rattle.real.proofs.Within.{Finite, Within, is_plain, is_plain_lem, within_self, within_mul, within_round, rounded_within}
use Rattle.real.proofs.Tests.{below_number, below_within, number_within, is_finite_lem}

-- ---- units of a fixed length: a number below the limit moves no further than the limit would
unit_ms_lem : (limit unit n : Float) → T (is_plain limit) → T (is_plain unit) → T (is_plain (limit ⊗ unit)) → T (is_plain (limit ⊗ unit ⊕ half)) → below n limit ≡ true → nat_abs (unit_ms unit n) ≤ whole (limit ⊗ unit ⊕ half)
unit_ms_lem limit unit n p q r s h = rounded_within (within_mul (below_within n (is_plain_lem limit p) h) (within_self (is_plain_lem unit q)) r) s

pub days_ms : (n : Float) → below n (number 5373485) ≡ true → nat_abs (unit_ms (number 86400000) n) ≤ 464269104000000
unfolding of_int round mul add to_unsigned
days_ms n h = unit_ms_lem (number 5373485) (number 86400000) n tt tt tt tt h

pub hours_ms : (n : Float) → below n (number 128970000000) ≡ true → nat_abs (unit_ms (number 3600000) n) ≤ 464292000000000000
unfolding of_int round mul add to_unsigned
hours_ms n h = unit_ms_lem (number 128970000000) (number 3600000) n tt tt tt tt h

pub minutes_ms : (n : Float) → below n (number 7737900000000) ≡ true → nat_abs (unit_ms (number 60000) n) ≤ 464274000000000000
unfolding of_int round mul add to_unsigned
minutes_ms n h = unit_ms_lem (number 7737900000000) (number 60000) n tt tt tt tt h

pub seconds_ms_lem : (n : Float) → below n (number 464270000000000) ≡ true → nat_abs (unit_ms (number 1000) n) ≤ 464270000000000000
unfolding of_int round mul add to_unsigned
seconds_ms_lem n h = unit_ms_lem (number 464270000000000) (number 1000) n tt tt tt tt h

-- ---- units of months: the whole part, and what the rest comes to

-- the sizes of a difference of two numbers of one sign that lie less than c apart, or of a number up to c and none
one_within : (s : Bool) (z c : ℕ) → 0 < c → z ≤ c → Within (round binary64 s z c) (number 1)
unfolding of_int
one_within s z c C h = within_round s z c 1 1 C (lit≤ tt) (omega arith) tt

apart_within : (s t r : Bool) (a b c : ℕ) → 0 < c → b ≤ a → a ≤ b + c → Within (cond r (round binary64 t (b - a) c) (round binary64 s (a - b) c)) (number 1)
apart_within s t true a b c C l h = one_within t (b - a) c C (omega arith)
apart_within s t false a b c C l h = one_within s (a - b) c C (omega arith)

sum_within : (s t : Bool) (a b c : ℕ) → 0 < c → b ≤ a → a ≤ b + c → (t ≡ not s) ⊎ (b ≡ 0) → Within (sum binary64 s a t b c) (number 1)
unfolding sum
sum_within false true a b c C l h o = apart_within false true (ltb a b) a b c C l h
sum_within true false a b c C l h o = apart_within (ltb b a) false (ltb a b) a b c C l h
sum_within false false a b c C l h (inl e) = absurd (true≢false (sym e))
sum_within false false a b c C l h (inr z) = one_within false (a + b) c C (omega arith)
sum_within true true a b c C l h (inl e) = absurd (true≢false e)
sum_within true true a b c C l h (inr z) = one_within true (a + b) c C (omega arith)

-- y is the whole part q of m * 2 ^ e, with its sign
rest_within : (s : Bool) (m : ℕ) (e : ℤ) (y : Float) (t : Bool) (q : ℕ) → HasValue y t q 1 → (t ≡ s) ⊎ (q ≡ 0) → q * down e ≤ m * up e → m * up e ≤ q * down e + down e → Within (fin s m e ⊖ y) (number 1)
unfolding sub add neg
rest_within s m e nan t q v o l h = absurd v
rest_within s m e (inf u) t q v o l h = absurd v
rest_within s m e (fin u n d) t q v o l h =
    let b : n * up d * down e ≡ q * down e * down d = ap (λ (z : ℕ). z * down e) (sym (mul-one (n * up d)) ∙ v.1) ∙ mul_right_comm q (down d) (down e) in
    sum_within s (not u) (m * up e * down d) (n * up d * down e) (down e * down d) (mul-pos (down_pos e) (down_pos d))
    (le_trans (le_of_eq b) (mul-le-mul_right (down d) l))
    (le_trans (mul-le-mul_right (down d) h) (le_of_eq (add-mul (q * down e) (down e) (down d) ∙ ap (λ (z : ℕ). z + down e * down d) (sym b))))
    (⊎_elim (λ (i : t ≡ s). inl (ap not (v.0 ∙ i))) (λ (z : q ≡ 0). inr (b ∙ ap (λ (k : ℕ). k * down e * down d) z ∙ ap (λ (k : ℕ). k * down d) (zero-mul (down e)) ∙ zero-mul (down d))) o)

-- ---- the whole part, with its sign
cut_is : (s : Bool) (m : ℕ) (e : ℤ) → m * up e / down e < 2 ^ 53 → cut (fin s m e) ≡ signed s (m * up e / down e)
unfolding to_signed
cut_is false m e h = ap pos (omega arith)
cut_is true m e h = let q : min (m * up e / down e) (2 ^ 63) ≡ m * up e / down e = omega arith in ap (λ (z : ℕ). neg_ℤ (pos z)) q

abs_signed : (s : Bool) (q : ℕ) → nat_abs (signed s q) ≡ q
abs_signed false q = refl
abs_signed true zero = refl
abs_signed true (suc q) = refl

record Part (s : Bool) (q : ℕ) : Type 0 where
  sign : Bool
  is : HasValue (of_int binary64 (signed s q)) sign q 1
  same : (sign ≡ s) ⊎ (q ≡ 0)

part : (s : Bool) (q : ℕ) → q ≤ 2 ^ 53 → Part s q
unfolding of_int
part false q h = record { sign = false; is = round_whole binary64 false q h; same = inl refl }
part true zero h = record { sign = false; is = round_whole binary64 false 0 h; same = inr refl }
part true (suc q) h = record { sign = true; is = round_whole binary64 true (suc q) h; same = inl refl }

-- of a number of magnitude below k
whole_lt : (n : Float) (k : ℕ) → k ≤ 2 ^ 53 → below n (number k) ≡ true → Finite n × (num n / den n < k)
whole_lt n k K h = let (f, l) = below_number n k K h in (f, (div-lt_iff_lt-mul (den_pos n)).1 l)

pub cut_below : (n : Float) (k : ℕ) → k ≤ 2 ^ 53 → below n (number k) ≡ true → nat_abs (cut n) < k
cut_below nan k K h = absurd (is_finite_lem (whole_lt nan k K h).0)
cut_below (inf s) k K h = absurd (is_finite_lem (whole_lt (inf s) k K h).0)
cut_below (fin s m e) k K h =
    let l = (whole_lt (fin s m e) k K h).1 in
    rw (cut_is s m e (lt_of_lt_of_le l K), abs_signed s (m * up e / down e)) l

rest_one : (n : Float) (k : ℕ) → k ≤ 2 ^ 53 → below n (number k) ≡ true → Within (n ⊖ of_int binary64 (cut n)) (number 1)
rest_one nan k K h = absurd (is_finite_lem (whole_lt nan k K h).0)
rest_one (inf s) k K h = absurd (is_finite_lem (whole_lt (inf s) k K h).0)
rest_one (fin s m e) k K h =
    let a = m * up e in
    let d = down e in
    let l = lt_of_lt_of_le (whole_lt (fin s m e) k K h).1 K in
    let p = part s (a / d) (le_of_lt l) in
    let r : a ≤ a / d * d + d = le_trans (le_of_eq (sym (div-add-mod' a d))) (add-le-add (le_refl (a / d * d)) (le_of_lt (mod-lt a (down_pos e)))) in
    rw (cut_is s m e l) (rest_within s m e (of_int binary64 (signed s (a / d))) p.sign (a / d) p.is p.same (div-mul-le_self a d) r)

-- ---- the rest in milliseconds: at most a whole unit's days
fraction_ms_lem : (days n : Float) (k : ℕ) → k ≤ 2 ^ 53 → T (is_plain days) → T (is_plain (number 1 ⊗ days)) → T (is_plain (number 1 ⊗ days ⊗ number 86400000)) → T (is_plain (number 1 ⊗ days ⊗ number 86400000 ⊕ half)) → below n (number k) ≡ true
    → nat_abs (fraction_ms days n) ≤ whole (number 1 ⊗ days ⊗ number 86400000 ⊕ half)
fraction_ms_lem days n k K p q r s h =
    rounded_within (within_mul (within_mul (rest_one n k K h) (within_self (is_plain_lem days p)) q) (number_within 86400000 86400000 (le_refl 86400000) (lit≤ tt)) r) s

pub months_ms : (n : Float) → below n (number 176546) ≡ true → nat_abs (fraction_ms (number 30) n) ≤ 2592000000
unfolding of_int round mul add to_unsigned
months_ms n h = fraction_ms_lem (number 30) n 176546 (lit≤ tt) tt tt tt tt h

pub years_ms : (n : Float) → below n (number 14713) ≡ true → nat_abs (fraction_ms (number 365) n) ≤ 31536000000
unfolding of_int round mul add to_unsigned
years_ms n h = fraction_ms_lem (number 365) n 14713 (lit≤ tt) tt tt tt tt h

pub months_cut : (n : Float) → below n (number 176546) ≡ true → nat_abs (cut n) ≤ 176545
months_cut n h = le_of_suc-le-suc (cut_below n 176546 (lit≤ tt) h)

pub years_cut : (n : Float) → below n (number 14713) ≡ true → nat_abs (cut n) ≤ 14712
years_cut n h = le_of_suc-le-suc (cut_below n 14713 (lit≤ tt) h)

-- ---- "With 16 modifiers the milliseconds stay within 64 bits": no step is longer than the longest number of hours
pub sixteen : 464269060800000 + 16 * step_most < 2 ^ 63
sixteen = lit≤ tt
