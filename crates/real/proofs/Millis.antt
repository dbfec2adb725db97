-- Seconds to milliseconds: "times 1000, plus 0.5, cut" gives the whole milliseconds that the seconds are near. Assumes nothing.
use Rattle.std.proofs.Common.{◌≡◌, ℕ, suc, ◌+◌, ◌-◌, ◌*◌, ◌/◌, ◌^◌, ◌<◌, ◌≤◌, min, true, false, sym, refl, ap, ◌∙◌, subst, true≢false, le_trans, le_of_eq, lt_of_lt_of_le, le_of_suc-le-suc, le_of_lt, mul-le-mul_right, mul_assoc, suc-mul, div-lt_iff_lt-mul, add-mul, le_antisymm, lt_of_mul-lt-mul_right, le-div_iff_mul-le, mul-one, mul_right_comm, arith, lit≤, pow_pos}
use lib.Ieee.{Float, nan, inf, fin, binary64, up, down, round, to_unsigned}
use lib.Ieee.Fits.{down_pos}
use lib.Ieee.Exact.{HasValue}
use lib.Ieee.Nearest.{closest, closest_same, div_same}
use lib.Ieee.Positive.{num, den, den_pos, value→cross}
use Rattle.rules.specs.Floats.{number, half, whole, decimals, ◌⊕◌, ◌⊗◌, ◌⊘◌}
use Rattle.rules.specs.Moments.{seconds_ms}
use Rattle.real.proofs.Near.{closest_half, value_same, rounded, add_moved, mul_moved, div_at, number_val}

-- ---- the cut of a value
uncapped : (a : ℕ) → a < 2 ^ 64 → min a (2 ^ 64 - 1) ≡ a
uncapped a h = omega arith

pub cut_at : (x : Float) (a c : ℕ) → 0 < c → a < 2 ^ 64 * c → HasValue x false a c → whole x ≡ a / c
unfolding to_unsigned
cut_at nan a c C b v = absurd v
cut_at (inf t) a c C b v = absurd v
cut_at (fin true m e) a c C b v = absurd (true≢false v.0)
cut_at (fin false m e) a c C b v =
    let q : m * up e / down e ≡ a / c = div_same (m * up e) (down e) a c (down_pos e) C v.1 in
    ap (λ (z : ℕ). min z (2 ^ 64 - 1)) q ∙ uncapped (a / c) ((div-lt_iff_lt-mul C).1 b)

pub quotient : (g q l : ℕ) → 0 < l → q * l ≤ g → g < q * l + l → g / l ≡ q
quotient g q l L a b =
    le_antisymm (le_of_suc-le-suc ((div-lt_iff_lt-mul L).1 (lt_of_lt_of_le b (le_of_eq (sym (suc-mul q l)))))) ((le-div_iff_mul-le L).1 a)

-- ---- values in units of 2 ^ -1074
pub of_int-val : (n : ℕ) → n < 2 ^ 53 → HasValue (number n) false n 1
of_int-val n h = number_val n (le_of_lt h)

pub to_units : (x : Float) (n : ℕ) → HasValue x false n 1 → HasValue x false (n * 2 ^ 1074) (2 ^ 1074)
to_units x n v = value_same x n 1 (n * 2 ^ 1074) (2 ^ 1074) (pow_pos 0) (sym (mul-one (n * 2 ^ 1074))) v

pub half_val : HasValue half false (2 ^ 1073) (2 ^ 1074)
unfolding round
half_val = (refl, refl)

-- ---- x is k thousandths, within e * 2 ^ -14
pub record Nearly (x : Float) (k e : ℕ) : Type 0 where
  pub units : ℕ
  pub is : HasValue x false units (2 ^ 1074)
  pub above : units * 1000 * 2 ^ 14 ≤ k * 2 ^ 1074 * 2 ^ 14 + e * 1000 * 2 ^ 1074
  pub below : k * 2 ^ 1074 * 2 ^ 14 ≤ units * 1000 * 2 ^ 14 + e * 1000 * 2 ^ 1074

-- `omega` takes no number of more than 38 digits, so each step is shown at a variable L. L is 1, in units; kL is k.
module _ (L kL g : ℕ) (P : 0 < L) where
  -- whole seconds and a fraction
  sum_lt : (sL : ℕ) → sL ≤ 59 * L → kL ≤ 999 * L → g * 1000 * 2 ^ 14 ≤ kL * 2 ^ 14 + 1 * 1000 * L → sL + g < L * 2 ^ 40
  sum_lt sL a b c = omega arith

  sum_up : (sL h : ℕ) → h * 2 ^ 14 ≤ (sL + g) * 2 ^ 14 + L → g * 1000 * 2 ^ 14 ≤ kL * 2 ^ 14 + 1 * 1000 * L → h * 1000 * 2 ^ 14 ≤ (1000 * sL + kL) * 2 ^ 14 + 2 * 1000 * L
  sum_up sL h a b = omega arith

  sum_down : (sL h : ℕ) → (sL + g) * 2 ^ 14 ≤ h * 2 ^ 14 + L → kL * 2 ^ 14 ≤ g * 1000 * 2 ^ 14 + 1 * 1000 * L → (1000 * sL + kL) * 2 ^ 14 ≤ h * 1000 * 2 ^ 14 + 2 * 1000 * L
  sum_down sL h a b = omega arith

  -- times 1000, and then plus 0.5: H is 0.5
  mul_lt : kL ≤ 60000 * L → g * 1000 * 2 ^ 14 ≤ kL * 2 ^ 14 + 2 * 1000 * L → g * 1000 < L * 2 ^ 40
  mul_lt a b = omega arith

  add_lt : (H h : ℕ) → L ≡ H * 2 → kL ≤ 60000 * L → g * 1000 * 2 ^ 14 ≤ kL * 2 ^ 14 + 2 * 1000 * L → h * 2 ^ 14 ≤ g * 1000 * 2 ^ 14 + L → h + H < L * 2 ^ 40
  add_lt H h e a b c = omega arith

  ends : (H h i : ℕ) → L ≡ H * 2
      → g * 1000 * 2 ^ 14 ≤ kL * 2 ^ 14 + 2 * 1000 * L → kL * 2 ^ 14 ≤ g * 1000 * 2 ^ 14 + 2 * 1000 * L
      → h * 2 ^ 14 ≤ g * 1000 * 2 ^ 14 + L → g * 1000 * 2 ^ 14 ≤ h * 2 ^ 14 + L
      → i * 2 ^ 14 ≤ (h + H) * 2 ^ 14 + L → (h + H) * 2 ^ 14 ≤ i * 2 ^ 14 + L
      → (kL ≤ i) × (i < kL + L)
  ends H h i e a b c d f j = (omega arith, omega arith)

  in_64 : (i : ℕ) → kL ≤ 60000 * L → i < kL + L → i < 2 ^ 64 * L
  in_64 i a b = omega arith

joined : (s k L : ℕ) → 1000 * (s * L) + k * L ≡ (1000 * s + k) * L
joined s k L = ap (λ (z : ℕ). z + k * L) (sym (mul_assoc 1000 s L)) ∙ sym (add-mul (1000 * s) k L)

pub nearly_sum : (s k : ℕ) (r : Float) → s ≤ 59 → k ≤ 999 → Nearly r k 1 → Nearly (number s ⊕ r) (1000 * s + k) 2
nearly_sum s k r hs hk n =
    let L = 2 ^ 1074 in
    let P : 0 < L = pow_pos 1074 in
    let m = add_moved binary64 (number s) r (s * L) n.units 14 40 refl (lit≤ tt) (sum_lt L (k * L) n.units P (s * L) (mul-le-mul_right L hs) (mul-le-mul_right L hk) n.above)
    (to_units (number s) s (number_val s (le_trans hs (lit≤ tt)))) n.is in
    record {
      units = m.units;
      is = m.is;
      above = subst (λ (z : ℕ). m.units * 1000 * 2 ^ 14 ≤ z * 2 ^ 14 + 2 * 1000 * L) (joined s k L) (sum_up L (k * L) n.units P (s * L) m.units m.above n.above);
      below = subst (λ (z : ℕ). z * 2 ^ 14 ≤ m.units * 1000 * 2 ^ 14 + 2 * 1000 * L) (joined s k L) (sum_down L (k * L) n.units P (s * L) m.units m.below n.below);
    }

pub nearly_ms : (x : Float) (k : ℕ) → k ≤ 60000 → Nearly x k 2 → seconds_ms x ≡ k
nearly_ms x k hk n =
    let L = 2 ^ 1074 in
    let H = 2 ^ 1073 in
    let P : 0 < L = pow_pos 1074 in
    let g = n.units in
    let kL : k * L ≤ 60000 * L = mul-le-mul_right L hk in
    let m = mul_moved binary64 x (number 1000) g 1000 14 40 refl (lit≤ tt) (mul_lt L (k * L) g P kL n.above) n.is (number_val 1000 (lit≤ tt)) in
    let a = add_moved binary64 (x ⊗ number 1000) half m.units H 14 40 refl (lit≤ tt) (add_lt L (k * L) g P H m.units refl kL n.above m.above) m.is half_val in
    let e = ends L (k * L) g P H m.units a.units refl n.above n.below m.above m.below a.above a.below in
    cut_at (x ⊗ number 1000 ⊕ half) a.units L P (in_64 L (k * L) g P a.units kL e.1) a.is ∙ quotient a.units k L P e.0 e.1

-- ---- whole milliseconds as seconds, and back
pub nearly_quotient : (k : ℕ) → k ≤ 60000 → Nearly (number k ⊘ number 1000) k 2
nearly_quotient k hk =
    let L = 2 ^ 1074 in
    let x = number k ⊘ number 1000 in
    let e : x ≡ round binary64 false (k * 1) (1 * 1000) = div_at binary64 (number k) (number 1000) k 1 1000 1 (pow_pos 0) (pow_pos 0) (lit≤ tt) (number_val k (le_trans hk (lit≤ tt))) (number_val 1000 (lit≤ tt)) in
    let r = rounded binary64 (k * 1) 1000 14 40 refl (lit≤ tt) (lit≤ tt) (small k hk) in
    record {
      units = r.units;
      is = subst (λ (z : Float). HasValue z false r.units L) (sym e) r.is;
      above = up r.units (k * L) L (subst (λ (z : ℕ). r.units * 1000 * 2 ^ 14 ≤ z * L * 2 ^ 14 + 1000 * L) (mul-one k) r.above);
      below = up' r.units (k * L) L (subst (λ (z : ℕ). z * L * 2 ^ 14 ≤ r.units * 1000 * 2 ^ 14 + 1000 * L) (mul-one k) r.below);
    }
  where
    small : (k : ℕ) → k ≤ 60000 → k * 1 < 1000 * 2 ^ 40
    small k h = omega arith

    up : (g kL L : ℕ) → g * 1000 * 2 ^ 14 ≤ kL * 2 ^ 14 + 1000 * L → g * 1000 * 2 ^ 14 ≤ kL * 2 ^ 14 + 2 * 1000 * L
    up g kL L h = omega arith

    up' : (g kL L : ℕ) → kL * 2 ^ 14 ≤ g * 1000 * 2 ^ 14 + 1000 * L → kL * 2 ^ 14 ≤ g * 1000 * 2 ^ 14 + 2 * 1000 * L
    up' g kL L h = omega arith

-- ---- three decimals
closest_is : (n u k : ℕ) → 0 < u → k * u * 2 < n * 2 + u → n * 2 < k * u * 2 + u → closest n u ≡ k
closest_is n u k U lo hi =
    let v = closest n u in
    let h = closest_half n u U in
    let a : v * u < suc k * u = lt_of_lt_of_le (less (v * u) n (k * u) u h.1 hi) (le_of_eq (sym (suc-mul k u))) in
    let b : k * u < suc v * u = lt_of_lt_of_le (less' (k * u) n (v * u) u lo h.0) (le_of_eq (sym (suc-mul v u))) in
    le_antisymm (le_of_suc-le-suc (lt_of_mul-lt-mul_right u a)) (le_of_suc-le-suc (lt_of_mul-lt-mul_right u b))
  where
    less : (x n y u : ℕ) → x * 2 ≤ n * 2 + u → n * 2 < y * 2 + u → x < y + u
    less x n y u a b = omega arith

    less' : (x n y u : ℕ) → x * 2 < n * 2 + u → n * 2 ≤ y * 2 + u → x < y + u
    less' x n y u a b = omega arith

pub nearly_decimals : (x : Float) (k : ℕ) → Nearly x k 2 → decimals 3 x ≡ k
nearly_decimals x k n =
    let L = 2 ^ 1074 in
    let g = n.units in
    closest_same (num x * 1000) (den x) (g * 1000) L (den_pos x) (pow_pos 1074) (mul_right_comm (num x) 1000 L ∙ ap (λ (z : ℕ). z * 1000) (value→cross x g L n.is) ∙ mul_right_comm g (den x) 1000)
    ∙ closest_is (g * 1000) L k (pow_pos 1074) (up L (k * L) (g * 1000) (pow_pos 1074) n.below) (down' L (k * L) (g * 1000) (pow_pos 1074) n.above)
  where
    up : (L kL h : ℕ) → 0 < L → kL * 2 ^ 14 ≤ h * 2 ^ 14 + 2 * 1000 * L → kL * 2 < h * 2 + L
    up L kL h p a = omega arith

    down' : (L kL h : ℕ) → 0 < L → h * 2 ^ 14 ≤ kL * 2 ^ 14 + 2 * 1000 * L → h * 2 < kL * 2 + L
    down' L kL h p a = omega arith
