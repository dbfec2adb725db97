-- Seconds whose milliseconds are known, whether they were read or filled: cut they are the whole seconds, in three decimals the
-- milliseconds. Assumes nothing.
use Prim.Native.Nat.{ℕ, ◌+◌, ◌*◌, ◌^◌, ◌≤◌, ◌<◌}
use mathlib.Core.Bool.{false}
use mathlib.Core.Path.{◌≡◌, refl, sym, ap, ◌∙◌, subst}
use mathlib.Core.List.{List}
use native.Mathlib.Nat.{le_trans, le_of_eq, le_antisymm, le_of_suc-le-suc, mul-one, mul_assoc, add-mul, suc-mul, mul-le-mul_right, div-lt_iff_lt-mul}
use native.Mathlib.Omega.{arith}
use lib.Dec.{T, lit≤}
use lib.Ieee.{Float, binary64, round, of_int}
use lib.ListN.{length}
use lib.Pow.{pow_pos}
use Rattle.rules.specs.Decimal.{value}
use Rattle.rules.specs.Floats.{number, whole, decimals, ◌⊕◌, ◌⊘◌}
use Rattle.rules.specs.Reading.{fraction_of}
use Rattle.real.proofs.Fractions.{fraction_near}
use Rattle.real.proofs.Millis.{Nearly, cut_at, to_units, nearly_sum, nearly_quotient, nearly_decimals}
use Rattle.real.proofs.Near.{add_at, div_at, number_val}
use Rattle.real.proofs.Run.{Digits}
use Rattle.real.proofs.Within.{Plain, plain, is_plain, plain_val, within_round, whole_within}

-- ---- not below s seconds
is_plain_lem : {x : Float} → Plain x → T (is_plain x)
is_plain_lem (plain m e) = tt

number_is : (s : ℕ) → number s ≡ round binary64 false s 1
unfolding of_int
number_is s = refl

whole_number : (s : ℕ) → s ≤ 59 → whole (number s) ≡ s
whole_number s h = cut_at (number s) s 1 (lit≤ tt) (omega arith) (number_val s (le_trans h (lit≤ tt))) ∙ omega arith

low : (s a c : ℕ) (x : Float) → s ≤ 59 → 0 < c → s * c ≤ a → x ≡ round binary64 false a c → Plain x → s ≤ whole x
low s a c x h C l e p =
    let w = within_round false s 1 a c (lit≤ tt) C (le_trans l (le_of_eq (sym (mul-one a)))) (subst (λ (z : Float). T (is_plain z)) e (is_plain_lem p)) in
    le_trans (le_of_eq (sym (whole_number s h) ∙ ap whole (number_is s))) (le_trans (whole_within w) (le_of_eq (ap whole (sym e))))

-- ---- below the next: at a variable L, since `omega` takes no number as large as 2 ^ 1074
module _ (L sL kL g : ℕ) (P : 0 < L) (a : kL ≤ 999 * L) (b : g * 1000 * 2 ^ 14 ≤ (1000 * sL + kL) * 2 ^ 14 + 2 * 1000 * L) where
  next : g < sL + L
  next = omega arith

  in_64 : sL ≤ 59 * L → g < 2 ^ 64 * L
  in_64 h = omega arith

joined : (s k L : ℕ) → (1000 * s + k) * L ≡ 1000 * (s * L) + k * L
joined s k L = add-mul (1000 * s) k L ∙ ap (λ (z : ℕ). z + k * L) (mul_assoc 1000 s L)

high : (x : Float) (s k : ℕ) → s ≤ 59 → k ≤ 999 → Nearly x (1000 * s + k) 2 → whole x ≤ s
high x s k h i n =
    let L = 2 ^ 1074 in
    let P : 0 < L = pow_pos 1074 in
    let b = subst (λ (z : ℕ). n.units * 1000 * 2 ^ 14 ≤ z * 2 ^ 14 + 2 * 1000 * L) (joined s k L) n.above in
    let c = cut_at x n.units L P (in_64 L (s * L) (k * L) n.units P (mul-le-mul_right L i) b (mul-le-mul_right L h)) n.is in
    le_trans (le_of_eq c) (le_of_suc-le-suc ((div-lt_iff_lt-mul P).1 (le_trans (next L (s * L) (k * L) n.units P (mul-le-mul_right L i) b) (le_of_eq (sym (suc-mul s L))))))

-- ---- s seconds and k milliseconds, as they print
pub record Prints (s k : ℕ) (x : Float) : Type 0 where
  pub cut_is : whole x ≡ s
  pub decimals_are : decimals 3 x ≡ 1000 * s + k

module _ (s k : ℕ) (h : s ≤ 59) (i : k ≤ 999) where
  prints : (x : Float) (a c : ℕ) → 0 < c → s * c ≤ a → x ≡ round binary64 false a c → Nearly x (1000 * s + k) 2 → Prints s k x
  prints x a c C l e n = record { cut_is = le_antisymm (high x s k h i n) (low s a c x h C l e (plain_val x n.units (2 ^ 1074) n.is)); decimals_are = nearly_decimals x (1000 * s + k) n }

  -- whole seconds and a fraction, as they are read
  pub as_read : (ds : List ℕ) → Digits ds → length ds ≤ 255 → 1000 * value 0 ds ≡ k * 10 ^ length ds → Prints s k (number s ⊕ fraction_of ds)
  as_read ds D n e =
      let L = 2 ^ 1074 in
      let P : 0 < L = pow_pos 1074 in
      let f = fraction_near ds D n k i e in
      prints (number s ⊕ fraction_of ds) (s * L + f.units) L P (le_more (s * L) f.units) (add_at binary64 (number s) (fraction_of ds) (s * L) f.units L P (to_units (number s) s (number_val s (le_trans h (lit≤ tt)))) f.is) (nearly_sum s k (fraction_of ds) h i f)
    where
      le_more : (a b : ℕ) → a ≤ a + b
      le_more a b = omega arith

  -- the milliseconds of a minute, as they are filled in
  pub as_filled : Prints s k (number (1000 * s + k) ⊘ number 1000)
  as_filled =
      let t : ℕ = 1000 * s + k in
      let u : t ≤ 60000 = omega arith in
      prints (number t ⊘ number 1000) (t * 1) 1000 (lit≤ tt) (omega arith) (div_at binary64 (number t) (number 1000) t 1 1000 1 (pow_pos 0) (pow_pos 0) (lit≤ tt) (number_val t (le_trans u (lit≤ tt))) (number_val 1000 (lit≤ tt))) (nearly_quotient t u)
