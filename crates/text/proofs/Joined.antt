-- Digits after digits: as many as two readings take, read at once. No answer needs them: they are laws of rules' `digits_on`. Assumes
-- nothing.
use Prim.Native.Nat.{ℕ, zero, suc, ◌+◌, ◌-◌, ◌*◌, ◌^◌}
use Rattle.std.specs.Prelude.{if◌then◌else◌}
use mathlib.Core.Bool.{Bool, true, false}
use mathlib.Core.Path.{◌≡◌, refl, ap, ◌∙◌}
use mathlib.Core.List.{List, [], ◌∷◌}
use native.Mathlib.Nat.{pow-suc, zero-add, suc-add, add-mul, mul_assoc, mul_right_comm}
use native.Mathlib.Omega.{arith}
use Rattle.rules.specs.Basics.{is_digit, Read, got, other, refuse, ◌>>=◌, digits_on}

abbrev pub adding : ℕ → ℕ × List ℕ → Read (ℕ × List ℕ)
adding k (x, t) = got (k + x, t)

-- a number that stands before the digits
pub digits_on-shift : (n v : ℕ) (l : List ℕ) → digits_on n v l ≡ ◌>>=◌ (digits_on n 0 l) (adding (v * 10 ^ n))
unfolding digits_on
digits_on-shift zero v l = let e : v * 1 + 0 ≡ v = omega arith in rw e
digits_on-shift (suc n) v [] = refl
digits_on-shift (suc n) v (b ∷ l) = rw (digits_on-shift n (v * 10 + (b - 48)) l, digits_on-shift n (0 + (b - 48)) l) (go (is_digit b) (digits_on n 0 l))
  where
    sums : (x : ℕ) → (v * 10 + (b - 48)) * 10 ^ n + x ≡ v * 10 ^ suc n + ((0 + (b - 48)) * 10 ^ n + x)
    sums x =
        rw (pow-suc 10 n, zero-add (b - 48))
        (omega (arith, add-mul (v * 10) (b - 48) (10 ^ n), mul_right_comm v 10 (10 ^ n), mul_assoc v (10 ^ n) 10))

    go : (t : Bool) (r : Read (ℕ × List ℕ)) → (if t then ◌>>=◌ r (adding ((v * 10 + (b - 48)) * 10 ^ n)) else other) ≡ ◌>>=◌ (if t then ◌>>=◌ r (adding ((0 + (b - 48)) * 10 ^ n)) else other) (adding (v * 10 ^ suc n))
    go true (got (x, t)) = ap (λ (y : ℕ). got (y, t)) (sums x)
    go true other = refl
    go true (refuse z) = refl
    go false r = refl

-- n digits, and m more
pub digits_on-join : (n m v : ℕ) (l : List ℕ) → digits_on (n + m) v l ≡ ◌>>=◌ (digits_on n v l) (λ p. ◌>>=◌ (digits_on m 0 p.1) (adding (p.0 * 10 ^ m)))
unfolding digits_on
digits_on-join zero m v l = rw zero-add (digits_on-shift m v l)
digits_on-join (suc n) m v [] = rw suc-add
digits_on-join (suc n) m v (b ∷ l) = rw (suc-add, digits_on-join n m (v * 10 + (b - 48)) l) (go (is_digit b) (digits_on n (v * 10 + (b - 48)) l))
  where
    go : (t : Bool) (r : Read (ℕ × List ℕ)) → (if t then ◌>>=◌ r (λ p. ◌>>=◌ (digits_on m 0 p.1) (adding (p.0 * 10 ^ m))) else other) ≡ ◌>>=◌ (if t then r else other) (λ p. ◌>>=◌ (digits_on m 0 p.1) (adding (p.0 * 10 ^ m)))
    go true r = refl
    go false r = refl

-- four digits, as two and two
module _ (l : List ℕ) where
  pub four_other : digits_on 2 0 l ≡ other → digits_on 4 0 l ≡ other
  four_other h = digits_on-join 2 2 0 l ∙ rw h

  module _ (a : ℕ) (m : List ℕ) (h : digits_on 2 0 l ≡ got (a, m)) where
    pub four_half : digits_on 2 0 m ≡ other → digits_on 4 0 l ≡ other
    four_half k = digits_on-join 2 2 0 l ∙ rw (h, k)

    pub four_got : (b : ℕ) (t : List ℕ) → digits_on 2 0 m ≡ got (b, t) → digits_on 4 0 l ≡ got (a * 100 + b, t)
    four_got b t k = digits_on-join 2 2 0 l ∙ rw (h, k)
