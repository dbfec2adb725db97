-- Signed numbers by signed division: the sizes of numbers below 0 and of others, and the months that one carries over into the years. The
-- code counts months from the year 0 (`move`), as the rules do; SQLite divides, and brings a month below one back into its year: `carried`
-- says that both are the same. Each number of ℤ is `pos n` or `negsuc n`, and the rest is of ℕ. Assumes nothing.
use mathlib.Core.Bool.{Bool, true, false, not}
use mathlib.Core.Path.{◌≡◌, refl, sym, ap, ◌∙◌}
use Prim.Native.Nat.{ℕ, zero, suc, ◌+◌, ◌-◌, ◌*◌, ◌/◌, ◌%◌, ◌^◌, ◌≤◌, ◌<◌}
use native.Mathlib.Numerals.{add-one}
use native.Mathlib.Decide.{dec_lt}
use native.Mathlib.Omega.{arith}
use borrow.Author.Tests.{ltb-true, ltb-false, le-ltb, lt-ltb}
use lib.IntN.{ℤ, pos, negsuc, neg_ℤ, nat_abs, ◌+ℤ◌, ◌-ℤ◌, ◌*ℤ◌, neg_ℤ-neg_ℤ}
use lib.Dec.{T}
use lib.Signed.{lt_z, non_neg, quot_z}
use mir.Syntax.{w64}
use mir.Val.{SFits}
use Rattle.rules.specs.Basics.{move}
use Rattle.rules.specs.Modifiers.{signed}
use Rattle.rules.specs.Writing.{floor_div}
use Rattle.moment.proofs.Branches.{never}
use Rattle.moment.proofs.Ways.{sfits, abs_signed, move_back}

-- ---- the size of a number below 0, as -1 - z and one more, and of one that is not
flip_neg : (n : ℕ) → negsuc 0 -ℤ negsuc n ≡ pos n
flip_neg n = rw (le-ltb (suc n) 1 (omega arith)) (ap pos (omega arith))

pub record Size (z : ℤ) : Type 0 where
  pub size : ℕ
  pub low : size < 2 ^ 63
  pub flipped : negsuc 0 -ℤ z ≡ pos size
  pub is : (z ≡ signed true (size + 1)) × (size + 1 ≡ nat_abs z)

pub below_zero : (z : ℤ) → SFits w64 z → lt_z z (pos 0) ≡ true → Size z
below_zero (pos n) f h = absurd (omega (arith, ltb-true n 0 h))
below_zero (negsuc n) f h = record { size = n; low = f.sfits; flipped = flip_neg n; is = rw (add-one n) (refl, refl) }

pub from_zero : (z : ℤ) → SFits w64 z → lt_z z (pos 0) ≡ false → T (non_neg z) × (nat_abs z < 2 ^ 63) × (z ≡ signed false (nat_abs z))
from_zero (pos n) f h = (tt, f.sfits, refl)
from_zero (negsuc n) f h = never h

pub neg_signed : (b : Bool) (n : ℕ) → neg_ℤ (signed b n) ≡ signed (not b) n
neg_signed false n = refl
neg_signed true n = neg_ℤ-neg_ℤ (pos n)

-- ---- months
one_less : (n : ℕ) → pos (suc n) -ℤ pos 1 ≡ pos n
one_less n = rw (le-ltb (suc n) 1 (omega arith)) (ap pos (omega arith))

less_one : (n : ℕ) → neg_ℤ (pos n) -ℤ pos 1 ≡ negsuc n
less_one zero = refl
less_one (suc n) = ap negsuc (omega arith)

less_year : (n : ℕ) → neg_ℤ (pos n) -ℤ pos 12 ≡ negsuc (n + 11)
less_year zero = refl
less_year (suc n) = ap negsuc (omega arith)

-- the years of a month z from 1 on: the quotient of u = z - 1, and of one below 1: that of u = z - 12
pub record Quotient (u z : ℤ) : Type 0 where
  pub fits : SFits w64 u
  pub quotient_fits : SFits w64 (quot_z u (pos 12))
  pub is : quot_z u (pos 12) ≡ floor_div (z -ℤ pos 1) 12

pub month_up : (z : ℤ) → nat_abs z ≤ 1000000 → lt_z (pos 0) z ≡ true → Quotient (z -ℤ pos 1) z
unfolding floor_div
month_up (pos zero) h t = absurd (omega (arith, ltb-true 0 0 t))
month_up (pos (suc n)) h t = record { fits = rw (one_less n) (omega arith); quotient_fits = rw (one_less n) (omega arith); is = rw (one_less n) }
month_up (negsuc n) h t = never (sym t)

down : (n : ℕ) → n ≤ 1000000 → Quotient (neg_ℤ (pos n) -ℤ pos 12) (neg_ℤ (pos n))
unfolding floor_div
down n h = let q : suc (n + 11) / 12 ≡ suc (n / 12) = omega arith in record { fits = rw (less_year n) (omega arith); quotient_fits = rw (less_year n, q) (omega arith); is = rw (less_year n, less_one n, q) }

pub month_down : (z : ℤ) → nat_abs z ≤ 1000000 → lt_z (pos 0) z ≡ false → Quotient (z -ℤ pos 12) z
month_down (pos zero) h t = down 0 h
month_down (pos (suc n)) h t = absurd (omega (arith, ltb-false 0 (suc n) t))
month_down (negsuc n) h t = down (suc n) h

sum_less : (a b : ℕ) → b < a → pos a +ℤ negsuc b ≡ pos (a - suc b)
sum_less a b h = rw (le-ltb a (suc b) h)

sum_more : (a b : ℕ) → a ≤ b → pos a +ℤ negsuc b ≡ signed true (suc b - a)
sum_more a b h = let e : suc b - a ≡ suc (b - a) = omega arith in rw (lt-ltb a (suc b) (omega arith), e) (ap negsuc (omega arith))

less_sum : (a b : ℕ) → a ≤ b → neg_ℤ (pos a) +ℤ pos b ≡ pos (b - a)
less_sum zero b h = ap pos (omega arith)
less_sum (suc a) b h = rw (le-ltb b (suc a) h)

-- the month z of the year y is of the year y and what it carries over, and so is its number there
pub record Carried (y : ℕ) (z : ℤ) : Type 0 where
  pub small : nat_abs (floor_div (z -ℤ pos 1) 12) ≤ nat_abs z + 1
  pub year : pos y +ℤ floor_div (z -ℤ pos 1) 12 ≡ pos (move (y * 12 - 1) z 1 / 12)
  pub month : z -ℤ (pos 12 *ℤ floor_div (z -ℤ pos 1) 12) ≡ pos (move (y * 12 - 1) z 1 % 12 + 1)

carried_up : (y n : ℕ) → 1 ≤ y → Carried y (pos (suc n))
unfolding floor_div
carried_up y n h =
    let q : (y * 12 - 1 + suc n * 1) / 12 ≡ y + n / 12 = omega arith in
    record {
      small = rw (one_less n) (omega arith);
      year = rw (one_less n, q);
      month = rw (one_less n) (up n (12 * (n / 12)) (omega arith) ∙ ap pos (omega arith));
    }
  where
    up : (n m : ℕ) → m ≤ n → pos (suc n) -ℤ pos m ≡ pos (suc n - m)
    up n zero h = ap pos (omega arith)
    up n (suc m) h = sum_less (suc n) m (omega arith)

carried_down : (y n : ℕ) → suc n ≤ y * 12 → Carried y (neg_ℤ (pos n))
unfolding floor_div
carried_down y n h =
    let q : (y * 12 - 1 - n * 1) / 12 ≡ y - suc (n / 12) = omega arith in
    record {
      small = rw (less_one n) (omega (arith, abs_signed true n));
      year = rw (less_one n, move_back (y * 12 - 1) n 1, q) (sum_less y (n / 12) (omega arith));
      month = rw (less_one n, move_back (y * 12 - 1) n 1, neg_ℤ-neg_ℤ (pos (12 * suc (n / 12)))) (less_sum n (12 * suc (n / 12)) (omega arith) ∙ ap pos (omega arith));
    }

pub carried : (y : ℕ) (z : ℤ) → suc (nat_abs z) ≤ y * 12 → Carried y z
carried y (pos zero) h = carried_down y 0 h
carried y (pos (suc n)) h = carried_up y n (omega arith)
carried y (negsuc n) h = carried_down y (suc n) h

-- the month m of the year y, moved by z
pub month_number : (y m : ℕ) (z : ℤ) → 1 ≤ m → suc (nat_abs z) ≤ y * 12 → move (y * 12 - 1) (pos m +ℤ z) 1 ≡ move (y * 12 + (m - 1)) z 1
month_number y m (pos n) h l = omega arith
month_number y m (negsuc n) h l = go (dec_lt n m)
  where
    go : Dec (n < m) → move (y * 12 - 1) (pos m +ℤ negsuc n) 1 ≡ move (y * 12 + (m - 1)) (negsuc n) 1
    go (yes k) = rw (sum_less m n k) (omega arith)
    go (no k) = rw (sum_more m n (omega (arith, k))) (move_back (y * 12 - 1) (suc n - m) 1 ∙ omega (arith, k))

pub sum_abs : (m : ℕ) (z : ℤ) → nat_abs (pos m +ℤ z) ≤ m + nat_abs z
sum_abs m (pos n) = omega arith
sum_abs m (negsuc n) = go (dec_lt n m)
  where
    go : Dec (n < m) → nat_abs (pos m +ℤ negsuc n) ≤ m + suc n
    go (yes k) = rw (sum_less m n k) (omega arith)
    go (no k) = rw (sum_more m n (omega (arith, k))) (omega (arith, abs_signed true (suc n - m)))

pub months_fit : (x : ℤ) → nat_abs x ≤ 176558 → SFits w64 (pos 12 *ℤ x)
months_fit (pos n) h = omega arith
months_fit (negsuc n) h = sfits (signed true (12 * suc n)) (rw (abs_signed true (12 * suc n)) (omega arith))

pub number_high : (y : ℕ) (z : ℤ) → y ≤ 49999 → nat_abs z ≤ 176557 → move (y * 12 - 1) z 1 / 12 ≤ 70000
number_high y (pos n) h k = omega arith
number_high y (negsuc n) h k = omega arith
