-- Signed arithmetic by the sign: each number of ℤ is `pos n` or `negsuc n`, and the rest is of ℕ. Assumes nothing.
use Rattle.std.proofs.Common.{◌≡◌, ℕ, zero, suc, ◌-◌, ◌/◌, ◌^◌, ◌<◌, ◌≤◌, ℤ, pos, negsuc, ◌+ℤ◌, ◌-ℤ◌, refl, ap, arith, w64, SFits, le-ltb, lt-ltb, le-leb}
use native.Mathlib.Decide.{dec_lt}
use borrow.Author.Tests.{lt-leb}
use lib.Ieee.{minus}
use Rattle.std.specs.Int.{int_div_euclid}
use Rattle.rules.specs.Writing.{floor_div}

-- ---- differences
sub_pos : (a b : ℕ) → suc b ≤ a → pos a +ℤ negsuc b ≡ pos (a - suc b)
sub_pos a b h = rw (le-ltb a (suc b) h)

sub_neg : (a b : ℕ) → a ≤ b → pos a +ℤ negsuc b ≡ negsuc (b - a)
sub_neg a b h = rw (lt-ltb a (suc b) (omega arith)) (ap negsuc (omega arith))

pub minus_pos : (a b : ℕ) → b ≤ a → minus a b ≡ pos (a - b)
minus_pos a b h = rw (le-leb b a h)

pub minus_neg : (a b : ℕ) → a < b → minus a b ≡ negsuc (b - suc a)
minus_neg a b h = rw (lt-leb b a h)

pub flip_pos : (n : ℕ) → negsuc 0 -ℤ pos n ≡ negsuc n
flip_pos zero = refl
flip_pos (suc n) = ap negsuc (omega arith)

-- ---- a quotient by 1000, rounded down
-- the quotient whose remainder is not negative is that of the rules
pub euclid_floor : (z : ℤ) → int_div_euclid z (pos 1000) ≡ floor_div z 1000
unfolding floor_div
euclid_floor (pos n) = refl
euclid_floor (negsuc n) = refl

-- ---- the epoch is 210866760000 whole seconds after the start, so the seconds may be taken off after the division
abbrev start : ℕ
start = 9223372036854775808

abbrev epoch : ℕ
epoch = 9223582903614775808

pub floor_epoch : (t : ℕ) → floor_div (minus t start) 1000 -ℤ pos 210866760000 ≡ floor_div (minus t epoch) 1000
unfolding floor_div
floor_epoch t = go (dec_lt t start) (dec_lt t epoch)
  where
    go : Dec (t < start) → Dec (t < epoch) → floor_div (minus t start) 1000 -ℤ pos 210866760000 ≡ floor_div (minus t epoch) 1000
    go (yes a) b = rw (minus_neg t start a, minus_neg t epoch (omega arith)) (ap negsuc (omega arith))
    go (no a) (yes b) = rw (minus_pos t start (omega (arith, a)), minus_neg t epoch b, sub_neg ((t - start) / 1000) 210866759999 (omega arith)) (ap negsuc (omega (arith, a)))
    go (no a) (no b) = rw (minus_pos t start (omega (arith, a)), minus_pos t epoch (omega (arith, b)), sub_pos ((t - start) / 1000) 210866759999 (omega (arith, b))) (ap pos (omega (arith, b)))

pub epoch_fits : (t : ℕ) → t < 2 ^ 64 → SFits w64 (floor_div (minus t epoch) 1000)
unfolding floor_div
epoch_fits t h = go (dec_lt t epoch)
  where
    go : Dec (t < epoch) → SFits w64 (floor_div (minus t epoch) 1000)
    go (yes a) = rw (minus_neg t epoch a) (omega arith)
    go (no a) = rw (minus_pos t epoch (omega (arith, a))) (omega (arith, a))
