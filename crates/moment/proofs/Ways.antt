-- Numbers with a sign: `signed`, `move`, and what the machine makes of them. Each number of ℤ is `pos n` or `negsuc n`, and the rest is of
-- ℕ. Assumes nothing.
use mathlib.Core.Bool.{Bool, true, false}
use mathlib.Core.Path.{◌≡◌, refl, sym, ap, ◌∙◌}
use Prim.Native.Nat.{ℕ, zero, suc, ◌+◌, ◌-◌, ◌*◌, ◌%◌, ◌^◌, ◌≤◌, ◌<◌}
use native.Mathlib.Nat.{mul-one}
use native.Mathlib.Omega.{arith}
use borrow.Author.Tests.{lt-ltb}
use lib.IntN.{ℤ, pos, negsuc, neg_ℤ, nat_abs, ◌-ℤ◌, ◌*ℤ◌}
use mir.Syntax.{w64}
use mir.Val.{SFits, to_z, of_z}
use mir.ValLaws.{to_z-of_z}
use Rattle.rules.specs.Basics.{move}
use Rattle.rules.specs.Modifiers.{signed}

-- ---- what the machine reads back
pub sfits : (z : ℤ) → nat_abs z < 2 ^ 63 → SFits w64 z
sfits (pos n) h = record { sfits = h }
sfits (negsuc n) h = record { sfits = omega arith }

pub back : (z : ℤ) → nat_abs z < 2 ^ 63 → to_z w64 (of_z w64 z) ≡ z
back z h = to_z-of_z w64 z (sfits z h)

pub back_pos : (n : ℕ) → n < 2 ^ 63 → to_z w64 n ≡ pos n
back_pos n h = to_z-of_z w64 (pos n) (record { sfits = h })

pub negated : (n : ℕ) → pos 0 -ℤ pos n ≡ signed true n
negated zero = refl
negated (suc n) = rw (lt-ltb 0 (suc n) (omega arith)) (ap negsuc (omega arith))

-- ---- so far, one way or the other
pub abs_signed : (b : Bool) (n : ℕ) → nat_abs (signed b n) ≡ n
abs_signed false n = refl
abs_signed true zero = refl
abs_signed true (suc n) = refl

pub abs_neg : (z : ℤ) → nat_abs (neg_ℤ z) ≡ nat_abs z
abs_neg (pos n) = abs_signed true n
abs_neg (negsuc n) = refl

pub move_back : (a n k : ℕ) → move a (signed true n) k ≡ a - n * k
move_back a zero k = omega arith
move_back a (suc n) k = refl

pub move_times : (a : ℕ) (b : Bool) (n k : ℕ) → move a (signed b n) k ≡ move a (signed b (n * k)) 1
move_times a false n k = ap (λ (m : ℕ). a + m) (sym (mul-one (n * k)))
move_times a true n k = move_back a n k ∙ ap (λ (m : ℕ). a - m) (sym (mul-one (n * k))) ∙ sym (move_back a (n * k) 1)

pub move_product : (a : ℕ) (z : ℤ) (k : ℕ) → move a z k ≡ move a (z *ℤ pos k) 1
move_product a (pos n) k = move_times a false n k
move_product a (negsuc n) k = move_times a true (suc n) k

pub abs_product : (z : ℤ) (k : ℕ) → nat_abs (z *ℤ pos k) ≡ nat_abs z * k
abs_product (pos n) k = refl
abs_product (negsuc n) k = abs_signed true (suc n * k)

-- what `wrapping_add_signed` makes of it, where the sum fits
pub move_wraps : (a : ℕ) (z : ℤ) → nat_abs z ≤ a → a + nat_abs z < 2 ^ 64 → (a + of_z w64 z) % 2 ^ 64 ≡ move a z 1
move_wraps a (pos n) l h = omega arith
move_wraps a (negsuc n) l h = omega arith

pub back_minus : (n : ℕ) → n < 2 ^ 63 → to_z w64 (of_z w64 (pos 0 -ℤ to_z w64 n)) ≡ signed true n
back_minus n h = rw (back_pos n h, negated n) (back (signed true n) (rw (abs_signed true n) h))

minus_is : (z : ℤ) → pos 0 -ℤ z ≡ neg_ℤ z
minus_is (pos n) = negated n
minus_is (negsuc n) = ap pos (omega arith)

-- seconds as milliseconds, and the other way
pub back_seconds : (z : ℤ) → nat_abs z ≤ 86399 → to_z w64 (of_z w64 (to_z w64 (of_z w64 z) *ℤ pos 1000)) ≡ z *ℤ pos 1000
back_seconds z h = rw (back z (omega arith)) (back (z *ℤ pos 1000) (omega (arith, abs_product z 1000)))

pub back_minus_seconds : (z : ℤ) → nat_abs z ≤ 86399 → to_z w64 (of_z w64 (to_z w64 (of_z w64 (pos 0 -ℤ to_z w64 (of_z w64 z))) *ℤ pos 1000)) ≡ neg_ℤ z *ℤ pos 1000
back_minus_seconds z h = rw (back z (omega arith), minus_is z) (back_seconds (neg_ℤ z) (omega (arith, abs_neg z)))
