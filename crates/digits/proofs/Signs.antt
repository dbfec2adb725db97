-- Signed numbers by their sign. Assumes nothing.
use Prim.Native.Nat.{ℕ}
use mathlib.Core.Bool.{true, false}
use mathlib.Core.Path.{◌≡◌, refl, sym, ap, ◌∙◌}
use mathlib.Core.List.{◌∷◌}
use native.Mathlib.Omega.{arith}
use borrow.Author.Tests.{ltb-true}
use lib.IntN.{ℤ, pos, negsuc, nat_abs}
use lib.Signed.{lt_z}
use mir.Syntax.{w64}
use mir.Val.{SFits, to_z, of_z}
use mir.ValLaws.{to_z-of_z}
use Rattle.rules.specs.Writing.{wide, integer_text}

-- the machine's test, of the number itself
below : (z : ℤ) → SFits w64 z → lt_z (to_z w64 (of_z w64 z)) (pos 0) ≡ true → lt_z z (pos 0) ≡ true
below z f h = rw (to_z-of_z w64 z f) at h

above : (z : ℤ) → SFits w64 z → lt_z (to_z w64 (of_z w64 z)) (pos 0) ≡ false → lt_z z (pos 0) ≡ false
above z f h = rw (to_z-of_z w64 z f) at h

-- a number's text, by that test and the magnitude that the machine has
module _ (z : ℤ) (f : SFits w64 z) (k : ℕ) (e : k ≡ nat_abs (to_z w64 (of_z w64 z))) where
  pub minus_text : lt_z (to_z w64 (of_z w64 z)) (pos 0) ≡ true → integer_text z ≡ 45 ∷ wide 1 k
  minus_text h = go z (below z f h) ∙ ap (λ (n : ℕ). 45 ∷ wide 1 n) (sym (e ∙ ap nat_abs (to_z-of_z w64 z f)))
    where
      go : (z : ℤ) → lt_z z (pos 0) ≡ true → integer_text z ≡ 45 ∷ wide 1 (nat_abs z)
      go (pos n) h = absurd (omega (arith, ltb-true n 0 h))
      go (negsuc n) h = unfold integer_text in refl

  pub plain_text : lt_z (to_z w64 (of_z w64 z)) (pos 0) ≡ false → integer_text z ≡ wide 1 k
  plain_text h = go z (above z f h) ∙ ap (wide 1) (sym (e ∙ ap nat_abs (to_z-of_z w64 z f)))
    where
      go : (z : ℤ) → lt_z z (pos 0) ≡ false → integer_text z ≡ wide 1 (nat_abs z)
      go (pos n) h = unfold integer_text in refl
      go (negsuc n) h = absurd (let z : ◌≡◌ {A = ℕ} 0 1 = cc in omega arith)
