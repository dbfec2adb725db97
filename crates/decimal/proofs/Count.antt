-- "D, the digits written without leading zeros, has at most 19": for any n, at most n exactly where D is below 10 ^ n. (What `run` finds are digits: real's run-digits.)
-- Assumes nothing.
use mathlib.Core.Path.{◌≡◌, refl, sym, ap}
use mathlib.Core.List.{List, [], ◌∷◌}
use mathlib.Core.Logic.{◌↔◌}
use Prim.Native.Nat.{ℕ, suc, ◌+◌, ◌*◌, ◌^◌, ◌≤◌, ◌<◌}
use native.Mathlib.Nat.{le_trans, le_of_eq, lt_of_lt_of_le, lt_of_not-le, not-le_of_lt, add-zero, zero-add, pow-suc, pow-le-pow_right}
use native.Mathlib.Omega.{arith}
use lib.Dec.{lit≤}
use lib.ListN.{length}
use Rattle.rules.specs.Decimal.{value}
use Rattle.real.proofs.Run.{Digits}

-- n digits, and more after them
below : (ds : List ℕ) (v n : ℕ) → Digits ds → v < 10 ^ n → value v ds < 10 ^ (n + length ds)
unfolding value
below [] v n k h = rw add-zero h
below (d ∷ ds) v n k h =
    let p = pow-suc 10 n in
    let e : suc n + length ds ≡ n + suc (length ds) = omega arith in
    rw (ap (λ (x : ℕ). 10 ^ x) e) at (below ds (v * 10 + d) (suc n) k.1 (omega (arith, k.0)))

reaches : (ds : List ℕ) (v n : ℕ) → 10 ^ n ≤ v → 10 ^ (n + length ds) ≤ value v ds
unfolding value
reaches [] v n h = rw add-zero h
reaches (d ∷ ds) v n h =
    let p = pow-suc 10 n in
    let e : suc n + length ds ≡ n + suc (length ds) = omega arith in
    rw (ap (λ (x : ℕ). 10 ^ x) e) at (reaches ds (v * 10 + d) (suc n) (omega arith))

pub leading_zero : (ds : List ℕ) → value 0 (0 ∷ ds) ≡ value 0 ds
unfolding value
leading_zero ds = refl

pub digit_count : (n d : ℕ) (ds : List ℕ) → 0 < d → Digits (d ∷ ds) → (value 0 (d ∷ ds) < 10 ^ n) ↔ (length (d ∷ ds) ≤ n)
unfolding value
digit_count n d ds p k =
    let low : 10 ^ (0 + length ds) ≤ value (0 * 10 + d) ds = reaches ds (0 * 10 + d) 0 (omega arith) in
    let high : value (0 * 10 + d) ds < 10 ^ (1 + length ds) = below ds (0 * 10 + d) 1 k.1 (omega (arith, k.0)) in (
      λ h. lt_of_not-le (λ g. not-le_of_lt h (le_trans (pow-le-pow_right (lit≤ tt) (le_trans g (le_of_eq (sym (zero-add (length ds)))))) low)),
      λ h. lt_of_lt_of_le high (pow-le-pow_right (lit≤ tt) (omega arith)),
    )
