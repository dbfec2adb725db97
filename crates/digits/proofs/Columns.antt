-- The n lowest places of a number to a base, the highest first, each shown as f says: rules' `places` is one, `hex` another. Each fact is
-- shown once, over the number of places. Assumes nothing.
use Prim.Native.Nat.{ℕ, zero, suc, ◌/◌, ◌%◌, ◌^◌, ◌<◌}
use mathlib.Core.Path.{◌≡◌, refl, ap, ◌∙◌}
use mathlib.Core.List.{List, [], ◌∷◌, ◌++◌}
use native.Mathlib.Nat.{pow-zero, pow-suc, pow-succ', one-le-pow, div-one, div-div-eq-div-mul, mod-lt}
use lib.ListN.{length}
use lib.Arith.{mod-mul, digits_div, digits_mod}

unfoldable pub column : (ℕ → ℕ) → ℕ → ℕ → ℕ → List ℕ
column f b zero v = []
column f b (suc n) v = f (v / b ^ n % b) ∷ column f b n v

pub length_column : (f : ℕ → ℕ) (b n v : ℕ) → length (column f b n v) ≡ n
unfolding column
length_column f b zero v = refl
length_column f b (suc n) v = ap suc (length_column f b n v)

-- the last place by itself
pub column_last : (f : ℕ → ℕ) (b n v : ℕ) → column f b (suc n) v ≡ column f b n (v / b) ++ (f (v % b) ∷ [])
unfolding column
column_last f b zero v = rw (pow-zero b, div-one v)
column_last f b (suc n) v = rw (pow-succ' b n, ← div-div-eq-div-mul v b (b ^ n), ← column_last f b n v)

-- what lies above the n lowest places does not show
pub column_low : (f : ℕ → ℕ) (b n v : ℕ) → 0 < b → column f b n v ≡ column f b n (v % b ^ n)
column_low f b zero v B = unfold column in refl
column_low f b (suc n) v B =
    let e = ap (λ (x : ℕ). v % x) (pow-suc b n) ∙ mod-mul v (one-le-pow n b B) B in
    let upper = ap (λ (x : ℕ). x / b) e ∙ digits_div (v / b % b ^ n) (mod-lt v B) in
    let lower = ap (λ (x : ℕ). x % b) e ∙ digits_mod (v / b % b ^ n) (mod-lt v B) in
    rw (column_last f b n v, column_last f b n (v % b ^ suc n), upper, lower, column_low f b n (v / b) B)
