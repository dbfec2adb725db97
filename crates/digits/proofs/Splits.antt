-- A number's upper places and its lower ones, beside each other: of a column to any base, and of rules' `places` and `wide`. No answer needs
-- them: they are laws of these definitions. Assumes nothing.
use Prim.Native.Nat.{ℕ, zero, suc, ◌+◌, ◌/◌, ◌%◌, ◌^◌, ◌<◌}
use mathlib.Core.Path.{◌≡◌, sym, ap, ◌∙◌}
use mathlib.Core.List.{[], ◌∷◌, ◌++◌}
use native.Mathlib.Omega.{arith}
use native.Mathlib.Nat.{zero-add, suc-add, div-lt_iff_lt-mul, div-one, div-div-eq-div-mul, mul_comm, one-le-pow, mod-eq_of_lt}
use lib.Dec.{lit<}
use lib.Pow.{pow-add}
use Rattle.rules.specs.Writing.{places, wide}
use Rattle.digits.proofs.Columns.{column}
use Rattle.digits.proofs.Decimal.{digit, places_are, wide_places, wide_low}

-- a quotient by one power, and then by another
div_pow : (b n m v : ℕ) → v / b ^ (n + m) ≡ v / b ^ m / b ^ n
div_pow b n m v = ap (λ (x : ℕ). v / x) (pow-add b n m ∙ mul_comm (b ^ n) (b ^ m)) ∙ sym (div-div-eq-div-mul v (b ^ m) (b ^ n))

-- the upper n places, and the lower m
pub column_split : (f : ℕ → ℕ) (b n m v : ℕ) → column f b (n + m) v ≡ column f b n (v / b ^ m) ++ column f b m v
unfolding column
column_split f b zero m v = rw zero-add
column_split f b (suc n) m v = rw (suc-add n m) (rw (div_pow b n m v, column_split f b n m v))

pub places_split : (n m v : ℕ) → places (n + m) v ≡ places n (v / 10 ^ m) ++ places m v
places_split n m v = rw (places_are (n + m) v, places_are n (v / 10 ^ m), places_are m v) (column_split digit 10 n m v)

-- the n + 1 upper digits of a number, and its m + 1 lower ones
pub wide_split : (n m v : ℕ) → v < 10 ^ suc (n + suc m) → wide (suc (n + suc m)) v ≡ wide (suc n) (v / 10 ^ suc m) ++ wide (suc m) (v % 10 ^ suc m)
wide_split n m v h =
    let up : v / 10 ^ suc m < 10 ^ suc n = (div-lt_iff_lt-mul (one-le-pow (suc m) 10 (lit< tt))).1 (rw (← suc-add n (suc m), pow-add 10 (suc n) (suc m)) at h) in
    let all : wide (suc (n + suc m)) v ≡ places (suc n + suc m) v = wide_places (n + suc m) v h ∙ ap (λ (k : ℕ). places k v) (sym (suc-add n (suc m))) in
    rw (all, wide_places n (v / 10 ^ suc m) up, wide_low m v) (places_split (suc n) (suc m) v)

-- one digit, and two
pub wide_one : (v : ℕ) → v < 10 → wide 1 v ≡ (48 + v) ∷ []
unfolding places
wide_one v h = wide_places 0 v h ∙ rw (div-one v, mod-eq_of_lt h)

pub wide_two : (v : ℕ) → v < 100 → wide 2 v ≡ (48 + v / 10) ∷ (48 + v % 10) ∷ []
wide_two v h = rw (wide_split 0 0 v h, wide_one (v / 10) (omega arith), wide_one (v % 10) (omega arith))
