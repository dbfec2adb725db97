-- Numbers in decimal: rules' `places`, `width` and `wide`, over the number of places. Assumes nothing.
use Prim.Native.Nat.{ℕ, zero, suc, ◌+◌, ◌-◌, ◌*◌, ◌/◌, ◌%◌, ◌^◌, ◌≤◌, ◌<◌, max}
use Rattle.std.specs.Prelude.{if◌then◌else◌}
use mathlib.Core.Bool.{Bool, true, false}
use mathlib.Core.Path.{◌≡◌, refl, sym, ap, ◌∙◌}
use mathlib.Core.List.{List, ◌∷◌}
use native.Mathlib.Omega.{arith}
use native.Mathlib.Nat.{pow-suc, div-lt_iff_lt-mul, mod-lt, one-le-pow, pow-le-pow_right}
use native.Mathlib.Decide.{dec_lt}
use borrow.Author.Tests.{lt-ltb, le-ltb}
use lib.Dec.{ltb, lit<}
use lib.ListN.{length}
use Rattle.rules.specs.Writing.{places, width, wide}
use Rattle.digits.proofs.Columns.{column, length_column, column_low}

abbrev pub digit : ℕ → ℕ
digit d = 48 + d

pub places_are : (n v : ℕ) → places n v ≡ column digit 10 n v
unfolding places column
places_are zero v = refl
places_are (suc n) v = ap (λ (l : List ℕ). (48 + v / 10 ^ n % 10) ∷ l) (places_are n v)

pub length_places : (n v : ℕ) → length (places n v) ≡ n
length_places n v = ap length (places_are n v) ∙ length_column digit 10 n v

pub places_low : (n v : ℕ) → places n v ≡ places n (v % 10 ^ n)
places_low n v = places_are n v ∙ column_low digit 10 n v (lit< tt) ∙ sym (places_are n (v % 10 ^ n))

-- a tenth of a number of n + 1 digits has n
pub tenth : (n v : ℕ) → v < 10 ^ suc n → v / 10 < 10 ^ n
tenth n v h = (div-lt_iff_lt-mul (lit< tt)).1 (rw (pow-suc 10 n) at h)

pub tenth_below : (n v : ℕ) → 0 < n → v < 10 ^ n → v / 10 < 10 ^ (n - 1)
tenth_below zero v l h = absurd (omega arith)
tenth_below (suc n) v l h = let e : suc n - 1 ≡ n = omega arith in rw e (tenth n v h)

-- as many digits as a number below a power of ten has
pub width_most : (k n v : ℕ) → v < 10 ^ suc n → width k v ≤ suc n
unfolding width
width_most zero n v h = omega arith
width_most (suc k) zero v h = rw (lt-ltb v 10 h) (omega arith)
width_most (suc k) (suc n) v h = go (width_most k n (v / 10) (tenth (suc n) v h)) (ltb v 10)
  where
    go : width k (v / 10) ≤ suc n → (b : Bool) → (if b then 1 else suc (width k (v / 10))) ≤ suc (suc n)
    go ih true = omega arith
    go ih false = omega arith

pub wide_places : (n v : ℕ) → v < 10 ^ suc n → wide (suc n) v ≡ places (suc n) v
unfolding wide
wide_places n v h = let w = width_most 19 n v h in let e : max (suc n) (width 19 v) ≡ suc n = omega arith in ap (λ (k : ℕ). places k v) e

-- the same, of any number of digits but none
pub wide_exactly : (n v : ℕ) → 0 < n → v < 10 ^ n → wide n v ≡ places n v
wide_exactly zero v l h = absurd (omega arith)
wide_exactly (suc n) v l h = wide_places n v h

-- the m + 1 lowest digits of any number
pub wide_low : (m v : ℕ) → wide (suc m) (v % 10 ^ suc m) ≡ places (suc m) v
wide_low m v = wide_places m (v % 10 ^ suc m) (mod-lt v (one-le-pow (suc m) 10 (lit< tt))) ∙ sym (places_low (suc m) v)

pub length_wide : (n v : ℕ) → length (wide n v) ≡ max n (width 19 v)
unfolding wide
length_wide n v = length_places (max n (width 19 v)) v

pub length_exact : (n v : ℕ) → v < 10 ^ suc n → length (wide (suc n) v) ≡ suc n
length_exact n v h = ap length (wide_places n v h) ∙ length_places (suc n) v

pub length_most : (m n v : ℕ) → m ≤ suc n → v < 10 ^ suc n → length (wide m v) ≤ suc n
length_most m n v k h = omega (arith, length_wide m v, width_most 19 n v h)

pub wide_length : (n v : ℕ) → places (length (wide n v)) v ≡ wide n v
unfolding wide
wide_length n v = ap (λ (k : ℕ). places k v) (length_places (max n (width 19 v)) v)

-- ---- how many digits a number has
pub width_one : (k v : ℕ) → v < 10 → width k v ≡ 1
unfolding width
width_one zero v h = refl
width_one (suc k) v h = rw (lt-ltb v 10 h)

pub width_more : (k v : ℕ) → 10 ≤ v → width (suc k) v ≡ suc (width k (v / 10))
unfolding width
width_more k v h = rw (le-ltb v 10 h)

-- by the power of ten below it
pub width_is : (k n v : ℕ) → n ≤ k → 10 ^ n ≤ max v 1 → v < 10 * 10 ^ n → width k v ≡ suc n
width_is k zero v l low high = width_one k v (omega arith)
width_is zero (suc n) v l low high = absurd (omega arith)
width_is (suc k) (suc n) v l low high =
    let e = pow-suc 10 n in
    let p = one-le-pow n 10 (lit< tt) in
    let few : 10 ≤ v = omega arith in
    width_more k v few ∙ ap suc (width_is k n (v / 10) (omega arith) (omega arith) (omega arith))

-- its digits show it whole
width_fits : (k v : ℕ) → v < 10 ^ suc k → v < 10 ^ width k v
width_fits zero v h = rw (width_one 0 v (omega arith)) (omega arith)
width_fits (suc k) v h = go (dec_lt v 10) (width_fits k (v / 10) (tenth (suc k) v h))
  where
    go : Dec (v < 10) → v / 10 < 10 ^ width k (v / 10) → v < 10 ^ width (suc k) v
    go (yes l) rest = rw (width_one (suc k) v l) l
    go (no l) rest =
        let few : 10 ≤ v = omega (arith, l) in
        rw (width_more k v few, pow-suc 10 (width k (v / 10))) (omega arith)

pub wide_fits : (n v : ℕ) → v < 10 ^ 20 → v < 10 ^ length (wide n v)
wide_fits n v h =
    let longer : width 19 v ≤ length (wide n v) = omega (arith, length_wide n v) in
    omega (arith, width_fits 19 v h, pow-le-pow_right {n = 10} (lit< tt) longer)

width_some : (k v : ℕ) → 0 < width k v
unfolding width
width_some zero v = omega arith
width_some (suc k) v = go (ltb v 10)
  where
    go : (b : Bool) → 0 < (if b then 1 else suc (width k (v / 10)))
    go true = omega arith
    go false = omega arith

pub wide_some : (n v : ℕ) → 0 < length (wide n v)
wide_some n v = omega (arith, length_wide n v, width_some 19 v)
