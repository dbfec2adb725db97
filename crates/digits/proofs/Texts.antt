-- The texts of rules that have several forms, each form by its condition. Assumes nothing.
use Prim.Native.Nat.{ℕ, ◌-◌, ◌%◌, ◌≤◌, ◌<◌}
use mathlib.Core.Path.{◌≡◌}
use mathlib.Core.List.{◌∷◌}
use native.Mathlib.Omega.{arith}
use borrow.Author.Tests.{lt-ltb, le-ltb, le-leb, lt-leb, eq-eqb, ne_eqb}
use Rattle.rules.specs.Writing.{wide, spaced, signed_year, year_short}

pub spaced_one : (v : ℕ) → v < 10 → spaced v ≡ 32 ∷ wide 1 v
unfolding spaced
spaced_one v h = rw (lt-ltb v 10 h)

pub spaced_two : (v : ℕ) → 10 ≤ v → spaced v ≡ wide 2 v
unfolding spaced
spaced_two v h = rw (le-ltb v 10 h)

pub year_plain : (k y : ℕ) → 40000 ≤ y → signed_year k y ≡ wide 4 (y - 40000)
unfolding signed_year
year_plain k y h = rw (le-leb 40000 y h)

pub year_minus : (k y : ℕ) → y < 40000 → signed_year k y ≡ 45 ∷ wide k (40000 - y)
unfolding signed_year
year_minus k y h = rw (lt-leb 40000 y h)

pub short_plain : (y : ℕ) → 40000 ≤ y → year_short y ≡ wide 2 ((y - 40000) % 100)
unfolding year_short
short_plain y h = rw (le-leb 40000 y h)

pub short_century : (y : ℕ) → y < 40000 → (40000 - y) % 100 ≡ 0 → year_short y ≡ wide 2 0
unfolding year_short
short_century y h z = let none : (y - 40000) % 100 ≡ 0 = omega arith in rw (lt-leb 40000 y h, eq-eqb ((40000 - y) % 100) 0 z, none)

pub short_minus : (y : ℕ) → y < 40000 → ((40000 - y) % 100 ≡ 0 → ⊥) → year_short y ≡ 45 ∷ wide 1 ((40000 - y) % 100)
unfolding year_short
short_minus y h n = rw (lt-leb 40000 y h, ne_eqb ((40000 - y) % 100) 0 n)
