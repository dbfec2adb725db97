-- Tests of a byte. Assumes nothing.
use Prim.Native.Nat.{ℕ, ◌+◌, ◌≤◌, ◌<◌}
use mathlib.Core.Bool.{true, false}
use mathlib.Core.Logic.{◌≢◌}
use mathlib.Core.Path.{◌≡◌}
use native.Mathlib.Omega.{arith}
use lib.Dec.{leb}
use borrow.Author.Tests.{ne_eqb, leb-true, le-leb}
use Rattle.rules.specs.Basics.{is_digit}
use Rattle.rules.specs.Reading.{space}
use Rattle.text.proofs.Tests.{and_left, and_right}

-- a digit's byte
pub digit_bounds : (b : ℕ) → is_digit b ≡ true → (48 ≤ b) × (b ≤ 57)
digit_bounds b h = (leb-true 48 b (and_left (leb 48 b) (leb b 57) h), leb-true b 57 (and_right (leb 48 b) (leb b 57) h))

pub digit_byte : (d : ℕ) → d < 10 → is_digit (48 + d) ≡ true
digit_byte d h = rw (le-leb 48 (48 + d) (omega arith), le-leb (48 + d) 57 (omega arith))

pub not_space : (b : ℕ) → (b ≢ 9) × (b ≢ 10) × (b ≢ 12) × (b ≢ 13) × (b ≢ 32) → space b ≡ false
not_space b (h, i, j, k, l) = rw (ne_eqb b 9 h, ne_eqb b 10 i, ne_eqb b 12 j, ne_eqb b 13 k, ne_eqb b 32 l)
