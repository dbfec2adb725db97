-- What the readers hand each other: numbers held up to the last of 64 bits.
use Rattle.std.specs.Prelude.{if◌then◌else◌, ◌≡◌, Bool, List, ℕ, ◌+◌, min, Float, length}
use Rattle.rules.specs.Basics.{Read, got, other, refuse}
use Rattle.rules.specs.Decimal.{value, nearest_to}
use Rattle.decimal.specs.declared.Digits.{Digits}

-- a number that digits write: up to 2 ^ 64 - 1 itself, and from there on that
abbrev pub held : ℕ → ℕ
held n = min n 18446744073709551615

-- digits, and what follows them, of which the code holds the number, the count and the rest
pub record Taken (of : List ℕ × List ℕ) (before : ℕ) (d : Digits) : Type 0 where
  pub number : d.value ≡ held (value before of.0)
  pub many : d.count ≡ length of.0
  pub follows : d.rest.now ≡ of.1

-- an exponent, its magnitude held
abbrev pub held_exponent : Read (Bool × ℕ) → Read (Bool × ℕ)
held_exponent (got x) = got (x.0, held x.1)
held_exponent other = other
held_exponent (refuse r) = refuse r

-- the number of the digits d with an exponent, where so many of them stand after the point
abbrev pub scaled : Bool → ℕ → ℕ → Bool × ℕ → Read Float
scaled minus d tenths x = nearest_to minus d (if x.0 then 0 else x.1) (tenths + (if x.0 then x.1 else 0))
