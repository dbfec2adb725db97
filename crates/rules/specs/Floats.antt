-- f64: IEEE 754's binary64, as lib.Ieee defines it. Here only short names, so that a formula reads as document 01 writes it.
use Rattle.std.specs.Prelude.{ℕ, ◌*◌, ◌^◌, Bool, false, ◌&&◌, ℤ, pos, Float}
use Rattle.std.specs.Float.{nan, inf, fin, binary64}
use Rattle.std.specs.Float.Ieee.{add, sub, mul, div, neg, lt, le, of_int, round, to_signed, to_unsigned}
use Rattle.std.specs.Float.Ieee.Nearest.{closest}
use Rattle.std.specs.Float.Ieee.Positive.{num, den}

-- a whole number as an f64: `number 1000` is Rust's 1000.0
abbrev pub number : ℕ → Float
number n = of_int binary64 (pos n)

-- the f64 nearest to a / b: `ratio 999 1000` is Rust's 0.999
abbrev pub ratio : ℕ → ℕ → Float
ratio a b = round binary64 false a b

-- a sum, a difference, a product, a quotient, each rounded once
infixl 60 ◌⊕◌ ◌⊖◌
infixl 61 ◌⊗◌ ◌⊘◌
abbrev pub ◌⊕◌ : Float → Float → Float
x ⊕ y = add binary64 x y

abbrev pub ◌⊖◌ : Float → Float → Float
x ⊖ y = sub binary64 x y

abbrev pub ◌⊗◌ : Float → Float → Float
x ⊗ y = mul binary64 x y

abbrev pub ◌⊘◌ : Float → Float → Float
x ⊘ y = div binary64 x y

abbrev pub half : Float
half = ratio 1 2

-- "cut": toward zero, with a sign; and of what is not negative
abbrev pub cut : Float → ℤ
cut x = to_signed 63 x

abbrev pub whole : Float → ℕ
whole x = to_unsigned 64 x

-- whether low ≤ x < high: false for NaN
abbrev pub within : Float → Float → Float → Bool
within low x high = le low x && lt x high

-- "magnitude strictly below": false for NaN
abbrev pub below : Float → Float → Bool
below x limit = lt (neg limit) x && lt x limit

-- x in units of 1 / 10 ^ n, the nearest whole number, "ties to even"; the sign is left out
abbrev pub decimals : ℕ → Float → ℕ
decimals n x = closest (num x * 10 ^ n) (den x)

abbrev pub negative : Float → Bool
negative nan = false
negative (inf s) = s
negative (fin s m e) = s
