-- The numbers in a line.
use Rattle.std.specs.Prelude.{if◌then◌else◌, ℕ, ◌+◌, ◌-◌, ◌*◌, ◌%◌, ◌^◌, ◌&&◌, List, [], ◌∷◌, Option, Some, None, drop, leb, ℤ, pos, neg_ℤ, Float, from_bits}
use Rattle.std.specs.Option.{unwrap_or}
use Rattle.std.specs.Float.{binary64}
use Rattle.std.specs.Float.Ieee.{is_nan, to_bits}
use Rattle.std.specs.Io.BufRead.{drop_through}
use Rattle.rules.specs.Basics.{ascii, is_digit}
use Rattle.rules.specs.Program.{hex}
use Rattle.text.specs.Places.{begins}

-- the number that the digits at the front write, after those that wrote n, as far as it is within a limit
unfoldable pub number_on : ℕ → ℕ → List ℕ → ℕ
number_on limit n [] = n
number_on limit n (b ∷ s) = let more = n * 10 + (b - 48) in if is_digit b && leb more limit then number_on limit more s else n

abbrev pub number : ℕ → List ℕ → ℕ
number limit s = number_on limit 0 s

-- the value of a hexadecimal digit with a small letter
abbrev pub hex_value : ℕ → Option ℕ
hex_value b = if leb 48 b && leb b 57 then Some (b - 48) else if leb 97 b && leb b 102 then Some (b - 87) else None

-- the bits that the last sixteen of such digits write, after those that wrote n; any other byte is a zero
abbrev pub bits_on : ℕ → List ℕ → ℕ
bits_on n [] = n
bits_on n (b ∷ s) = bits_on (n % 16 ^ 15 * 16 + unwrap_or (hex_value b) 0) s

abbrev pub bits : List ℕ → ℕ
bits s = bits_on 0 s

-- the f64 of those bits
abbrev pub float_of : List ℕ → Float
float_of s = from_bits binary64 (bits s)

-- how an f64 is written
abbrev pub float_text : Float → List ℕ
float_text x = if is_nan x then ascii "nan" else hex 16 (to_bits binary64 x)

-- a number with a minus before it or not
abbrev pub signed : ℕ → List ℕ → ℤ
signed limit s = if begins 45 s then neg_ℤ (pos (number limit (drop 1 s))) else pos (number limit s)

-- the first line's offset: what stands after the first zero byte, which was a tab
abbrev pub offset_in : List ℕ → ℤ
offset_in line = signed 86399 (drop_through 0 line)
