-- Numbers in hexadecimal. Assumes nothing.
use Prim.Native.Nat.{ℕ, zero, suc, ◌/◌, ◌%◌, ◌^◌}
use mathlib.Core.Path.{◌≡◌, refl, ap, ◌∙◌}
use mathlib.Core.List.{List, ◌∷◌}
use lib.ListN.{length}
use Rattle.rules.specs.Program.{hex}
use Rattle.digits.specs.Writers.{hex_digit}
use Rattle.digits.proofs.Columns.{column, length_column}

pub hex_is : (n v : ℕ) → hex n v ≡ column hex_digit 16 n v
unfolding hex column
hex_is zero v = refl
hex_is (suc n) v = ap (λ (l : List ℕ). hex_digit (v / 16 ^ n % 16) ∷ l) (hex_is n v)

pub length_hex : (n v : ℕ) → length (hex n v) ≡ n
length_hex n v = ap length (hex_is n v) ∙ length_column hex_digit 16 n v
