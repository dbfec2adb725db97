-- `real::parts_of` meets its contract: by the fields of the bit pattern. Assumes nothing.
use Rattle.std.proofs.Common.{◌*◌, ◌/◌, ◌%◌, ◌^◌, ◌<◌, ◌≤◌, ◌≡◌, true, T, sym, subst, zero-le, le_antisymm, lit≤}
use Rattle.rules.specs.Floats.{number, below}
use lib.Ieee.{Float, binary64, fits, to_bits}
use lib.Ieee.Positive.{num, den}
use Rattle.real.proofs.Within.{Finite}
use Rattle.real.proofs.Tests.{below_number, not_nan, is_finite_lem}
use Rattle.real.proofs.Decode.{field_le, parts_normal, parts_small}
use Rattle.real.proofs.parts_of.Goals as goal

held : (x : Float) → below x (number 9007199254740992) ≡ true → Finite x × (num x < 2 ^ 53 * den x)
held x h = below_number x (2 ^ 53) (lit≤ tt) h

field : (x : Float) → fits binary64 x ≡ true → below x (number 9007199254740992) ≡ true → to_bits binary64 x % 2 ^ 63 / 2 ^ 52 ≤ 1075
field x f h = let k = held x h in field_le x (subst T (sym f) tt) (is_finite_lem k.0) k.1

pub float_to_bits-bits : goal.float_to_bits-bits
float_to_bits-bits c = not_nan (held _ c.requires).0

pub overflow_sub-result : goal.overflow_sub-result
overflow_sub-result c = field _ c.well_formed.0.1 c.requires

pub returns-then-exponent-gt0 : goal.returns-then-exponent-gt0
returns-then-exponent-gt0 c = parts_normal _ (subst T (sym c.well_formed.0.1) tt) (is_finite_lem (held _ c.requires).0) c.if-exponent-gt0.true (field _ c.well_formed.0.1 c.requires)

pub returns-else-exponent-gt0 : goal.returns-else-exponent-gt0
returns-else-exponent-gt0 c = parts_small _ (subst T (sym c.well_formed.0.1) tt) (is_finite_lem (held _ c.requires).0) (le_antisymm c.if-exponent-gt0.false zero-le)
