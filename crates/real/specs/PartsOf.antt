-- The magnitude of x is digits / 2 ^ shift.
use Rattle.std.specs.Prelude.{◌≡◌, ℕ, ◌*◌, ◌^◌, ◌<◌, Float}
use Rattle.std.specs.Float.Ieee.Positive.{num, den}

pub record PartsOf (x : Float) (digits shift : ℕ) : Type 0 where
  pub is : num x * 2 ^ shift ≡ digits * den x
  pub small : digits < 2 ^ 53
