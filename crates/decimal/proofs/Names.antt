-- The f64s that have names.
use Rattle.std.proofs.Common.{◌≡◌, Bool, true, false, if◌then◌else◌, refl}
use lib.Ieee.{nan, inf, binary64, of_bits, neg}

pub infinite : (minus : Bool) → (if minus then neg (of_bits binary64 0x7ff0_0000_0000_0000) else of_bits binary64 0x7ff0_0000_0000_0000) ≡ inf minus
unfolding neg of_bits
infinite true = refl
infinite false = refl

pub no_number : of_bits binary64 0x7ff8_0000_0000_0000 ≡ nan
unfolding of_bits
no_number = refl
