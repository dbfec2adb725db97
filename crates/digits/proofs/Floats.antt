-- The texts of f64: seconds with three decimals. Assumes nothing.
use Prim.Native.Nat.{ℕ, ◌/◌, ◌≤◌, ◌<◌}
use mathlib.Core.Path.{◌≡◌}
use mathlib.Core.List.{[], ◌∷◌, ◌++◌, append_assoc}
use lib.Ieee.{Float}
use Rattle.rules.specs.Calendar.{unix_epoch}
use Rattle.rules.specs.Floats.{decimals}
use Rattle.rules.specs.Writing.{places, wide, three_decimals, unix_real}
use Rattle.real.proofs.Epoch.{unix_plus, unix_minus}
use Rattle.digits.specs.Writers.{unix_decimals}

-- by the thousandths
pub three_is : (n : ℕ) (x : Float) (t : ℕ) → t ≡ decimals 3 x → three_decimals n x ≡ wide n (t / 1000) ++ (46 ∷ places 3 t)
unfolding three_decimals
three_is n x t e = rw e (append_assoc (wide n (decimals 3 x / 1000)) (46 ∷ []) (places 3 (decimals 3 x)))

pub unix_is_minus : (ms t : ℕ) → ms < unix_epoch → t ≡ decimals 3 (unix_real ms) → unix_decimals ms ≡ (45 ∷ wide 1 (t / 1000)) ++ (46 ∷ places 3 t)
unix_is_minus ms t h e = rw (unix_minus ms h, three_is 1 (unix_real ms) t e)

pub unix_is_plain : (ms t : ℕ) → unix_epoch ≤ ms → t ≡ decimals 3 (unix_real ms) → unix_decimals ms ≡ wide 1 (t / 1000) ++ (46 ∷ places 3 t)
unix_is_plain ms t h e = rw (unix_plus ms h, three_is 1 (unix_real ms) t e)
