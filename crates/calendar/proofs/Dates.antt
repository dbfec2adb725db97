-- Every day to 9999-12-31 has its date. Assumes nothing.
use mathlib.Core.Path.{refl}
use Prim.Native.Nat.{ℕ, ◌≤◌, ◌<◌}
use native.Mathlib.Omega.{arith}
use native.Mathlib.Decide.{dec_lt}
use Rattle.rules.specs.Calendar.{date_after}
use Rattle.calendar.specs.Ranges.{last_day}
use Rattle.calendar.proofs.Counting.{DateOf, only}
use Rattle.calendar.proofs.March.{March, march, month, spring, winter}

taken : (n y m d : ℕ) → DateOf n y m d → DateOf n (date_after n).year (date_after n).month (date_after n).day
taken n y m d h = rw (only n y m d h) h

-- the date counted off for a day exists, and is counted as that day
pub date : (n : ℕ) → n ≤ last_day → DateOf n (date_after n).year (date_after n).month (date_after n).day
date n h = go (march n _ _ _ _ h refl refl refl refl) (dec_lt (month _) 10)
  where
    go : {y x : ℕ} → March n y x → Dec (month x < 10) → DateOf n (date_after n).year (date_after n).month (date_after n).day
    go {y} {x} w (yes l) = taken n _ _ _ (spring n y x w l)
    go {y} {x} w (no l) = taken n _ _ _ (winter n y x w h (omega (arith, l)))
