-- `calendar::days_to` meets its contract.
use mathlib.Core.Path.{◌≡◌, refl}
use Prim.Native.Nat.{ℕ, suc, ◌+◌, ◌-◌, ◌*◌, ◌/◌, ◌≤◌}
use native.Mathlib.Omega.{arith}
use Rattle.rules.specs.Calendar.{minus_year, years, day_of_year, days_to}
use Rattle.calendar.specs.Ranges.{last_day, Countable}
use Rattle.calendar.proofs.Years.{closed, days_high}
use Rattle.calendar.proofs.days_to.Goals as goal

-- the code's sum, with each quotient a variable
sum : (y Y a b c : ℕ) → b ≤ a → Y + b + 12888312 ≡ 365 * y + a + c → (12888312 ≤ 365 * y + a - b + c) × (365 * y + a - b + c - 12888312 ≡ Y)
sum y Y a b c h e = omega arith

before : (y : ℕ) → minus_year 4713 ≤ y → (12888312 ≤ 365 * y + (y - 1) / 4 - (y - 1) / 100 + (y - 1) / 400) × (365 * y + (y - 1) / 4 - (y - 1) / 100 + (y - 1) / 400 - 12888312 ≡ years (y - minus_year 4713))
before y h =
    let e : suc (y - 1) ≡ y = omega arith in
    sum y _ _ _ _ (omega arith) (rw e at (closed (y - 1) (omega arith)))

total : (y m d r : ℕ) → Countable y m d → r ≡ day_of_year y m d → let n = 365 * y + (y - 1) / 4 - (y - 1) / 100 + (y - 1) / 400 - 12888312 + r in (n ≡ days_to y m d) × (n ≤ last_day)
unfolding days_to
total y m d r h e = rw ((before y h.year_low).1, e) (refl, days_high y m d h)

pub overflow_sub-result-2 : goal.overflow_sub-result-2
overflow_sub-result-2 c = (before _ c.requires.year_low).0

pub returns : goal.returns
returns c = total _ _ _ _ c.requires c.day_of_year.ensures.0
