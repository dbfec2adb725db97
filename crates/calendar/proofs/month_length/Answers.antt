-- `calendar::month_length` meets its contract.
use mathlib.Core.Path.{◌≡◌, refl, ◌∙◌, ap}
use Rattle.std.specs.Int.{from_bool}
use mathlib.Core.List.{[], ◌∷◌}
use Prim.Native.Nat.{ℕ, ◌-◌, ◌≤◌}
use lib.ListN.{get_or}
use Rattle.rules.specs.Calendar.{leap, month_length, month_lengths, common_row, leap_row}
use Rattle.calendar.proofs.Years.{row, month_low, month_high}
use Rattle.calendar.proofs.month_length.Goals as goal

-- the code's table is that of the rules
entry : (y m r l : ℕ) → 1 ≤ m → m ≤ 12 → r ≡ from_bool (leap y) → l ≡ get_or (get_or (common_row ∷ leap_row ∷ []) r []) (m - 1) 0 → (l ≡ month_length y m) × (28 ≤ l) × (l ≤ 31)
unfolding month_length month_lengths
entry y m r l low high e f = rw (f, row y r common_row leap_row e) (refl, month_low y m low high, month_high y m low high)

pub returns : goal.returns
returns c = entry _ _ _ _ c.requires.0 c.requires.1 (c.from.ensures ∙ ap from_bool c.is_leap.ensures) c.from-2.ensures
