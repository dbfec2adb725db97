-- `calendar::day_of_year` meets its contract.
use mathlib.Core.Path.{◌≡◌, refl, ◌∙◌, ap}
use Rattle.std.specs.Prelude.{if◌then◌else◌}
use Rattle.std.specs.Int.{from_bool}
use mathlib.Core.Bool.{Bool, true, false}
use mathlib.Core.List.{List, [], ◌∷◌}
use Prim.Native.Nat.{ℕ, ◌+◌, ◌-◌, ◌≤◌, ◌<◌}
use native.Mathlib.Omega.{arith}
use lib.Dec.{eqb}
use lib.ListN.{get_or, take}
use Rattle.rules.specs.Calendar.{leap, common_row, leap_row, month_lengths, sum, before_month, day_of_year}
use Rattle.calendar.specs.Ranges.{MonthDay}
use borrow.Author.Tests.{eqb-true}
use Rattle.std.proofs.lemmas.Bool.{agree_below_at}
use Rattle.calendar.proofs.Years.{leap_le, year_length_lem, before_high, row}
use Rattle.calendar.proofs.day_of_year.Goals as goal

abbrev common_before : List ℕ
common_before = 0 ∷ 31 ∷ 59 ∷ 90 ∷ 120 ∷ 151 ∷ 181 ∷ 212 ∷ 243 ∷ 273 ∷ 304 ∷ 334 ∷ []

abbrev leap_before : List ℕ
leap_before = 0 ∷ 31 ∷ 60 ∷ 91 ∷ 121 ∷ 152 ∷ 182 ∷ 213 ∷ 244 ∷ 274 ∷ 305 ∷ 335 ∷ []

-- the table's rule, tested at each of its entries: the months before it added up
rule : (b : Bool) (k : ℕ) → k < 12 → get_or (if b then leap_before else common_before) k 0 ≡ sum (take k (if b then leap_row else common_row))
unfolding sum
rule true k h = eqb-true _ _ (agree_below_at (λ k. eqb (get_or leap_before k 0) (sum (take k leap_row))) (λ _. true) 12 k refl h)
rule false k h = eqb-true _ _ (agree_below_at (λ k. eqb (get_or common_before k 0) (sum (take k common_row))) (λ _. true) 12 k refl h)

entry : (y m d r : ℕ) → MonthDay m d → r ≡ from_bool (leap y) → let l = get_or (get_or (common_before ∷ leap_before ∷ []) r []) (m - 1) 0 in (l ≡ before_month y m) × (l + 31 ≤ 366)
unfolding before_month month_lengths
entry y m d r h e =
    let f = rule (leap y) (m - 1) (omega arith) in
    rw (row y r common_before leap_before e) (f, omega (arith, f, before_high y m h.month_low h.month_high, year_length_lem y, leap_le y))

pub returns : goal.returns
unfolding day_of_year
returns c = omega (arith, entry _ _ _ _ c.requires (c.from.ensures ∙ ap from_bool c.is_leap.ensures), c.from-2.ensures)
