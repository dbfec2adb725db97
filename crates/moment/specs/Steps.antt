-- Steps that the rules name only within a table or a longer definition.
use Rattle.std.specs.Prelude.{ℕ, false, ℤ, Float}
use Rattle.rules.specs.Floats.{cut}
use Rattle.rules.specs.Moments.{Moment, clear, moved, set_counted, set_date, set_over, count_ms, fill, past_end, shift}
use Rattle.rules.specs.Modifiers.{fraction_ms}

-- of the table `starts`
abbrev pub first_of_month : Moment → Moment
first_of_month p = set_date p p.year p.month 1

abbrev pub first_of_year : Moment → Moment
first_of_year p = set_date p p.year 1 1

-- so many milliseconds on
abbrev pub time_on : ℤ → Moment → Moment
time_on ms p = clear (moved (count_ms p) ms 1)

-- where the number is below its limit
abbrev pub length_on : ℤ → Moment → Moment
length_on ms p = set_over (time_on ms p) 0

abbrev pub months_on : ℕ → Float → Float → Moment → Moment
months_on k days n p = clear (moved (count_ms (set_counted (past_end (shift (fill p) (cut n) k)) false)) (fraction_ms days n) 1)

-- where the time after a date reads
abbrev pub date_on : ℤ → ℤ → Moment → Moment
date_on months ms p = clear (moved (count_ms (past_end (shift (set_counted (fill p) false) months 1))) ms 1)
