-- m1 to m12 hold under any setting that refusal 4 lets through. Assumes nothing.
use mathlib.Core.Bool.{false}
use mathlib.Core.Path.{◌≡◌, refl}
use mathlib.Core.List.{List, [], ◌∷◌}
use Rattle.rules.specs.Calls.{bad_shape, bad_bytes, bad_setting}
use Rattle.rules.specs.Functions.{answer, reading, settle}
use Rattle.law_examples.specs.Computing.{computing}
use Rattle.rules.specs.declared.Setting.{Setting}
use Rattle.law_examples.specs.Marked.{Row, rows, All}

-- what is left of a row to be computed, once 4 is passed
abbrev Rest : Setting → List Row → Type 0
Rest set [] = Unit
Rest set (r ∷ rs) = ((bad_shape r.asked ≡ false) × (bad_bytes r.asked ≡ false) × (settle (reading set r.asked) ≡ r.answered)) × Rest set rs

each : (set : Setting) (rs : List Row) → bad_setting set ≡ false → Rest set rs → All set rs
unfolding answer
each set [] ok e = tt
each set (r ∷ rs) ok (e, es) = (rw (e.0, e.1, ok) e.2, each set rs ok es)

pub marked : (set : Setting) → bad_setting set ≡ false → All set rows
unfolding rows computing
marked set ok = each set rows ok ((refl, refl, refl), ((refl, refl, refl), ((refl, refl, refl), ((refl, refl, refl), ((refl, refl, refl), ((refl, refl, refl), ((refl, refl, refl), ((refl, refl, refl), ((refl, refl, refl), ((refl, refl, refl), ((refl, refl, refl), ((refl, refl, refl), tt))))))))))))
