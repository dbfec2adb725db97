-- What refuses a call before anything is read. Assumes nothing.
use mathlib.Core.Bool.{Bool, true, false, ◌||◌}
use mathlib.Core.Path.{◌≡◌, refl}
use Rattle.modifiers.specs.Buffer.{allowed_by}
use Rattle.datetime.specs.Allowed.{both_allowed}

pub both_allowed_by : (s b t d : Bool) → both_allowed (allowed_by s b) (allowed_by t d) ≡ allowed_by (s || t) (b || d)
both_allowed_by true b t d = refl
both_allowed_by false true true d = refl
both_allowed_by false true false true = refl
both_allowed_by false true false false = refl
both_allowed_by false false t d = refl
