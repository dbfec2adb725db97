-- The moment that a call is about. Assumes nothing.
use Prim.Native.Nat.{◌+◌}
use Rattle.std.specs.Prelude.{Result, Ok, Err}
use Rattle.rules.specs.declared.Refusal.{Refusal}
use Rattle.moment.specs.declared.Moment.{Moment}
use Rattle.moment.specs.Ranges.{After, Lands, Ranged, most_before}
use Rattle.datetime.specs.Opened.{Ready}

-- after as many modifiers as there may be, and in the final range
pub ready : (s : Result Moment Refusal) → Lands (After (most_before + 1)) s → Lands Ranged s → Lands Ready s
ready (Ok p) a r = record { after = a; ranged = r }
ready (Err x) a r = tt
