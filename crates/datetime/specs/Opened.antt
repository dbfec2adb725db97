-- What a call is about, once nothing refuses it.
use Rattle.std.specs.Prelude.{◌+◌}
use Rattle.rules.specs.Moments.{Moment}
use Rattle.moment.specs.Ranges.{After, Ranged, most_before}

-- a record that passed the final range, after as many modifiers as there may be
pub record Ready (p : Moment) : Type 0 where
  pub after : After (most_before + 1) p
  pub ranged : Ranged p
