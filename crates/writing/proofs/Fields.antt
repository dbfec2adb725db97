-- The fields of a record that can be written, as its writers ask for them. Assumes nothing.
use Prim.Native.Nat.{◌<◌}
use mathlib.Core.Bool.{true}
use mathlib.Core.Path.{◌≡◌}
use native.Mathlib.Omega.{arith}
use Rattle.rules.specs.Moments.{Moment}
use Rattle.real.specs.InMinute.{in_minute}
use Rattle.moment.specs.Ranges.{Full}

module _ (p : Moment) (h : Full p) where
  pub month : p.month < 100
  month = omega (arith, h.sane.date)

  pub day : p.day < 100
  day = omega (arith, h.sane.date)

  pub hour : p.hour < 100
  hour = omega (arith, h.sane.time)

  pub minute : p.minute < 100
  minute = omega (arith, h.sane.time)

  pub second : in_minute p.second ≡ true
  second = h.sane.time.seconds h.timed
