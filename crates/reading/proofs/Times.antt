-- A time of day, part by part. Assumes nothing.
use Prim.Native.Nat.{ℕ}
use mathlib.Core.Bool.{Bool}
use mathlib.Core.Path.{◌≡◌, ◌∙◌}
use mathlib.Core.List.{List}
use lib.Ieee.{Float}
use Rattle.rules.specs.Basics.{got, other, ◌>>=◌, skip}
use Rattle.rules.specs.Reading.{space, seconds, zone_in, time}
use Rattle.reading.specs.Readers.{hour_minute}
use Rattle.reading.proofs.Steps.{then_then}

module _ (l : List ℕ) where
  parts : time l
      ≡ ◌>>=◌ (hour_minute 24 l) (λ p. ◌>>=◌ (seconds p.2) (λ x. ◌>>=◌ (zone_in (skip space x.1)) (λ z. got (record { hour = p.0; minute = p.1; second = x.0; zone = z.0; utc = z.1 }))))
  unfolding time hour_minute
  parts = simp then_then

  pub no_hour_minute : hour_minute 24 l ≡ other → time l ≡ other
  no_hour_minute e = parts ∙ rw e

  module _ (h m : ℕ) (t : List ℕ) (e : hour_minute 24 l ≡ got (h, m, t)) where
    module _ (x : Float) (r : List ℕ) (k : seconds t ≡ got (x, r)) where
      pub time_of_lem : (z : ℕ) (u : Bool) → zone_in (skip space r) ≡ got (z, u) → time l ≡ got (record { hour = h; minute = m; second = x; zone = z; utc = u })
      time_of_lem z u j = parts ∙ rw (e, k, j)
