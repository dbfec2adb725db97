-- An instant that is written in full reads to fields that stand for it. Assumes nothing.
use Prim.Native.Nat.{ℕ, ◌+◌}
use mathlib.Core.Path.{◌≡◌, refl, subst}
use native.Mathlib.Omega.{arith}
use Rattle.rules.specs.Calendar.{midnight}
use Rattle.rules.specs.Moments.{Moment, time_ms}
use Rattle.rules.specs.Reading.{time_value}
use Rattle.rules.specs.declared.Setting.{Setting}
use Rattle.reading.specs.Written.{written, fields_of}
use Rattle.reading.proofs.Stamps.{reads, counts, time_ms_lem}
use Rattle.timediff.specs.Promise.{StandsFor}
use Rattle.timediff.proofs.PutBack.{in_full}
use Rattle.law_putback.specs.Demand.{Instant, at}
use Rattle.law_putback.proofs.Years.{time_in, in_day, lies_in_range}
use Rattle.law_putback.proofs.Reached.{Reads}

abbrev pub fields : Instant → Moment
fields a = fields_of a.stamp

module _ (a : Instant) where
  its_ms : time_ms (fields a).hour (fields a).minute (fields a).second ≡ time_in a
  its_ms = time_ms_lem a.stamp a.millis a.full

  its_day : ℕ
  its_day = midnight (fields a).year (fields a).month (fields a).day

  pub stands : StandsFor (at a) (fields a)
  unfolding its_day
  stands =
      let F = a.full in
      subst (λ (n : ℕ). StandsFor (its_day + n) (fields a)) its_ms
      (in_full (fields a) F.exists (omega arith) (omega (arith, F.years)) (rw its_ms (in_day a)) refl refl refl refl refl)

  pub given : (set : Setting) → Reads set (written a.stamp) (at a) (fields a)
  unfolding time_value
  given set = record { reads = reads a.stamp a.millis a.full set.clock; stands = stands; counts = counts a.stamp a.millis a.full; range = lies_in_range a }
