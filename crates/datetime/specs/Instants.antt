-- timediff's two instants, and what the code hands back of them.
use Rattle.std.specs.Prelude.{ℕ, Result}
use Rattle.rules.specs.Basics.{Read, got, ◌>>=◌, read_ok}
use Rattle.rules.specs.Calls.{Value}
use Rattle.rules.specs.Functions.{present, ranged}
use Rattle.rules.specs.Moments.{Moment}
use Rattle.rules.specs.Reading.{time_value}
use Rattle.rules.specs.declared.Given.{Given}
use Rattle.rules.specs.declared.Refusal.{Refusal}
use Rattle.calendar.specs.declared.Instant.{Instant}

-- "final range" of the first, then of the second: their milliseconds
unfoldable pub ranged_both : Moment → Moment → Read (ℕ × ℕ)
ranged_both p q = do
  p ← ranged p
  q ← ranged q
  got (p.ms, q.ms)

-- "time value (timediff's first, then its second)"
unfoldable pub instants : ℕ → Value → Value → Read (ℕ × ℕ)
instants clock a b = do
  p ← time_value clock (present a)
  q ← time_value clock (present b)
  ranged_both p q

-- the two as they come back, or the refusal
abbrev pub read_both : Result (Instant × Instant) Refusal → Read (ℕ × ℕ)
read_both r = read_ok (λ t. (t.0.ms, t.1.ms)) r

-- "exactly two": an absent one is null
abbrev pub present_of : Given → Given
present_of Given.Absent = Given.Null
present_of Given.Null = Given.Null
present_of Given.Bytes = Given.Bytes
present_of (Given.Integer n) = Given.Integer n
present_of (Given.Real x) = Given.Real x
