-- The seven functions, and the order of refusals. `answer` is the definition that the public contracts cite.
use Rattle.std.specs.Prelude.{if◌then◌else◌, ℕ, false, not, ◌&&◌, List, [], ◌∷◌, ◌++◌, ltb}
use Rattle.rules.specs.Basics.{ascii, Read, got, other, refuse, ◌>>=◌}
use Rattle.rules.specs.Calls.{Value, absent, null, bytes, signed, float, Call, call, strftime, timediff, Outcome, text, integer, real, refused, modifiers, bad_shape, bad_bytes, bad_setting}
use Rattle.rules.specs.Calendar.{in_range}
use Rattle.rules.specs.Moments.{Moment, set_dated, count_ms, fill}
use Rattle.rules.specs.Reading.{time_value}
use Rattle.rules.specs.Modifiers.{modified}
use Rattle.rules.specs.Writing.{date_text, time_text, unix_seconds, unix_real, julian_real, formatted, difference}
use Rattle.rules.specs.Types.{Setting, Refusal, Function}

-- "final range": a failed sum, or a time outside 0 to the last millisecond, gives 1
unfoldable pub ranged : Moment → Read Moment
ranged p = let q = count_ms p in if not q.failed && in_range q.ms then got q else refuse Refusal.Null

-- "time value (..), modifiers left to right, final range"
unfoldable pub moment_of : Setting → Value → List ℕ → Read Moment
moment_of set v m = do
  p ← time_value set.clock v
  q ← modified set.offset 0 (modifiers m) p
  ranged q

-- "With no modifier, date, time and datetime renew a day above 28 from the milliseconds"
unfoldable pub renewed : List ℕ → Moment → Moment
renewed [] p = fill (if p.dated && ltb 28 p.day then set_dated p false else p)
renewed (b ∷ m) p = fill p

unfoldable pub outcome_of : Function → List ℕ → Moment → Outcome
outcome_of Function.Date m p = text (date_text (renewed m p))
outcome_of Function.Time m p = text (time_text (renewed m p))
outcome_of Function.Datetime m p = let q = renewed m p in text (date_text q ++ ascii " " ++ time_text q)
outcome_of Function.Julianday m p = real (julian_real p.ms)
outcome_of Function.Unixepoch m p = if p.subsec then real (unix_real p.ms) else integer (unix_seconds p.ms)

-- "not for timediff, which takes exactly two": there an absent value is null
abbrev pub present : Value → Value
present absent = null
present null = null
present (bytes s) = bytes s
present (signed n) = signed n
present (float x) = float x

-- "Then 1 and 5 as reading meets them: time value (timediff's first, then its second), modifiers left to right, final range, format left to right (with 6)."
unfoldable pub reading : Setting → Call → Read Outcome
reading set (call f v m) = do
  p ← moment_of set v m
  got (outcome_of f m p)
reading set (strftime f v m) = do
  p ← moment_of set v m
  s ← formatted (fill p) f
  got (text s)
reading set (timediff a b) = do
  p ← time_value set.clock (present a)
  q ← time_value set.clock (present b)
  p ← ranged p
  q ← ranged q
  got (text (difference p.ms q.ms))

abbrev pub settle : Read Outcome → Outcome
settle (got o) = o
settle other = refused Refusal.Null
settle (refuse r) = refused r

-- "2, 3, 4 are tested first, in that order, over all arguments, whether used or not."
abbrev pub opened : {A : Type 0} → Setting → Call → Read A → Read A
opened set c read =
    if bad_shape c then refuse Refusal.Shape else (
    if bad_bytes c then refuse Refusal.Bytes else (
    if bad_setting set then refuse Refusal.Setting else read))

unfoldable pub answer : Setting → Call → Outcome
answer set c = settle (opened set c (reading set c))
