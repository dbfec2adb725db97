-- Whole Unix milliseconds, for loggers.
use Rattle.std.specs.Prelude.{if◌then◌else◌, ℕ, true, List, ◌++◌, ℤ}
use Rattle.rules.specs.Basics.{ascii, move, got, ◌>>=◌}
use Rattle.rules.specs.Calendar.{unix_epoch, in_range}
use Rattle.rules.specs.Calls.{Value, Outcome, text, integer, refused, call}
use Rattle.rules.specs.Functions.{moment_of, settle, opened}
use Rattle.rules.specs.Moments.{Moment, blank, counted, set_utc, set_subsec, fill}
use Rattle.rules.specs.Writing.{since_epoch, date_text, time_text}
use Rattle.rules.specs.declared.Function.{Function}
use Rattle.rules.specs.declared.Refusal.{Refusal}
use Rattle.rules.specs.declared.Setting.{Setting}

-- the moment that a call is about, as whole milliseconds from 1970; 2, 3 and 4 are tested first
unfoldable pub milliseconds : Setting → Value → List ℕ → Outcome
milliseconds set v m = settle (do
  p ← opened set (call Function.Date v m) (moment_of set v m)
  got (integer (since_epoch p.ms)))

-- an instant by its milliseconds from 1970, as it is held
abbrev pub instant_of : ℤ → ℕ
instant_of z = move unix_epoch z 1

-- its record: UTC, with subsec, filled
unfoldable pub stamped : ℤ → Moment
stamped z = fill (set_subsec (set_utc (counted blank (instant_of z))) true)

-- YYYY-MM-DD HH:MM:SS.SSS; outside the millisecond 0 to the last, null
unfoldable pub stamp : ℤ → Outcome
stamp z = if in_range (instant_of z) then text (date_text (stamped z) ++ ascii " " ++ time_text (stamped z)) else refused Refusal.Null
