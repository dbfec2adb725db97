-- What the milliseconds of a record's fields are made of.
use Rattle.std.specs.Prelude.{if◌then◌else◌, ℕ, ◌+◌, ◌-◌, ◌*◌, true, false, ◌≡◌, eqb, Float}
use Rattle.rules.specs.Calendar.{year, midnight}
use Rattle.rules.specs.Floats.{number}
use Rattle.rules.specs.Moments as rule
use Rattle.rules.specs.Moments.{no_zone}
use Rattle.rules.specs.declared.Time.{Time}
use Rattle.rules.specs.declared.Ymd.{Ymd}

-- the date that is summed: 2000-01-01 where none stands
abbrev pub date_meant : rule.Moment → Ymd
date_meant p = if p.dated then record { year = p.year; month = p.month; day = p.day } else record { year = year 2000; month = 1; day = 1 }

-- and the time of day, with its zone: midnight and none where none stands
abbrev pub time_meant : rule.Moment → Time
time_meant p =
    if p.timed
    then record { hour = p.hour; minute = p.minute; second = p.second; zone = p.zone; utc = false }
    else record { hour = 0; minute = 0; second = number 0; zone = no_zone; utc = false }

-- the instant of a date and a time of day in a zone
abbrev pub civil_instant : ℕ → ℕ → ℕ → ℕ → ℕ → Float → ℕ → ℕ
civil_instant y m d h min s zone = midnight y m d + rule.time_ms h min s + no_zone * 60000 - zone * 60000

-- the milliseconds of the fields, which no longer stand where a zone was taken off
abbrev pub summed_to : rule.Moment → ℕ → ℕ → rule.Moment
summed_to p ms zone = if eqb zone no_zone then rule.counted p ms else rule.set_utc (rule.clear (rule.counted p ms))

-- a record as it was read: no milliseconds are summed, and a zone stands only where there is a time
pub record Fresh (p : rule.Moment) : Type 0 where
  pub uncounted : p.counted ≡ false
  pub timed : eqb p.zone no_zone ≡ false → p.timed ≡ true
