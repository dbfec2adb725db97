-- The ranges in which the record's fields lie, whatever it has gone through.
use Rattle.std.specs.Prelude.{ℕ, ◌≤◌, Bool, true, ◌≡◌, Float}
use Rattle.rules.specs.Moments as rule
use Rattle.calendar.specs.Ranges.{MonthDay}
use Rattle.real.specs.InMinute.{in_minute}

-- a time of day as it is read or filled: hour 24 too, the seconds where the time stands, a zone of at most 14:59, as it is held
pub record TimeIn (hour minute : ℕ) (timed : Bool) (second : Float) (zone : ℕ) : Type 0 where
  pub hours : hour ≤ 24
  pub minutes : minute ≤ 59
  pub seconds : timed ≡ true → in_minute second ≡ true
  pub zone_low : 541 ≤ zone
  pub zone_high : zone ≤ 2339

-- what holds of the fields of every record; a day may lie past its month's end
pub record Fields (month day hour minute : ℕ) (timed : Bool) (second : Float) (zone over : ℕ) : Type 0 where
  pub date : MonthDay month day
  pub time : TimeIn hour minute timed second zone
  pub overs : over ≤ 3

abbrev pub Sane : rule.Moment → Type 0
Sane p = Fields p.month p.day p.hour p.minute p.timed p.second p.zone p.over
