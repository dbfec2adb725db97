-- Demand 3 in numbers: what is promised of an answer of timediff. Not said here is that an answer is written as a text and read again.
use Rattle.std.specs.Prelude.{ℕ, ◌/◌, ◌%◌, ◌≤◌, ◌<◌, Bool, true, false, not, ◌≡◌, leb}
use Rattle.rules.specs.Calendar.{day_length, time_of_day, civil}
use Rattle.rules.specs.Moments.{Moment, no_zone, time_ms}
use Rattle.rules.specs.Modifiers.{by_date}
use Rattle.timediff.specs.Spans.{Toward, between}
use Rattle.timediff.specs.declared.Span.{Span}

-- The fields of a record stand for the instant b: its date and its time of day, in no zone.
pub record StandsFor (b : ℕ) (p : Moment) : Type 0 where
  pub year_is : p.year ≡ (civil b).year
  pub month_is : p.month ≡ (civil b).month
  pub day_is : p.day ≡ (civil b).day
  pub time_is : time_ms p.hour p.minute p.second ≡ time_of_day b
  pub is_dated : p.dated ≡ true
  pub is_timed : p.timed ≡ true
  pub has_no_zone : p.zone ≡ no_zone
  pub not_raw : p.raw ≡ false
  pub not_failed : p.failed ≡ false

-- Of a record only the milliseconds stand, and they are t.
pub record Counts (t : ℕ) (p : Moment) : Type 0 where
  pub ms_is : p.ms ≡ t
  pub is_counted : p.counted ≡ true
  pub not_dated : p.dated ≡ false
  pub not_timed : p.timed ≡ false
  pub has_no_zone : p.zone ≡ no_zone
  pub not_raw : p.raw ≡ false
  pub not_failed : p.failed ≡ false

-- what the modifier of a sign, years and months, days and a time makes of a record
abbrev pub put_back : Bool → ℕ → ℕ → Moment → Moment
put_back plus months rest p = by_date (not plus) (months / 12) (months % 12) (rest / day_length) (rest % day_length) p

-- x lies past a
abbrev pub Past : Bool → ℕ → ℕ → Type 0
Past true a x = a < x
Past false a x = x < a

-- s is an answer for A and B, where the record p, once filled, stands for B.
pub record Promise (a b : ℕ) (p : Moment) (s : Span) : Type 0 where
  -- the sign is plus exactly if A is not before B
  pub sign : s.plus ≡ leb b a
  -- as B's modifier it reaches A to the millisecond
  pub reach : Counts a (put_back s.plus s.months s.rest p)
  -- its days are at most 30
  pub days : s.rest / day_length ≤ 30
  -- of all shifts up to the months between B's calendar month and A's, by the modifier's own month shift, its months are the most that do not carry B past A
  pub up_to : s.months ≤ between s.plus a b
  pub stays : Toward s.plus a (put_back s.plus s.months 0 p).ms
  pub most : (n : ℕ) → n ≤ between s.plus a b → Toward s.plus a (put_back s.plus n 0 p).ms → n ≤ s.months
  pub passes : (n : ℕ) → s.months < n → n ≤ between s.plus a b → Past s.plus a (put_back s.plus n 0 p).ms
