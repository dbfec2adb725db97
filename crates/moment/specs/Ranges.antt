-- What holds of a record on its way through a call, and what a step hands back.
use Rattle.std.specs.Prelude.{ℕ, ◌+◌, ◌*◌, ◌≤◌, Bool, true, not, ◌&&◌, ◌≡◌, leb, Result, Ok, Err}
use Rattle.rules.specs.Basics.{Read, read_ok}
use Rattle.rules.specs.Calendar.{year, minus_year, instant}
use Rattle.rules.specs.Moments as rule
use Rattle.rules.specs.declared.Refusal.{Refusal}
use Rattle.rules.specs.declared.Time.{Time}
use Rattle.calendar.specs.Ranges.{InRange}
use Rattle.real.specs.StepMost.{step_most}
use Rattle.moment.specs.declared.Moment.{Moment}
use Rattle.moment.specs.Held.{held}
pub use Rattle.moment.specs.Fields.{TimeIn, Fields, Sane}

abbrev pub TimeRead : Time → Type 0
TimeRead t = TimeIn t.hour t.minute true t.second t.zone

-- a year as it is read: -9999 to 9999
pub record ReadYear (y : ℕ) : Type 0 where
  pub from : minus_year 9999 ≤ y
  pub to : y ≤ year 9999

-- whether fields are summed: "Fields to milliseconds takes years -4713 to 9999", and no number as it was given
abbrev pub sum_takes : ℕ → Bool → Bool
sum_takes y raw = leb (minus_year 4713) y && (leb y (year 9999) && not raw)

-- t is no further from the millisecond 0 than n + 1 of the longest steps
pub record Near (n t : ℕ) : Type 0 where
  pub from : instant 0 ≤ t + (n + 1) * step_most
  pub to : t ≤ instant 0 + (n + 1) * step_most

-- what holds of a record after n modifiers
pub record After (n : ℕ) (p : rule.Moment) : Type 0 where
  pub sane : Sane p
  pub years : p.dated ≡ true → ReadYear p.year
  pub near : Near n p.ms

-- "over 16 modifiers" are refused: the most that come before another
abbrev pub most_before : ℕ
most_before = 15

-- so another may move the milliseconds, and they still fit 64 bits
abbrev pub Movable : rule.Moment → Type 0
Movable p = After most_before p

-- a record that passed the final range
pub record Ranged (p : rule.Moment) : Type 0 where
  pub ranged : InRange p.ms
  pub stands : p.counted ≡ true

-- and is filled: all that is written of it stands
pub record Full (p : rule.Moment) : Type 0 where
  pub sane : Sane p
  pub years : ReadYear p.year
  pub timed : p.timed ≡ true
  pub ranged : InRange p.ms

-- ---- what a step hands back
-- r for p by a step that fills, where the rules say q
pub record Filled (p r : Moment) (q : rule.Moment) : Type 0 where
  pub is : held r ≡ q
  pub after : (n : ℕ) → After n (held p) → After n (held r)

-- r for p by a modifier that moves the milliseconds, where the rules say q
pub record Moved (p r : Moment) (q : rule.Moment) : Type 0 where
  pub is : held r ≡ q
  pub after : (n : ℕ) → After n (held p) → After (n + 1) (held r)

-- ---- and one that may be refused
abbrev pub read_of : Result Moment Refusal → Read rule.Moment
read_of r = read_ok held r

-- what holds of the record, if there is one
abbrev pub Lands : (rule.Moment → Type 0) → Result Moment Refusal → Type 0
Lands P (Ok p) = P (held p)
Lands P (Err x) = Unit {0}

-- s for p, where the rules say q
pub record Answered (p : Moment) (s : Result Moment Refusal) (q : Read rule.Moment) : Type 0 where
  pub is : read_of s ≡ q
  pub after : (n : ℕ) → After n (held p) → Lands (λ r. After n r) s
