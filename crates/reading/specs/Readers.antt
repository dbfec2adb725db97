-- Forms that several readers are made of, and the bounds that callers need of what is read.
use Rattle.std.specs.Prelude.{if◌then◌else◌, ℕ, ◌≤◌, Bool, true, false, ◌||◌, List, [], ◌∷◌}
use Rattle.rules.specs.Basics.{ascii, word, Read, got, refuse, ◌>>=◌, ◌or◌, only_if, byte, digits}
use Rattle.rules.specs.Calendar.{year, minus_year}
use Rattle.rules.specs.Moments as rule
use Rattle.rules.specs.Moments.{blank, set_subsec}
use Rattle.rules.specs.Reading.{now}
use Rattle.rules.specs.declared.Refusal.{Refusal}

-- HH:MM, of an hour up to `most`, and what follows
unfoldable pub hour_minute : ℕ → List ℕ → Read (ℕ × ℕ × List ℕ)
hour_minute most s = do
  (h, s) ← digits 2 0 most s
  s ← byte ":" s
  (m, s) ← digits 2 0 59 s
  got (h, m, s)

pub record InZones (z : ℕ) : Type 0 where
  pub low : 541 ≤ z
  pub high : z ≤ 2339

-- YYYY-MM-DD, month and day from `low` up to `months` and `days`, and what follows
unfoldable pub year_month_day : ℕ → ℕ → ℕ → List ℕ → Read (ℕ × ℕ × ℕ × List ℕ)
year_month_day low months days s = do
  (y, s) ← digits 4 0 9999 s
  s ← byte "-" s
  (m, s) ← digits 2 low months s
  s ← byte "-" s
  (d, s) ← digits 2 low days s
  got (y, m, d, s)

pub record Limits (low months days y m d : ℕ) : Type 0 where
  pub year : y ≤ 9999
  pub month_low : low ≤ m
  pub month_high : m ≤ months
  pub day_low : low ≤ d
  pub day_high : d ≤ days

abbrev pub held_year : Bool → ℕ → ℕ
held_year minus y = if minus then minus_year y else year y

-- what is tried last
abbrev pub subsec_value : ℕ → List ℕ → Read rule.Moment
subsec_value clock s = only_if (word (ascii "subsec") s || word (ascii "subsecond") s) (now clock (set_subsec blank true)) or refuse Refusal.Null

-- nothing is left
abbrev pub is_empty : List ℕ → Bool
is_empty [] = true
is_empty (b ∷ s) = false
