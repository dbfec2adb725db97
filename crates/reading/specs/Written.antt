-- A date and time written in full: what a round trip through a text begins with.
use Rattle.std.specs.Prelude.{ℕ, ◌+◌, ◌*◌, ◌^◌, ◌≤◌, true, false, ◌≡◌, List, [], ◌∷◌, ◌++◌, map, leb, length}
use Rattle.rules.specs.Basics.{ascii, every}
use Rattle.rules.specs.Calendar as calendar
use Rattle.rules.specs.Calendar.{Exists, midnight}
use Rattle.rules.specs.Decimal as decimal
use Rattle.rules.specs.Floats.{number, ◌⊕◌}
use Rattle.rules.specs.Moments.{Moment, no_zone, set_date, set_dated}
use Rattle.rules.specs.Reading.{space, fraction_of, timed}
use Rattle.rules.specs.Writing.{places}
use Rattle.text.specs.Places as text

-- the parts of such a text
pub record Stamp : Type 0 where
  pub year : ℕ
  pub month : ℕ
  pub day : ℕ
  pub gap : List ℕ  -- "Between date and time any run of whitespace and `T`, also none."
  pub hour : ℕ
  pub minute : ℕ
  pub second : ℕ
  pub fraction : List ℕ  -- the digits after the point, as numbers from 0 to 9; without one there is no point
  pub blanks : List ℕ  -- trailing whitespace

abbrev pub pointed : List ℕ → List ℕ
pointed [] = []
pointed (d ∷ ds) = ascii "." ++ map (λ n. 48 + n) (d ∷ ds)

-- YYYY-MM-DD HH:MM:SS.F
unfoldable pub written : Stamp → List ℕ
written t =
    places 4 t.year ++ ascii "-" ++ places 2 t.month ++ ascii "-" ++ places 2 t.day
    ++ t.gap
    ++ places 2 t.hour ++ ascii ":" ++ places 2 t.minute ++ ascii ":" ++ places 2 t.second ++ pointed t.fraction
    ++ t.blanks

-- A year from 0 to 9999, a day that exists, an hour from 0 to 23, and a fraction of k whole milliseconds.
pub record Full (t : Stamp) (k : ℕ) : Type 0 where
  pub years : t.year ≤ 9999
  pub exists : Exists (calendar.year t.year) t.month t.day
  pub gaps : every text.gap t.gap ≡ true
  pub hours : t.hour ≤ 23
  pub minutes : t.minute ≤ 59
  pub seconds : t.second ≤ 59
  pub digits : every (λ d. leb d 9) t.fraction ≡ true
  pub few : length t.fraction ≤ 255
  pub millis : k ≤ 999
  pub value : 1000 * decimal.value 0 t.fraction ≡ k * 10 ^ length t.fraction
  pub spaces : every space t.blanks ≡ true

-- the instant that it means
abbrev pub instant_of : Stamp → ℕ → ℕ
instant_of t k = midnight (calendar.year t.year) t.month t.day + (t.hour * 3600000 + t.minute * 60000 + (1000 * t.second + k))

-- the record that it reads to: its fields, no zone, and no milliseconds yet
abbrev pub fields_of : Stamp → Moment
fields_of t =
    let time = timed (record { hour = t.hour; minute = t.minute; second = number t.second ⊕ fraction_of t.fraction; zone = no_zone; utc = false }) in
    set_dated (set_date time (calendar.year t.year) t.month t.day) true
