-- The words of modifiers as the code classifies them: the rules' tables, with a name in the place of each step.
use Rattle.std.specs.Prelude.{if◌then◌else◌, ℕ, Bool, not, ◌||◌, List, [], ◌∷◌, Float}
use Rattle.rules.specs.Basics.{ascii, is, is_digit, word, beside, front, skip, Read, got, ◌or◌, only_if}
use Rattle.rules.specs.Floats.{number}
use Rattle.rules.specs.Moments.{Moment}
use Rattle.rules.specs.Modifiers.{wide_space, counts, named, by_length, by_months}
use Rattle.text.specs.Places.{leads}
use Rattle.modifiers.specs.declared.counts.Scale.{Scale}
use Rattle.modifiers.specs.declared.words.Kind.{Kind}
use Rattle.modifiers.specs.declared.words.Unit.{Unit}

-- the table `words`
abbrev pub kinds : List (List ℕ × Kind)
kinds =
    (ascii "auto", Kind.Auto)
    ∷ (ascii "julianday", Kind.Julianday)
    ∷ (ascii "unixepoch", Kind.Unixepoch)
    ∷ (ascii "ceiling", Kind.Ceiling)
    ∷ (ascii "floor", Kind.Floor)
    ∷ (ascii "localtime", Kind.Localtime)
    ∷ (ascii "utc", Kind.Utc)
    ∷ (ascii "subsec", Kind.Subsec)
    ∷ (ascii "subsecond", Kind.Subsec)
    ∷ []

-- in the order of `modifier`
unfoldable pub kind_of : List ℕ → Read Kind
kind_of s = beside kinds s or only_if (leads (ascii "weekday ") s) Kind.Weekday or only_if (leads (ascii "start of ") s) Kind.Start or only_if (counts s) Kind.Count

-- and by their first letter
abbrev pub kind_s : List ℕ → Read Kind
kind_s s = if word (ascii "subsec") s || word (ascii "subsecond") s then got Kind.Subsec else only_if (leads (ascii "start of ") s) Kind.Start

abbrev pub kind_u : List ℕ → Read Kind
kind_u s = if word (ascii "unixepoch") s then got Kind.Unixepoch else only_if (word (ascii "utc") s) Kind.Utc

abbrev pub sign_or_digit : ℕ → Bool
sign_or_digit b = is "+" b || is "-" b || is_digit b

-- the table `units`
abbrev pub unit_names : List (List ℕ × Unit)
unit_names =
    named (ascii "day") Unit.Day (
    named (ascii "hour") Unit.Hour (
    named (ascii "minute") Unit.Minute (
    named (ascii "second") Unit.Second (
    named (ascii "month") Unit.Month (
    named (ascii "year") Unit.Year [])))))

unfoldable pub unit_of : List ℕ → Read Unit
unit_of s = beside unit_names s

abbrev pub unit_m : List ℕ → Read Unit
unit_m s = if word (ascii "minute") s || word (ascii "minutes") s then got Unit.Minute else only_if (word (ascii "month") s || word (ascii "months") s) Unit.Month

-- of the next word
abbrev pub unit_after : List ℕ → Read Unit
unit_after s = unit_of (front (λ b. not (wide_space b)) (skip wide_space s))

-- how a unit moves
abbrev pub scale_of : Unit → Scale
scale_of Unit.Day = Scale.Length (number 5373485) (number 86400000)
scale_of Unit.Hour = Scale.Length (number 128970000000) (number 3600000)
scale_of Unit.Minute = Scale.Length (number 7737900000000) (number 60000)
scale_of Unit.Second = Scale.Length (number 464270000000000) (number 1000)
scale_of Unit.Month = Scale.Months (number 176546) 1 (number 30)
scale_of Unit.Year = Scale.Months (number 14713) 12 (number 365)

-- the step that stands beside a unit
abbrev pub by_scale : Scale → Float → Moment → Read Moment
by_scale (Scale.Length limit unit) = by_length limit unit
by_scale (Scale.Months limit k days) = by_months limit k days

abbrev pub step_by : Unit → Float → Moment → Read Moment
step_by u = by_scale (scale_of u)
