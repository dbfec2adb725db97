-- timediff's numbers: what rules' `forward` and `backward` write, both ways at once. A is the instant to be reached, B the one that is moved:
-- forward where `plus` is true, backward where it is false.
use Rattle.std.specs.Prelude.{if◌then◌else◌, ℕ, ◌+◌, ◌-◌, ◌*◌, ◌/◌, ◌%◌, ◌≤◌, ◌<◌, Bool, true, false, ◌≡◌, List, [], ◌∷◌, ◌++◌, ltb, leb}
use Rattle.rules.specs.Basics.{ascii}
use Rattle.rules.specs.Calendar.{day_length, civil}
use Rattle.rules.specs.Writing.{places, wide, month_of, in_month, back_off, shift_text, difference}
use Rattle.timediff.specs.declared.Span.{Span}
use Rattle.timediff.specs.declared.Shift.{Shift}

-- x moved by n, and how far it is from x to a
abbrev pub moved : Bool → ℕ → ℕ → ℕ
moved plus x n = if plus then x + n else x - n

abbrev pub gap : Bool → ℕ → ℕ → ℕ
gap plus x a = if plus then a - x else x - a

-- whether x lies past a; and a lies the way that the sign says, or at x
abbrev pub past : Bool → ℕ → ℕ → Bool
past plus a x = if plus then ltb a x else ltb x a

abbrev pub Toward : Bool → ℕ → ℕ → Type 0
Toward true a x = x ≤ a
Toward false a x = a ≤ x

-- the calendar month of an instant
unfoldable pub month_at : ℕ → ℕ
month_at t = month_of (civil t)

-- B moved by n months
unfoldable pub shifted : Bool → ℕ → ℕ → ℕ
shifted plus b n = in_month b (moved plus (month_at b) n)

-- whether that carries B past A
unfoldable pub passes : Bool → ℕ → ℕ → ℕ → Bool
passes plus a b n = past plus a (shifted plus b n)

-- "the months from B's calendar month to A's", at which the shift starts
unfoldable pub between : Bool → ℕ → ℕ → ℕ
between plus a b = gap plus (month_at b) (month_at a)

-- the months of the shift, and the milliseconds that are left
unfoldable pub months_of : Bool → ℕ → ℕ → ℕ
months_of plus a b = back_off (passes plus a b) (between plus a b)

unfoldable pub rest_of : Bool → ℕ → ℕ → ℕ
rest_of plus a b = gap plus (shifted plus b (months_of plus a b)) a

-- where the back-off stops
unfoldable pub shift_of : Bool → ℕ → ℕ → Shift
shift_of plus a b = record { months = months_of plus a b; at = shifted plus b (months_of plus a b) }

-- "The sign is plus if A is not before B."
unfoldable pub span : ℕ → ℕ → Span
span a b = let plus = leb b a in record { plus = plus; months = months_of plus a b; rest = rest_of plus a b }

-- the text that a span stands for
unfoldable pub span_text : Span → List ℕ
span_text s = (if s.plus then ascii "+" else ascii "-") ++ shift_text s.months s.rest

-- A span that can be written: 176555 months are 14712 years and 11 months, so five digits suffice for the years, and two for the days.
pub record Writable (s : Span) : Type 0 where
  pub months_high : s.months ≤ 176555
  pub rest_high : s.rest < 31 * day_length

-- What `difference` gives for A and B.
pub record Tells (a b : ℕ) (s : Span) : Type 0 where
  pub text : span_text s ≡ difference a b
  pub is : s ≡ span a b
  pub writable : Writable s

-- ---- the parts of the text that are written one after another
-- a sign's byte
abbrev pub sign_byte : Bool → ℕ
sign_byte plus = if plus then 43 else 45

-- the sign, the years and the months: `+0001-02`
abbrev pub months_part : Bool → ℕ → List ℕ
months_part plus n = (sign_byte plus ∷ []) ++ (wide 4 (n / 12) ++ (45 ∷ wide 2 (n % 12)))

-- the days and the time: `-03 04:05:06.789`
abbrev pub rest_part : ℕ → List ℕ
rest_part t =
    (45 ∷ wide 2 (t / day_length))
    ++ ((32 ∷ wide 2 (t / 3600000 % 24)) ++ ((58 ∷ wide 2 (t / 60000 % 60)) ++ ((58 ∷ wide 2 (t / 1000 % 60)) ++ (46 ∷ places 3 t))))
