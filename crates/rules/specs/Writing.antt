-- Writing: digits, dates and times, the letters of strftime, and timediff.
use Rattle.std.specs.Prelude.{if◌then◌else◌, ℕ, zero, suc, ◌+◌, ◌-◌, ◌*◌, ◌/◌, ◌%◌, ◌^◌, max, ◌||◌, Bool, List, [], ◌∷◌, ◌++◌, eqb, ltb, leb, ℤ, pos, negsuc, Float}
use Prim.Native.Char.{Char}
use Rattle.std.specs.Float.{binary64}
use Rattle.std.specs.Float.Ieee.{of_int, minus}
use Rattle.rules.specs.Basics.{ascii, is, trim_end, Read, got, refuse, ◌>>=◌}
use Rattle.rules.specs.Floats.{number, ◌⊘◌, whole, decimals, negative}
use Rattle.rules.specs.Calendar.{year, instant, unix_epoch, since_monday, since_sunday, thursday, iso_week, day_of_year, day_length, midnight, time_of_day, civil}
use Rattle.rules.specs.Moments.{Moment}
use Rattle.rules.specs.Types.{Refusal, Ymd}

-- ---- digits
-- the n lowest decimal places of v, the highest first
unfoldable pub places : ℕ → ℕ → List ℕ
places zero v = []
places (suc n) v = (48 + v / 10 ^ n % 10) ∷ places n v

-- how many digits v has, counted up to k + 1
unfoldable pub width : ℕ → ℕ → ℕ
width zero v = 1
width (suc k) v = if ltb v 10 then 1 else suc (width k (v / 10))

-- v in n digits, or in as many as it has (at most 20)
unfoldable pub wide : ℕ → ℕ → List ℕ
wide n v = places (max n (width 19 v)) v

-- v in two places, with a space for a leading zero
unfoldable pub spaced : ℕ → List ℕ
spaced v = if ltb v 10 then ascii " " ++ wide 1 v else wide 2 v

unfoldable pub integer_text : ℤ → List ℕ
integer_text (pos n) = wide 1 n
integer_text (negsuc n) = ascii "-" ++ wide 1 (suc n)

-- ---- "Negative years as the Rust."
-- four digits, or a minus and k of them: 4 in date and datetime, 3 in strftime, where the minus is one of four places
unfoldable pub signed_year : ℕ → ℕ → List ℕ
signed_year k y = if leb (year 0) y then wide 4 (y - year 0) else ascii "-" ++ wide k (year 0 - y)

-- strftime's two digits: the remainder by 100, with the year's sign
unfoldable pub year_short : ℕ → List ℕ
year_short y = if leb (year 0) y || eqb ((year 0 - y) % 100) 0 then wide 2 ((y - year 0) % 100) else ascii "-" ++ wide 1 ((year 0 - y) % 100)

-- "three decimals of the f64, ties to even"; and the seconds cut
unfoldable pub three_decimals : ℕ → Float → List ℕ
three_decimals n x = let t = decimals 3 x in wide n (t / 1000) ++ ascii "." ++ places 3 t

abbrev pub second_text : Float → List ℕ
second_text s = wide 2 (whole s)

abbrev pub hour_minute : Moment → List ℕ
hour_minute p = wide 2 p.hour ++ ascii ":" ++ wide 2 p.minute

-- the texts of date and time
unfoldable pub date_text : Moment → List ℕ
date_text p = signed_year 4 p.year ++ ascii "-" ++ wide 2 p.month ++ ascii "-" ++ wide 2 p.day

-- "Seconds with subsec: three decimals of the f64, ties to even."
unfoldable pub time_text : Moment → List ℕ
time_text p = hour_minute p ++ ascii ":" ++ (if p.subsec then three_decimals 2 p.second else second_text p.second)

-- ---- the time since the Unix epoch
-- in milliseconds, and in seconds: "divided by 1000 and rounded by floor, so -500 ms is second -1"
abbrev pub since_epoch : ℕ → ℤ
since_epoch t = minus t unix_epoch

-- n / k, and -(n + 1) / k, rounded down
unfoldable pub floor_div : ℤ → ℕ → ℤ
floor_div (pos n) k = pos (n / k)
floor_div (negsuc n) k = negsuc (n / k)

unfoldable pub unix_seconds : ℕ → ℤ
unix_seconds t = floor_div (since_epoch t) 1000

-- with subsec, as an f64
unfoldable pub unix_real : ℕ → Float
unix_real t = of_int binary64 (since_epoch t) ⊘ number 1000

unfoldable pub unix_text : Moment → List ℕ
unix_text p = if p.subsec
    then (let x = unix_real p.ms in (if negative x then ascii "-" else []) ++ three_decimals 1 x)
    else integer_text (unix_seconds p.ms)

-- the Julian day
unfoldable pub julian_real : ℕ → Float
julian_real t = number (t - instant 0) ⊘ number 86400000

-- "`%J`: nine decimals of the f64, ties to even, trailing zeros and point dropped."
unfoldable pub julian_text : ℕ → List ℕ
julian_text t = let n = decimals 9 (julian_real t) in trim_end (is ".") (trim_end (is "0") (wide 1 (n / 10 ^ 9) ++ ascii "." ++ places 9 n))

-- 6: "`%J` is met with under 86400000000000 ms"
unfoldable pub julian_letter : ℕ → Read (List ℕ)
julian_letter t = if ltb t (instant 86400000000000) then refuse Refusal.Early else got (julian_text t)

-- the week of the year, for weeks that begin on the day of the week since which w days have passed
abbrev pub week : Moment → ℕ → ℕ
week p w = (day_of_year p.year p.month p.day + 7 - w) / 7

-- ---- "Twenty-six letters and the percent sign are read after a `%`"
-- the hour on a dial of twelve
abbrev pub dial : ℕ → ℕ
dial h = if eqb (h % 12) 0 then 12 else h % 12

unfoldable pub letters : List (Char × (Moment → Read (List ℕ)))
letters =
    ("d", λ p. got (wide 2 p.day))
    ∷ ("e", λ p. got (spaced p.day))
    ∷ ("F", λ p. got (signed_year 3 p.year ++ ascii "-" ++ wide 2 p.month ++ ascii "-" ++ wide 2 p.day))
    ∷ ("f", λ p. got (three_decimals 2 p.second))
    ∷ ("g", λ p. got (year_short (thursday p.ms).year))
    ∷ ("G", λ p. got (signed_year 3 (thursday p.ms).year))
    ∷ ("H", λ p. got (wide 2 p.hour))
    ∷ ("I", λ p. got (wide 2 (dial p.hour)))
    ∷ ("j", λ p. got (wide 3 (day_of_year p.year p.month p.day + 1)))
    ∷ ("J", λ p. julian_letter p.ms)
    ∷ ("k", λ p. got (spaced p.hour))
    ∷ ("l", λ p. got (spaced (dial p.hour)))
    ∷ ("m", λ p. got (wide 2 p.month))
    ∷ ("M", λ p. got (wide 2 p.minute))
    ∷ ("p", λ p. got (if leb 12 p.hour then ascii "PM" else ascii "AM"))
    ∷ ("P", λ p. got (if leb 12 p.hour then ascii "pm" else ascii "am"))
    ∷ ("R", λ p. got (hour_minute p))
    ∷ ("s", λ p. got (unix_text p))
    ∷ ("S", λ p. got (second_text p.second))
    ∷ ("T", λ p. got (hour_minute p ++ ascii ":" ++ second_text p.second))
    ∷ ("u", λ p. got (wide 1 (since_monday p.ms + 1)))
    ∷ ("U", λ p. got (wide 2 (week p (since_sunday p.ms))))
    ∷ ("V", λ p. got (wide 2 (iso_week p.ms)))
    ∷ ("w", λ p. got (wide 1 (since_sunday p.ms)))
    ∷ ("W", λ p. got (wide 2 (week p (since_monday p.ms))))
    ∷ ("Y", λ p. got (signed_year 3 p.year))
    ∷ ("%", λ p. got (ascii "%"))
    ∷ []

-- "Another letter .. gives 1."
unfoldable pub writer : List (Char × (Moment → Read (List ℕ))) → ℕ → Read (Moment → Read (List ℕ))
writer [] b = refuse Refusal.Null
writer (row ∷ rows) b = if is row.0 b then got row.1 else writer rows b

unfoldable pub letter : ℕ → Moment → Read (List ℕ)
letter b p = do
  write ← writer letters b
  write p

-- one text before another
abbrev pub before : Read (List ℕ) → Read (List ℕ) → Read (List ℕ)
before a b = do
  s ← a
  t ← b
  got (s ++ t)

-- "format left to right": what is no % stands for itself; "a last `%`, gives 1"
unfoldable pub formatted : Moment → List ℕ → Read (List ℕ)
formatted p [] = got []
formatted p (b ∷ []) = if is "%" b then refuse Refusal.Null else got (b ∷ [])
formatted p (b ∷ c ∷ s) =
    let lettered = before (letter c p) (formatted p s) in
    let plain = before (got (b ∷ [])) (formatted p (c ∷ s)) in
    if is "%" b then lettered else plain

-- ---- timediff: "sign, four or more year digits. The sign is plus if A is not before B."
-- the calendar month of a date, as a count of months
abbrev pub month_of : Ymd → ℕ
month_of c = c.year * 12 + (c.month - 1)

-- B moved to another calendar month: its day, which may run over, and its time of day stay
unfoldable pub in_month : ℕ → ℕ → ℕ
in_month b k = midnight (k / 12) (k % 12 + 1) (civil b).day + time_of_day b

-- "is backed off one month at a time and stops at the first that does not pass": from n months on, where `passes` says of a shift that it carries B past A
unfoldable pub back_off : (ℕ → Bool) → ℕ → ℕ
back_off passes zero = zero
back_off passes (suc n) = let less = back_off passes n in if passes (suc n) then less else suc n

-- a shift of n months and the milliseconds that are left
unfoldable pub shift_text : ℕ → ℕ → List ℕ
shift_text n rest =
    wide 4 (n / 12) ++ ascii "-" ++ wide 2 (n % 12) ++ ascii "-" ++ wide 2 (rest / day_length)
    ++ ascii " " ++ wide 2 (rest / 3600000 % 24) ++ ascii ":" ++ wide 2 (rest / 60000 % 60) ++ ascii ":" ++ wide 2 (rest / 1000 % 60) ++ ascii "." ++ places 3 rest

-- B is not after A: months are added to it
unfoldable pub forward : ℕ → ℕ → List ℕ
forward a b =
    let k = month_of (civil b) in
    let n = back_off (λ n. ltb a (in_month b (k + n))) (month_of (civil a) - k) in
    ascii "+" ++ shift_text n (a - in_month b (k + n))

-- B is after A: months are taken off it
unfoldable pub backward : ℕ → ℕ → List ℕ
backward a b =
    let k = month_of (civil b) in
    let n = back_off (λ n. ltb (in_month b (k - n)) a) (k - month_of (civil a)) in
    ascii "-" ++ shift_text n (in_month b (k - n) - a)

-- "timediff first renews both arguments' fields from their milliseconds": so it is a text of two instants. "The shift starts at the months from B's calendar month to A's."
unfoldable pub difference : ℕ → ℕ → List ℕ
difference a b = let plus = forward a b in let minus = backward a b in if leb b a then plus else minus
