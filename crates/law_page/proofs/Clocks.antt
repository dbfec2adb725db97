-- A time of day with a zone, as it is written, reads to its parts. Assumes nothing.
use Prim.Native.Nat.{ℕ, ◌+◌, ◌-◌, ◌*◌, ◌≤◌, ◌<◌}
use mathlib.Core.Bool.{Bool, true, false}
use mathlib.Core.Path.{◌≡◌, refl, sym, ap, ◌∙◌}
use mathlib.Core.List.{List, [], ◌∷◌, ◌++◌, append_assoc, append-nil}
use native.Mathlib.Omega.{arith}
use lib.Dec.{eqb}
use lib.Ieee.{Float, of_int, round, mul, add, to_unsigned}
use Rattle.rules.specs.Basics.{is_digit, got, skip, digits}
use Rattle.rules.specs.Calendar.{day_length}
use Rattle.rules.specs.Decimal.{value}
use Rattle.rules.specs.Floats.{number, whole, decimals, ◌⊕◌}
use Rattle.rules.specs.Moments.{no_zone, time_ms, seconds_ms}
use Rattle.rules.specs.Reading.{space, fraction_of, fraction, seconds_in, seconds, hours_minutes, zone_in, time}
use Rattle.rules.specs.Writing.{places}
use Rattle.rules.specs.declared.Time.{Time}
use Rattle.text.specs.Places.{begins}
use Rattle.real.proofs.Seconds.{fraction_none, exact_ms}
use Rattle.reading.proofs.Places.{Stops, digits_places, run_digits}
use Rattle.reading.proofs.Fractions.{no_point}
use Rattle.reading.proofs.Stamps.{digits_of}
use Rattle.reading.proofs.Times.{time_of_lem}
use Rattle.reading.proofs.Zones.{east_by, west_by, no_zone_lem, hour_and_minute, minutes, zone_upper, zone_east, zone_west}
use Rattle.law_putback.proofs.Seconds.{as_read}
use Rattle.law_page.specs.Stands.{ClockIs}
use Rattle.law_page.specs.Numerals.{digits_text}
use Rattle.law_page.specs.TimeValues.{Clock, hm, hms, hmsf, clock_text, clock_ms, Fraction, IsTime, Zone, none, zulu, plus, minus, zone_text, IsZone, to_zulu}

-- ---- zones
-- the zone as it is held, and whether it says that the time is UTC
abbrev pub held : Zone → ℕ
held none = no_zone
held zulu = no_zone
held (plus h m) = no_zone + (h * 60 + m)
held (minus h m) = no_zone - (h * 60 + m)

abbrev pub is_utc : Zone → Bool
is_utc none = false
is_utc zulu = true
is_utc (plus h m) = eqb (h * 60 + m) 0
is_utc (minus h m) = eqb (h * 60 + m) 0

pub zulu_is : (z : Zone) (t : ℕ) → IsZone z → t + no_zone * 60000 - held z * 60000 ≡ to_zulu z t
zulu_is none t h = omega arith
zulu_is zulu t h = omega arith
zulu_is (plus h m) t k = omega arith
zulu_is (minus h m) t k = omega (arith, k.0, k.1)

hours : (h m : ℕ) → h ≤ 14 → m ≤ 59 → hours_minutes (places 2 h ++ (58 ∷ places 2 m)) ≡ got (h * 60 + m)
unfolding skip
hours h m a b =
    minutes (places 2 h ++ (58 ∷ places 2 m)) h m []
    (hour_and_minute 14 _ h _ (digits_places 2 0 14 h _ (omega arith) (omega arith) a) _ refl m _ (ap (digits 2 0 59) (sym (append-nil (places 2 m))) ∙ digits_places 2 0 59 m [] (omega arith) (omega arith) b))

pub zone_read : (z : Zone) → IsZone z → zone_in (skip space (zone_text z)) ≡ got (held z, is_utc z)
unfolding skip places
zone_read none h = no_zone_lem
zone_read zulu h = zone_upper []
zone_read (plus h m) (a, b) = zone_east _ ∙ ap east_by (hours h m a b)
zone_read (minus h m) (a, b) = zone_west _ ∙ ap west_by (hours h m a b)

-- a zone begins with no digit, no colon and no point
pub record Follows (l : List ℕ) : Type 0 where
  pub no_digit : Stops is_digit l
  pub no_colon : begins 58 l ≡ false
  pub no_dot : begins 46 l ≡ false

pub zone_follows : (z : Zone) → Follows (zone_text z)
zone_follows none = record { no_digit = tt; no_colon = refl; no_dot = refl }
zone_follows zulu = record { no_digit = refl; no_colon = refl; no_dot = refl }
zone_follows (plus h m) = record { no_digit = refl; no_colon = refl; no_dot = refl }
zone_follows (minus h m) = record { no_digit = refl; no_colon = refl; no_dot = refl }

-- ---- seconds
abbrev pub second_of : Clock → Float
second_of (hm h m) = number 0
second_of (hms h m s) = number s ⊕ fraction_of []
second_of (hmsf h m s ds k) = number s ⊕ fraction_of ds

abbrev pub hour_of : Clock → ℕ
hour_of (hm h m) = h
hour_of (hms h m s) = h
hour_of (hmsf h m s ds k) = h

abbrev pub minute_of : Clock → ℕ
minute_of (hm h m) = m
minute_of (hms h m s) = m
minute_of (hmsf h m s ds k) = m

-- the text after HH:MM
abbrev second_text : Clock → List ℕ
second_text (hm h m) = []
second_text (hms h m s) = 58 ∷ places 2 s
second_text (hmsf h m s ds k) = 58 ∷ (places 2 s ++ (46 ∷ digits_text ds))

no_seconds : (l : List ℕ) → begins 58 l ≡ false → seconds l ≡ got (number 0, l)
unfolding seconds
no_seconds [] h = refl
no_seconds (b ∷ l) h = rw h

fraction_read : (ds l : List ℕ) (k : ℕ) → Fraction ds k → Follows l → fraction (46 ∷ (digits_text ds ++ l)) ≡ (fraction_of ds, l)
unfolding fraction
fraction_read [] l k F w = absurd (omega (arith, F.some))
fraction_read (d ∷ ds) l k F w = rw (run_digits (d ∷ ds) l F.digits w.no_digit)

seconds_read : (c : Clock) (l : List ℕ) → IsTime c → Follows l → seconds (second_text c ++ l) ≡ got (second_of c, l)
unfolding seconds seconds_in
seconds_read (hm h m) l i w = no_seconds l w.no_colon
seconds_read (hms h m s) l i w = rw (digits_places 2 0 59 s l (omega (arith, i.2)) (omega arith) i.2, no_point l w.no_dot, fraction_none)
seconds_read (hmsf h m s ds k) l i w = rw (append_assoc, digits_places 2 0 59 s (46 ∷ (digits_text ds ++ l)) (omega (arith, i.2)) (omega arith) i.2, fraction_read ds l k i.3 w)

-- ---- the time
abbrev pub time_of : Clock → Zone → Time
time_of c z = record { hour = hour_of c; minute = minute_of c; second = second_of c; zone = held z; utc = is_utc z }

pub from_hour : (c : Clock) (l : List ℕ) → clock_text c ++ l ≡ places 2 (hour_of c) ++ (58 ∷ (places 2 (minute_of c) ++ (second_text c ++ l)))
from_hour (hm h m) l = simp append_assoc
from_hour (hms h m s) l = simp append_assoc
from_hour (hmsf h m s ds k) l = simp append_assoc

pub limits : (c : Clock) → IsTime c → (hour_of c ≤ 23) × (minute_of c ≤ 59)
limits (hm h m) i = i
limits (hms h m s) i = (i.0, i.1)
limits (hmsf h m s ds k) i = (i.0, i.1)

pub time_read : (c : Clock) (z : Zone) → IsTime c → IsZone z → time (clock_text c ++ zone_text z) ≡ got (time_of c z)
time_read c z i j =
    let (a, b) = limits c i in
    let l = zone_text z in
    ap time (from_hour c l)
    ∙ time_of_lem _ (hour_of c) (minute_of c) (second_text c ++ l)
    (hour_and_minute 24 _ (hour_of c) _ (digits_places 2 0 24 (hour_of c) _ (omega arith) (omega arith) (omega arith)) _ refl (minute_of c) _ (digits_places 2 0 59 (minute_of c) _ (omega arith) (omega arith) b))
    (second_of c) l (seconds_read c l i (zone_follows z)) (held z) (is_utc z) (zone_read z j)

no_second_ms : seconds_ms (number 0) ≡ 0
unfolding of_int round mul add to_unsigned
no_second_ms = refl

pub time_ms_lem : (c : Clock) → IsTime c → time_ms (hour_of c) (minute_of c) (second_of c) ≡ clock_ms c
unfolding value
time_ms_lem (hm h m) i = omega (arith, no_second_ms)
time_ms_lem (hms h m s) i = omega (arith, exact_ms [] s tt (omega arith) i.2 0 (omega arith) refl)
time_ms_lem (hmsf h m s ds k) i = let F = i.3 in ap (λ (n : ℕ). h * 3600000 + m * 60000 + n) (exact_ms ds s (digits_of ds F.digits) F.few i.2 k F.millis F.is)

pub in_day : (c : Clock) → IsTime c → clock_ms c < day_length
in_day (hm h m) i = omega (arith, i.0, i.1)
in_day (hms h m s) i = omega (arith, i.0, i.1, i.2)
in_day (hmsf h m s ds k) i = omega (arith, i.0, i.1, i.2, i.3.millis)

no_second : (whole (number 0) ≡ 0) × (decimals 3 (number 0) ≡ 0)
unfolding of_int round to_unsigned
no_second = (refl, refl)

pub clock_parts : (c : Clock) → IsTime c → ClockIs (clock_ms c) (hour_of c) (minute_of c) (second_of c)
unfolding value
clock_parts (hm h m) (a, b) = record { hour = omega arith; minute = omega arith; second = no_second.0 ∙ omega arith; thousandths = no_second.1 ∙ omega arith }
clock_parts (hms h m s) (a, b, c) =
    let P = as_read s 0 c (omega arith) [] tt (omega arith) refl in
    record { hour = omega arith; minute = omega arith; second = P.cut_is ∙ omega arith; thousandths = P.decimals_are ∙ omega arith }
clock_parts (hmsf h m s ds k) (a, b, c, F) =
    let l = F.millis in
    let P = as_read s k c l ds (digits_of ds F.digits) F.few F.is in
    record { hour = omega arith; minute = omega arith; second = P.cut_is ∙ omega arith; thousandths = P.decimals_are ∙ omega arith }
