-- The record, "civil fields whose seconds are a 64-bit float, beside milliseconds and flags", and the steps that fill it.
use Rattle.std.specs.Prelude.{if◌then◌else◌, ℕ, ◌+◌, ◌-◌, ◌*◌, ◌/◌, ◌%◌, Bool, true, false, not, ◌&&◌, ℤ, Float, eqb, leb}
use Rattle.rules.specs.Basics.{move}
use Rattle.rules.specs.Floats.{number, ◌⊕◌, ◌⊗◌, ◌⊘◌, half, whole}
use Rattle.rules.specs.Calendar.{year, instant, minus_year, in_range, month_length, midnight, time_of_day, civil}
use Rattle.rules.specs.Types.{Ymd}

-- the Rust's DateTime, each field with its name there
pub record Moment : Type 0 where
  pub ms : ℕ  -- i_jd: the milliseconds
  pub year : ℕ  -- y
  pub month : ℕ  -- m
  pub day : ℕ  -- d
  pub hour : ℕ  -- h
  pub minute : ℕ  -- min
  pub second : Float  -- s: or a number as it was given
  pub zone : ℕ  -- tz: minutes east of UTC
  pub over : ℕ  -- n_floor: the days by which the day lies past its month's end
  pub counted : Bool  -- valid_jd: the milliseconds stand
  pub dated : Bool  -- valid_ymd: the date stands
  pub timed : Bool  -- valid_hms: the time of day stands
  pub raw : Bool  -- raw_s: the seconds are a number as it was given
  pub failed : Bool  -- is_error: a field sum failed
  pub subsec : Bool  -- use_subsec: `subsec` was asked for
  pub utc : Bool  -- is_utc: it is known to be UTC
  pub local : Bool  -- is_local: and to be local time

-- no zone, as it is held
abbrev pub no_zone : ℕ
no_zone = 1440

-- nothing is known: 2000-01-01 00:00 stands in for what is asked
abbrev pub unknown : Bool → Moment
unknown bad = record { ms = instant 0; year = year 2000; month = 1; day = 1; hour = 0; minute = 0; second = number 0; zone = no_zone; over = 0; counted = false; dated = false; timed = false; raw = false; failed = bad; subsec = false; utc = false; local = false }

abbrev pub blank : Moment
blank = unknown false

-- "A failed field sum leaves the Rust's error record"
abbrev pub failure : Moment
failure = unknown true

-- ---- setters: what one does not name stays
abbrev pub set_ms : Moment → ℕ → Moment
set_ms p n = record { ms = n; year = p.year; month = p.month; day = p.day; hour = p.hour; minute = p.minute; second = p.second; zone = p.zone; over = p.over; counted = p.counted; dated = p.dated; timed = p.timed; raw = p.raw; failed = p.failed; subsec = p.subsec; utc = p.utc; local = p.local }

abbrev pub set_counted : Moment → Bool → Moment
set_counted p b = record { ms = p.ms; year = p.year; month = p.month; day = p.day; hour = p.hour; minute = p.minute; second = p.second; zone = p.zone; over = p.over; counted = b; dated = p.dated; timed = p.timed; raw = p.raw; failed = p.failed; subsec = p.subsec; utc = p.utc; local = p.local }

abbrev pub set_date : Moment → ℕ → ℕ → ℕ → Moment
set_date p y m d = record { ms = p.ms; year = y; month = m; day = d; hour = p.hour; minute = p.minute; second = p.second; zone = p.zone; over = p.over; counted = p.counted; dated = p.dated; timed = p.timed; raw = p.raw; failed = p.failed; subsec = p.subsec; utc = p.utc; local = p.local }

abbrev pub set_dated : Moment → Bool → Moment
set_dated p b = record { ms = p.ms; year = p.year; month = p.month; day = p.day; hour = p.hour; minute = p.minute; second = p.second; zone = p.zone; over = p.over; counted = p.counted; dated = b; timed = p.timed; raw = p.raw; failed = p.failed; subsec = p.subsec; utc = p.utc; local = p.local }

abbrev pub set_time : Moment → ℕ → ℕ → Float → Moment
set_time p h m s = record { ms = p.ms; year = p.year; month = p.month; day = p.day; hour = h; minute = m; second = s; zone = p.zone; over = p.over; counted = p.counted; dated = p.dated; timed = p.timed; raw = p.raw; failed = p.failed; subsec = p.subsec; utc = p.utc; local = p.local }

abbrev pub set_timed : Moment → Bool → Moment
set_timed p b = record { ms = p.ms; year = p.year; month = p.month; day = p.day; hour = p.hour; minute = p.minute; second = p.second; zone = p.zone; over = p.over; counted = p.counted; dated = p.dated; timed = b; raw = p.raw; failed = p.failed; subsec = p.subsec; utc = p.utc; local = p.local }

abbrev pub set_zone : Moment → ℕ → Moment
set_zone p z = record { ms = p.ms; year = p.year; month = p.month; day = p.day; hour = p.hour; minute = p.minute; second = p.second; zone = z; over = p.over; counted = p.counted; dated = p.dated; timed = p.timed; raw = p.raw; failed = p.failed; subsec = p.subsec; utc = p.utc; local = p.local }

abbrev pub set_over : Moment → ℕ → Moment
set_over p k = record { ms = p.ms; year = p.year; month = p.month; day = p.day; hour = p.hour; minute = p.minute; second = p.second; zone = p.zone; over = k; counted = p.counted; dated = p.dated; timed = p.timed; raw = p.raw; failed = p.failed; subsec = p.subsec; utc = p.utc; local = p.local }

abbrev pub set_raw : Moment → Bool → Moment
set_raw p b = record { ms = p.ms; year = p.year; month = p.month; day = p.day; hour = p.hour; minute = p.minute; second = p.second; zone = p.zone; over = p.over; counted = p.counted; dated = p.dated; timed = p.timed; raw = b; failed = p.failed; subsec = p.subsec; utc = p.utc; local = p.local }

abbrev pub set_subsec : Moment → Bool → Moment
set_subsec p b = record { ms = p.ms; year = p.year; month = p.month; day = p.day; hour = p.hour; minute = p.minute; second = p.second; zone = p.zone; over = p.over; counted = p.counted; dated = p.dated; timed = p.timed; raw = p.raw; failed = p.failed; subsec = b; utc = p.utc; local = p.local }

abbrev pub set_utc : Moment → Moment
set_utc p = record { ms = p.ms; year = p.year; month = p.month; day = p.day; hour = p.hour; minute = p.minute; second = p.second; zone = p.zone; over = p.over; counted = p.counted; dated = p.dated; timed = p.timed; raw = p.raw; failed = p.failed; subsec = p.subsec; utc = true; local = false }

abbrev pub set_local : Moment → Moment
set_local p = record { ms = p.ms; year = p.year; month = p.month; day = p.day; hour = p.hour; minute = p.minute; second = p.second; zone = p.zone; over = p.over; counted = p.counted; dated = p.dated; timed = p.timed; raw = p.raw; failed = p.failed; subsec = p.subsec; utc = false; local = true }

-- ---- and some in a row
-- the milliseconds are n, and stand
abbrev pub counted : Moment → ℕ → Moment
counted p n = set_counted (set_ms p n) true

-- the milliseconds moved by n times k
abbrev pub moved : Moment → ℤ → ℕ → Moment
moved p n k = set_ms p (move p.ms n k)

-- the fields no longer stand (the Rust's clear_ymd_hms_tz)
abbrev pub clear : Moment → Moment
clear p = set_zone (set_timed (set_dated p false) false) no_zone

-- ---- milliseconds from fields (the Rust's compute_jd)
-- "Seconds become milliseconds by times 1000, plus 0.5, cut."
abbrev pub seconds_ms : Float → ℕ
seconds_ms s = whole (s ⊗ number 1000 ⊕ half)

abbrev pub time_ms : ℕ → ℕ → Float → ℕ
time_ms h m s = h * 3600000 + m * 60000 + seconds_ms s

-- the time of day added, where it stands; and the zone taken off, where there is one: the fields then no longer stand
unfoldable pub with_time : Moment → Moment
with_time p =
    let here = set_ms p (p.ms + time_ms p.hour p.minute p.second) in
    let there = set_utc (clear (set_ms here (here.ms + no_zone * 60000 - p.zone * 60000))) in
    let summed = if eqb p.zone no_zone then here else there in
    if p.timed then summed else p

-- "Fields to milliseconds takes years -4713 to 9999"
unfoldable pub sum_of : Moment → ℕ → ℕ → ℕ → Moment
sum_of p y m d =
    let sum = with_time (counted p (midnight y m d)) in
    if leb (minus_year 4713) y && (leb y (year 9999) && not p.raw) then sum else failure

unfoldable pub count_ms : Moment → Moment
count_ms p =
    let dated = sum_of p p.year p.month p.day in
    let undated = sum_of p (year 2000) 1 1 in
    let sum = if p.dated then dated else undated in
    if p.counted then p else sum

-- ---- fields from milliseconds (the Rust's compute_ymd, compute_hms)
abbrev pub on_date : Moment → Ymd → Moment
on_date p c = set_dated (set_date p c.year c.month c.day) true

unfoldable pub fill_date : Moment → Moment
fill_date p =
    let day = on_date p (civil p.ms) in
    let known = if in_range p.ms then day else failure in
    let filled = if p.counted then known else set_dated (set_date p (year 2000) 1 1) true in
    if p.dated then p else filled

-- the time of day t milliseconds after midnight
abbrev pub on_time : Moment → ℕ → Moment
on_time p t = set_timed (set_raw (set_time p (t / 3600000) (t / 60000 % 60) (number (t % 60000) ⊘ number 1000)) false) true

unfoldable pub fill_time : Moment → Moment
fill_time p =
    let q = count_ms p in
    let filled = on_time q (time_of_day q.ms) in
    if p.timed then p else filled

unfoldable pub fill : Moment → Moment
fill p = fill_time (fill_date p)

-- ---- the month's end (the Rust's compute_floor)
unfoldable pub past_end : Moment → Moment
past_end p = set_over p (p.day - month_length p.year p.month)

-- ---- "A month shift keeps the day, which may then run over": n times k months on
unfoldable pub shift : Moment → ℤ → ℕ → Moment
shift p n k = let months = move (p.year * 12 + (p.month - 1)) n k in set_date p (months / 12) (months % 12 + 1) p.day
