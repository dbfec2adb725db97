-- `writing::put_letter` meets its contract: each arm by what rules' table says of its letter. Assumes nothing.
use Prim.Native.Nat.{ℕ, ◌+◌}
use mathlib.Core.Path.{refl, sym, ap, ◌∙◌}
use mathlib.Core.List.{List, [], ◌∷◌}
use Rattle.rules.specs.Writing.{wide, spaced, signed_year, year_short, week, letter, letters, writer}
use Rattle.rules.specs.declared.Ymd.{Ymd}
use Rattle.moment.specs.Held.{held}
use Rattle.digits.proofs.Buffer.{room_as, laid_as}
use Rattle.writing.proofs.Cases.{writer_none}
use Rattle.writing.proofs.put_letter.Goals as goal

-- the letters of the code, the last first
abbrev keys : List ℕ
keys = 37 ∷ 89 ∷ 87 ∷ 119 ∷ 86 ∷ 85 ∷ 117 ∷ 84 ∷ 83 ∷ 115 ∷ 82 ∷ 80 ∷ 112 ∷ 77 ∷ 109 ∷ 108 ∷ 107 ∷ 74 ∷ 106 ∷ 73 ∷ 72 ∷ 71 ∷ 103 ∷ 102 ∷ 70 ∷ 101 ∷ 100 ∷ []

pub put_digits-requires-clause-room : goal.put_digits-requires-clause-room
unfolding letter letters writer
put_digits-requires-clause-room c = rw c.in-100.is at c.requires.room

pub put_spaced-requires-clause-room : goal.put_spaced-requires-clause-room
unfolding letter letters writer
put_spaced-requires-clause-room c = rw c.in-101.is at c.requires.room

pub put_ymd-requires-clause-room : goal.put_ymd-requires-clause-room
unfolding letter letters writer
put_ymd-requires-clause-room c = rw c.in-70.is at c.requires.room

pub put_second_decimals-requires-clause-room : goal.put_second_decimals-requires-clause-room
unfolding letter letters writer
put_second_decimals-requires-clause-room c = rw c.in-102.is at c.requires.room

pub put_short_year-requires : goal.put_short_year-requires
unfolding letter letters writer
put_short_year-requires c = room_as (sym (ap (λ (d : Ymd). year_short d.year) c.thursday.ensures.0)) (rw c.in-103.is at c.requires.room)

pub put_year-requires-clause-room : goal.put_year-requires-clause-room
unfolding letter letters writer
put_year-requires-clause-room c = room_as (sym (ap (λ (d : Ymd). signed_year 3 d.year) c.thursday-in-71.ensures.0)) (rw c.in-71.is at c.requires.room)

pub put_digits-requires-in-72-clause-room : goal.put_digits-requires-in-72-clause-room
unfolding letter letters writer
put_digits-requires-in-72-clause-room c = rw c.in-72.is at c.requires.room

pub put_digits-requires-in-73-clause-room : goal.put_digits-requires-in-73-clause-room
unfolding letter letters writer
put_digits-requires-in-73-clause-room c = room_as (sym (ap (wide 2) c.dial.ensures.0)) (rw c.in-73.is at c.requires.room)

pub put_digits-requires-in-106-clause-room : goal.put_digits-requires-in-106-clause-room
unfolding letter letters writer
put_digits-requires-in-106-clause-room c = room_as (sym (ap (λ (n : ℕ). wide 3 (n + 1)) c.day_of_year.ensures.0)) (rw c.in-106.is at c.requires.room)

pub put_julian_day-requires : goal.put_julian_day-requires
unfolding letter letters writer
put_julian_day-requires c = rw c.in-74.is at c.requires.room

pub put_spaced-requires-in-107-clause-room : goal.put_spaced-requires-in-107-clause-room
unfolding letter letters writer
put_spaced-requires-in-107-clause-room c = rw c.in-107.is at c.requires.room

pub put_spaced-requires-in-108-clause-room : goal.put_spaced-requires-in-108-clause-room
unfolding letter letters writer
put_spaced-requires-in-108-clause-room c = room_as (sym (ap spaced c.dial-in-108.ensures.0)) (rw c.in-108.is at c.requires.room)

pub put_digits-requires-in-109-clause-room : goal.put_digits-requires-in-109-clause-room
unfolding letter letters writer
put_digits-requires-in-109-clause-room c = rw c.in-109.is at c.requires.room

pub put_digits-requires-in-77-clause-room : goal.put_digits-requires-in-77-clause-room
unfolding letter letters writer
put_digits-requires-in-77-clause-room c = rw c.in-77.is at c.requires.room

pub put_half-requires : goal.put_half-requires
unfolding letter letters writer
put_half-requires c = rw c.in-112.is at c.requires.room

pub put_half-requires-in-80 : goal.put_half-requires-in-80
unfolding letter letters writer
put_half-requires-in-80 c = rw c.in-80.is at c.requires.room

pub put_clock-requires-clause-room : goal.put_clock-requires-clause-room
unfolding letter letters writer
put_clock-requires-clause-room c = rw c.in-82.is at c.requires.room

pub put_unix-requires-clause-room : goal.put_unix-requires-clause-room
unfolding letter letters writer
put_unix-requires-clause-room c = rw c.in-115.is at c.requires.room

pub put_second-requires-clause-room : goal.put_second-requires-clause-room
unfolding letter letters writer
put_second-requires-clause-room c = rw c.in-83.is at c.requires.room

pub put_whole_time-requires-clause-room : goal.put_whole_time-requires-clause-room
unfolding letter letters writer
put_whole_time-requires-clause-room c = rw c.in-84.is at c.requires.room

pub put_digits-requires-in-117-clause-room : goal.put_digits-requires-in-117-clause-room
unfolding letter letters writer
put_digits-requires-in-117-clause-room c = room_as (sym (ap (λ (n : ℕ). wide 1 (n + 1)) c.since_monday.ensures.0)) (rw c.in-117.is at c.requires.room)

pub put_digits-requires-in-85-clause-room : goal.put_digits-requires-in-85-clause-room
unfolding letter letters writer
put_digits-requires-in-85-clause-room c = room_as (sym (ap (wide 2) (c.week.ensures.0 ∙ ap (week (held c.args.p)) c.since_sunday.ensures.0))) (rw c.in-85.is at c.requires.room)

pub put_digits-requires-in-86-clause-room : goal.put_digits-requires-in-86-clause-room
unfolding letter letters writer
put_digits-requires-in-86-clause-room c = room_as (sym (ap (wide 2) c.iso_week.ensures.0)) (rw c.in-86.is at c.requires.room)

pub put_digits-requires-in-119-clause-room : goal.put_digits-requires-in-119-clause-room
unfolding letter letters writer
put_digits-requires-in-119-clause-room c = room_as (sym (ap (wide 1) c.since_sunday-in-119.ensures.0)) (rw c.in-119.is at c.requires.room)

pub put_digits-requires-in-87-clause-room : goal.put_digits-requires-in-87-clause-room
unfolding letter letters writer
put_digits-requires-in-87-clause-room c = room_as (sym (ap (wide 2) (c.week-in-87.ensures.0 ∙ ap (week (held c.args.p)) c.since_monday-in-87.ensures.0))) (rw c.in-87.is at c.requires.room)

pub put_year-requires-in-89-clause-room : goal.put_year-requires-in-89-clause-room
unfolding letter letters writer
put_year-requires-in-89-clause-room c = rw c.in-89.is at c.requires.room

pub put_byte-requires : goal.put_byte-requires
unfolding letter letters writer
put_byte-requires c = rw c.in-37.is at c.requires.room

pub returns-in-100 : goal.returns-in-100
unfolding letter letters writer
returns-in-100 c = rw c.in-100.is c.put_digits.ensures

pub returns-in-101 : goal.returns-in-101
unfolding letter letters writer
returns-in-101 c = rw c.in-101.is c.put_spaced.ensures

pub returns-in-70 : goal.returns-in-70
unfolding letter letters writer
returns-in-70 c = rw c.in-70.is c.put_ymd.ensures

pub returns-in-102 : goal.returns-in-102
unfolding letter letters writer
returns-in-102 c = rw c.in-102.is c.put_second_decimals.ensures

pub returns-in-103 : goal.returns-in-103
unfolding letter letters writer
returns-in-103 c = rw c.in-103.is (laid_as (ap (λ (d : Ymd). year_short d.year) c.thursday.ensures.0) c.put_short_year.ensures)

pub returns-in-71 : goal.returns-in-71
unfolding letter letters writer
returns-in-71 c = rw c.in-71.is (laid_as (ap (λ (d : Ymd). signed_year 3 d.year) c.thursday-in-71.ensures.0) c.put_year.ensures)

pub returns-in-72 : goal.returns-in-72
unfolding letter letters writer
returns-in-72 c = rw c.in-72.is c.put_digits-in-72.ensures

pub returns-in-73 : goal.returns-in-73
unfolding letter letters writer
returns-in-73 c = rw c.in-73.is (laid_as (ap (wide 2) c.dial.ensures.0) c.put_digits-in-73.ensures)

pub returns-in-106 : goal.returns-in-106
unfolding letter letters writer
returns-in-106 c = rw c.in-106.is (laid_as (ap (λ (n : ℕ). wide 3 (n + 1)) c.day_of_year.ensures.0) c.put_digits-in-106.ensures)

pub returns-in-74 : goal.returns-in-74
unfolding letter letters writer
returns-in-74 c = rw c.in-74.is c.put_julian_day.ensures

pub returns-in-107 : goal.returns-in-107
unfolding letter letters writer
returns-in-107 c = rw c.in-107.is c.put_spaced-in-107.ensures

pub returns-in-108 : goal.returns-in-108
unfolding letter letters writer
returns-in-108 c = rw c.in-108.is (laid_as (ap spaced c.dial-in-108.ensures.0) c.put_spaced-in-108.ensures)

pub returns-in-109 : goal.returns-in-109
unfolding letter letters writer
returns-in-109 c = rw c.in-109.is c.put_digits-in-109.ensures

pub returns-in-77 : goal.returns-in-77
unfolding letter letters writer
returns-in-77 c = rw c.in-77.is c.put_digits-in-77.ensures

pub returns-in-112 : goal.returns-in-112
unfolding letter letters writer
returns-in-112 c = rw c.in-112.is c.put_half.ensures

pub returns-in-80 : goal.returns-in-80
unfolding letter letters writer
returns-in-80 c = rw c.in-80.is c.put_half-in-80.ensures

pub returns-in-82 : goal.returns-in-82
unfolding letter letters writer
returns-in-82 c = rw c.in-82.is c.put_clock.ensures

pub returns-in-115 : goal.returns-in-115
unfolding letter letters writer
returns-in-115 c = rw c.in-115.is c.put_unix.ensures

pub returns-in-83 : goal.returns-in-83
unfolding letter letters writer
returns-in-83 c = rw c.in-83.is c.put_second.ensures

pub returns-in-84 : goal.returns-in-84
unfolding letter letters writer
returns-in-84 c = rw c.in-84.is c.put_whole_time.ensures

pub returns-in-117 : goal.returns-in-117
unfolding letter letters writer
returns-in-117 c = rw c.in-117.is (laid_as (ap (λ (n : ℕ). wide 1 (n + 1)) c.since_monday.ensures.0) c.put_digits-in-117.ensures)

pub returns-in-85 : goal.returns-in-85
unfolding letter letters writer
returns-in-85 c = rw c.in-85.is (laid_as (ap (wide 2) (c.week.ensures.0 ∙ ap (week (held c.args.p)) c.since_sunday.ensures.0)) c.put_digits-in-85.ensures)

pub returns-in-86 : goal.returns-in-86
unfolding letter letters writer
returns-in-86 c = rw c.in-86.is (laid_as (ap (wide 2) c.iso_week.ensures.0) c.put_digits-in-86.ensures)

pub returns-in-119 : goal.returns-in-119
unfolding letter letters writer
returns-in-119 c = rw c.in-119.is (laid_as (ap (wide 1) c.since_sunday-in-119.ensures.0) c.put_digits-in-119.ensures)

pub returns-in-87 : goal.returns-in-87
unfolding letter letters writer
returns-in-87 c = rw c.in-87.is (laid_as (ap (wide 2) (c.week-in-87.ensures.0 ∙ ap (week (held c.args.p)) c.since_monday-in-87.ensures.0)) c.put_digits-in-87.ensures)

pub returns-in-89 : goal.returns-in-89
unfolding letter letters writer
returns-in-89 c = rw c.in-89.is c.put_year-in-89.ensures

pub returns-in-37 : goal.returns-in-37
unfolding letter letters writer
returns-in-37 c = rw c.in-37.is c.put_byte.ensures

pub returns-in_default : goal.returns-in_default
unfolding letter letters writer
returns-in_default c = rw (writer_none letters keys _ tt c.in_default.in_default-own.rest) (refl, refl)
