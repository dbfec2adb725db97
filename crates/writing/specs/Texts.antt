-- Rules' texts, or parts of them, of a record.
use Rattle.std.specs.Prelude.{if◌then◌else◌, ℕ, List, ◌++◌, leb}
use Rattle.rules.specs.Basics.{ascii}
use Rattle.rules.specs.Moments.{Moment}
use Rattle.rules.specs.Writing.{signed_year, wide, hour_minute, second_text, three_decimals}

-- a date: rules' date_text for k = 4, %F for k = 3
abbrev pub date_of : ℕ → Moment → List ℕ
date_of k p = signed_year k p.year ++ ascii "-" ++ wide 2 p.month ++ ascii "-" ++ wide 2 p.day

-- a time: %T, and time_text with `subsec`
abbrev pub whole_time : Moment → List ℕ
whole_time p = hour_minute p ++ ascii ":" ++ second_text p.second

abbrev pub decimal_time : Moment → List ℕ
decimal_time p = hour_minute p ++ ascii ":" ++ three_decimals 2 p.second

-- %p and %P
abbrev pub half : List ℕ → List ℕ → ℕ → List ℕ
half am pm hour = if leb 12 hour then pm else am
