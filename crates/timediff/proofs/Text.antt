-- The text of timediff: its length, its parts, its sign, and the text of equal instants. Assumes nothing.
use mathlib.Core.Path.{◌≡◌, refl, sym, ◌∙◌, ap}
use Rattle.std.specs.Prelude.{if◌then◌else◌}
use mathlib.Core.Bool.{Bool, true, false}
use mathlib.Core.List.{List, ◌∷◌, ◌++◌, append_assoc}
use Prim.Native.Nat.{ℕ, suc, ◌+◌, ◌-◌, ◌*◌, ◌/◌, ◌%◌, ◌≤◌, ◌<◌}
use native.Mathlib.Omega.{arith}
use borrow.Author.Tests.{ltb-true, ltb-false, lt-ltb, le-ltb}
use lib.Dec.{ltb, leb}
use lib.ListN.{length, take, length-append}
use Rattle.rules.specs.Basics.{ascii}
use Rattle.rules.specs.Calendar.{year, day_length, civil}
use Rattle.rules.specs.Writing.{places, width, wide, shift_text, difference}
use Rattle.calendar.specs.Ranges.{InRange}
use Rattle.digits.proofs.Decimal.{length_places, length_wide, length_exact, width_one, width_more}
use Rattle.timediff.specs.Spans.{month_at, between, months_of, rest_of, span, span_text, Writable, months_part, rest_part}
use Rattle.timediff.specs.declared.Span.{Span}
use Rattle.timediff.proofs.Shifts.{none}
use Rattle.timediff.proofs.Numbers.{up_to}
use Rattle.timediff.proofs.Answer.{text, months_from, span_plus, tells}

-- ---- the length

-- a number of five digits has five
width_five : (v : ℕ) → 10000 ≤ v → v < 100000 → width 19 v ≡ 5
width_five v l h = rw (width_more 18 v (omega arith), width_more 17 (v / 10) (omega arith), width_more 16 (v / 10 / 10) (omega arith), width_more 15 (v / 10 / 10 / 10) (omega arith), width_one 15 (v / 10 / 10 / 10 / 10) (omega arith))

-- a year has four digits, or five from 10000 on
abbrev pub year_digits : ℕ → ℕ
year_digits y = if ltb y 10000 then 4 else 5

length_year : (y : ℕ) → y < 100000 → length (wide 4 y) ≡ year_digits y
length_year y h = go (ltb y 10000) refl
  where
    go : (t : Bool) → ltb y 10000 ≡ t → length (wide 4 y) ≡ (if t then 4 else 5)
    go true e = length_exact 3 y (ltb-true y 10000 e)
    go false e = omega (arith, length_wide 4 y, width_five y (ltb-false y 10000 e) h)

length_two : (v : ℕ) → v < 100 → length (wide 2 v) ≡ 2
length_two v h = length_exact 1 v h

pub shift_length : (n rest : ℕ) → n / 12 < 100000 → rest < 31 * day_length → length (shift_text n rest) ≡ year_digits (n / 12) + 19
unfolding shift_text
shift_length n rest h l = simp length-append (omega (arith, length_year (n / 12) h, length_two (n % 12) (omega arith), length_two (rest / day_length) (omega arith), length_two (rest / 3600000 % 24) (omega arith), length_two (rest / 60000 % 60) (omega arith), length_two (rest / 1000 % 60) (omega arith), length_places 3 rest))

sign_length : (t : Bool) (s : List ℕ) → length ((if t then ascii "+" else ascii "-") ++ s) ≡ suc (length s)
sign_length true s = refl
sign_length false s = refl

pub span_bytes : (s : Span) → Writable s → length (span_text s) ≡ year_digits (s.months / 12) + 20
unfolding span_text
span_bytes s w = sign_length s.plus (shift_text s.months s.rest) ∙ omega (arith, shift_length s.months s.rest (omega (arith, w.months_high)) w.rest_high)

-- "24 bytes, 25 with a five-digit year"
pub span_24 : (s : Span) → Writable s → s.months < 120000 → length (span_text s) ≡ 24
span_24 s w h = span_bytes s w ∙ rw (lt-ltb (s.months / 12) 10000 (omega arith))

pub span_25 : (s : Span) → Writable s → 120000 ≤ s.months → length (span_text s) ≡ 25
span_25 s w h = span_bytes s w ∙ rw (le-ltb (s.months / 12) 10000 (omega arith))

module _ (a b : ℕ) (A : InRange a) (B : InRange b) where
  pub bytes : length (difference a b) ≡ year_digits ((span a b).months / 12) + 20
  bytes = let t = tells a b (span a b) A B refl in ap length (sym t.text) ∙ span_bytes (span a b) t.writable

  pub bytes_range : (24 ≤ length (difference a b)) × (length (difference a b) ≤ 25)
  bytes_range = rw bytes (go (ltb ((span a b).months / 12) 10000))
    where
      go : (t : Bool) → (24 ≤ (if t then 4 else 5) + 20) × ((if t then 4 else 5) + 20 ≤ 25)
      go true = omega arith
      go false = omega arith

  -- in the years 0 to 9999 there are four year digits, and 24 bytes
  pub years_high : year 0 ≤ (civil a).year → year 0 ≤ (civil b).year → (span a b).months / 12 ≤ 9999
  unfolding span month_at
  years_high y z = omega (arith, months_from (year 0 * 12) (leb b a) a b A B (from a y) (from b z))
    where
      from : (t : ℕ) → year 0 ≤ (civil t).year → year 0 * 12 ≤ month_at t
      from t h = omega arith

  pub bytes_24 : year 0 ≤ (civil a).year → year 0 ≤ (civil b).year → length (difference a b) ≡ 24
  bytes_24 y z = bytes ∙ rw (lt-ltb ((span a b).months / 12) 10000 (omega (arith, years_high y z)))

-- ---- the parts that are written one after another

shift_parts : (n t : ℕ) → shift_text n t ≡ (wide 4 (n / 12) ++ (45 ∷ wide 2 (n % 12))) ++ rest_part t
unfolding shift_text
shift_parts n t = simp append_assoc

pub span_parts : (s : Span) → span_text s ≡ months_part s.plus s.months ++ rest_part s.rest
unfolding span_text
span_parts s = go s.plus
  where
    go : (plus : Bool) → (if plus then ascii "+" else ascii "-") ++ shift_text s.months s.rest ≡ months_part plus s.months ++ rest_part s.rest
    go true = ap (λ (l : List ℕ). 43 ∷ l) (shift_parts s.months s.rest)
    go false = ap (λ (l : List ℕ). 45 ∷ l) (shift_parts s.months s.rest)

-- ---- the sign is plus exactly if A is not before B
pub sign : (a b : ℕ) → take 1 (difference a b) ≡ (if leb b a then ascii "+" else ascii "-")
unfolding span_text span
sign a b = ap (take 1) (sym (text a b)) ∙ go (leb b a) _
  where
    go : (t : Bool) (s : List ℕ) → take 1 ((if t then ascii "+" else ascii "-") ++ s) ≡ (if t then ascii "+" else ascii "-")
    go true s = refl
    go false s = refl

-- ---- equal instants
pub equal_span : (a : ℕ) → InRange a → span a a ≡ record { plus = true; months = 0; rest = 0 }
unfolding between rest_of
equal_span a A =
    let m : months_of true a a ≡ 0 = omega (arith, up_to true a a) in
    let e : a - a ≡ 0 = omega arith in
    span_plus a a (omega arith) ∙ rw (m, none true a a A A (omega arith), e)

pub equal : (a : ℕ) → InRange a → difference a a ≡ ascii "+0000-00-00 00:00:00.000"
unfolding span_text shift_text wide width places
equal a A = sym (text a a) ∙ ap span_text (equal_span a A)
