-- From the two ways to what `difference` gives: the sign, and the text of rules. Assumes nothing.
use mathlib.Core.Path.{◌≡◌, refl, sym, ◌∙◌, ap}
use Rattle.std.specs.Prelude.{if◌then◌else◌}
use mathlib.Core.Bool.{Bool, true, false}
use mathlib.Core.List.{◌++◌}
use Prim.Native.Nat.{ℕ, ◌+◌, ◌-◌, ◌*◌, ◌/◌, ◌≤◌}
use native.Mathlib.Omega.{arith}
use borrow.Author.Tests.{leb-true, leb-false, le-leb}
use lib.Dec.{leb}
use Rattle.rules.specs.Basics.{ascii}
use Rattle.std.specs.Int.{abs_diff}
use Rattle.rules.specs.Calendar.{year, minus_year, day_length}
use Rattle.rules.specs.Writing.{shift_text, forward, backward, difference}
use Rattle.calendar.specs.Ranges.{InRange}
use Rattle.timediff.specs.Spans.{gap, Toward, Tells, month_at, shifted, passes, between, months_of, rest_of, shift_of, span, span_text}
use Rattle.timediff.specs.declared.Span.{Span}
use Rattle.timediff.specs.declared.Shift.{Shift}
use Rattle.timediff.proofs.Shifts.{gap_is, month_low, month_high}
use Rattle.timediff.proofs.Numbers.{up_to, rest_high}

-- ---- the sign

pub toward : (a b : ℕ) → Toward (leb b a) a b
toward a b = go (leb b a) refl
  where
    go : (plus : Bool) → leb b a ≡ plus → Toward plus a b
    go true h = leb-true b a h
    go false h = omega (arith, leb-false b a h)

pub span_plus : (a b : ℕ) → b ≤ a → span a b ≡ record { plus = true; months = months_of true a b; rest = rest_of true a b }
unfolding span
span_plus a b h = rw (le-leb b a h)

-- ---- the text

forward_text : (a b : ℕ) → forward a b ≡ ascii "+" ++ shift_text (months_of true a b) (rest_of true a b)
unfolding forward months_of rest_of passes between shifted month_at
forward_text a b = refl

backward_text : (a b : ℕ) → backward a b ≡ ascii "-" ++ shift_text (months_of false a b) (rest_of false a b)
unfolding backward months_of rest_of passes between shifted month_at
backward_text a b = refl

pub text : (a b : ℕ) → span_text (span a b) ≡ difference a b
unfolding span_text span difference
text a b = go (leb b a)
  where
    go : (plus : Bool) → (if plus then ascii "+" else ascii "-") ++ shift_text (months_of plus a b) (rest_of plus a b) ≡ (if plus then forward a b else backward a b)
    go true = sym (forward_text a b)
    go false = sym (backward_text a b)

-- ---- the bounds

-- the months between a month that neither instant precedes and December 9999
pub months_from : (low : ℕ) (plus : Bool) (a b : ℕ) → InRange a → InRange b → low ≤ month_at a → low ≤ month_at b → months_of plus a b ≤ year 9999 * 12 + 11 - low
unfolding between
months_from low true a b A B l m = omega (arith, up_to true a b, month_high a A)
months_from low false a b A B l m = omega (arith, up_to false a b, month_high b B)

pub months_bound : (plus : Bool) (a b : ℕ) → InRange a → InRange b → months_of plus a b ≤ 176555
months_bound plus a b A B = months_from (minus_year 4713 * 12) plus a b A B (month_low a A) (month_low b B)

-- the days are at most 30
pub days_high : (a b : ℕ) → InRange a → InRange b → (span a b).rest / day_length ≤ 30
unfolding span
days_high a b A B = omega (arith, rest_high (leb b a) a b A B (toward a b))

pub tells : (a b : ℕ) (s : Span) → InRange a → InRange b → s ≡ span a b → Tells a b s
unfolding span
tells a b s A B e = record { text = ap span_text e ∙ text a b; is = e; writable = record { months_high = rw e (months_bound (leb b a) a b A B); rest_high = rw e (rest_high (leb b a) a b A B (toward a b)) } }

-- ---- what the code makes of the shift

pub tells_shift : (a b : ℕ) (t : Shift) → InRange a → InRange b → t ≡ shift_of (leb b a) a b → Toward (leb b a) a t.at → Tells a b (record { plus = leb b a; months = t.months; rest = abs_diff a t.at })
unfolding shift_of rest_of span
tells_shift a b t A B e w =
    let g : abs_diff a t.at ≡ gap (leb b a) t.at a = omega (arith, gap_is (leb b a) t.at a w) in
    tells a b _ A B (rw (g, e))
