-- Either way by itself: from which month the code starts to back off, and what it makes of the shift forward and of the one back. `begun` of
-- Rounds and `tells_shift` of Answer say the same of both ways at once. Assumes nothing.
use mathlib.Core.Path.{◌≡◌, sym, ◌∙◌}
use mathlib.Core.Bool.{Bool, true, false}
use Prim.Native.Nat.{ℕ, ◌-◌, ◌≤◌, ◌<◌}
use borrow.Author.Tests.{lt-leb}
use Rattle.calendar.specs.Ranges.{InRange}
use Rattle.timediff.specs.Spans.{gap, Tells, month_at, between, months_of, rest_of, shift_of, span}
use Rattle.timediff.specs.declared.Shift.{Shift}
use Rattle.timediff.proofs.Answer.{span_plus, tells}

pub start_at_lem : (plus : Bool) (a b : ℕ) {from to n : ℕ} → from ≡ month_at b → to ≡ month_at a → n ≡ gap plus from to → n ≡ between plus a b
unfolding between
start_at_lem plus a b e f g = g ∙ rw (e, f)

pub span_minus : (a b : ℕ) → a < b → span a b ≡ record { plus = false; months = months_of false a b; rest = rest_of false a b }
unfolding span
span_minus a b h = rw (lt-leb b a h)

pub tells_plus : (a b : ℕ) (t : Shift) → InRange a → InRange b → b ≤ a → t ≡ shift_of true a b → Tells a b (record { plus = true; months = t.months; rest = a - t.at })
unfolding shift_of rest_of
tells_plus a b t A B h e = tells a b _ A B (rw e (sym (span_plus a b h)))

pub tells_minus : (a b : ℕ) (t : Shift) → InRange a → InRange b → a < b → t ≡ shift_of false a b → Tells a b (record { plus = false; months = t.months; rest = t.at - a })
unfolding shift_of rest_of
tells_minus a b t A B h e = tells a b _ A B (rw e (sym (span_minus a b h)))
