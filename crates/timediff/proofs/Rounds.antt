-- The loop that backs off, in its own terms. Assumes nothing.
use mathlib.Core.Path.{◌≡◌, refl, sym, ◌∙◌, ap}
use mathlib.Core.Bool.{Bool, true, false}
use Prim.Native.Nat.{ℕ, ◌+◌, ◌-◌, ◌/◌, ◌%◌, ◌≤◌}
use native.Mathlib.Omega.{arith}
use Rattle.std.specs.Int.{abs_diff}
use Rattle.rules.specs.Calendar.{midnight, time_of_day, civil}
use Rattle.rules.specs.Writing.{month_of, in_month, back_off}
use Rattle.rules.specs.declared.Ymd.{Ymd}
use Rattle.calendar.specs.Ranges.{Countable, InRange}
use Rattle.calendar.proofs.Counting.{month_day}
use Rattle.timediff.specs.Spans.{moved, gap, past, Toward, month_at, shifted, passes, between, months_of, shift_of}
use Rattle.timediff.specs.declared.Shift.{Shift}
use Rattle.timediff.proofs.BackOff as off
use Rattle.timediff.proofs.Shifts.{gap_is, date, month_low, month_high, ordered, none_stays, years}
use Rattle.timediff.proofs.Numbers.{stays, two_suffice}

-- what stands before the loop, with n₀ months to start at
pub record Begun (plus : Bool) (a b : ℕ) (d : Ymd) (time from n₀ : ℕ) : Type 0 where
  pub A : InRange a
  pub B : InRange b
  pub way : Toward plus a b
  pub date_is : d ≡ civil b
  pub time_is : time ≡ time_of_day b
  pub from_is : from ≡ month_at b
  pub start_is : n₀ ≡ between plus a b

-- a round: n months are tried, and from them on the same months are found
pub record Round (plus : Bool) (a b n₀ n : ℕ) : Type 0 where
  pub up_to : n ≤ n₀
  pub same : back_off (passes plus a b) n ≡ back_off (passes plus a b) n₀

-- the code's calendar month of an instant
pub month_is : (t : ℕ) {k : ℕ} {d : Ymd} → d ≡ civil t → k ≡ month_of d → k ≡ month_at t
unfolding month_at
month_is t e f = f ∙ ap month_of e

pub begun : {plus : Bool} {a b time from to n : ℕ} {d : Ymd} → InRange a → InRange b → Toward plus a b → d ≡ civil b → time ≡ time_of_day b → from ≡ month_at b → to ≡ month_at a → n ≡ abs_diff from to → Begun plus a b d time from n
unfolding between
begun {plus} {a} {b} A B w date time from to n = record {
  A = A;
  B = B;
  way = w;
  date_is = date;
  time_is = time;
  from_is = from;
  start_is = n ∙ rw (from, to) (gap_is plus (month_at b) (month_at a) (ordered plus a b A B w));
}

pub first_round : {plus : Bool} {a b n : ℕ} → Round plus a b n n
first_round = record { up_to = omega arith; same = refl }

module _ {plus : Bool} {a b : ℕ} {d : Ymd} {time from n₀ n : ℕ} (s : Begun plus a b d time from n₀) (r : Round plus a b n₀ n) where
  up : n ≤ between plus a b
  up = rw s.start_is at r.up_to

  -- what the calls ask for
  pub movable : (n ≤ from) × (from ≤ 599999)
  unfolding between
  movable = rw s.from_is (go plus up, month_high b s.B)
    where
      go : (p : Bool) → n ≤ gap p (month_at b) (month_at a) → n ≤ month_at b
      go true l = omega (arith, month_low b s.B, month_high a s.A)
      go false l = omega arith

  pub countable : {k : ℕ} → k ≡ moved plus from n → Countable (k / 12) (k % 12 + 1) d.day
  countable e =
      let y = years plus a b s.A s.B s.way n up in
      let m = month_day (civil b).year (civil b).month (civil b).day (date b s.B).exists in
      rw (e, s.from_is, s.date_is) (record { year_low = y.0; year_high = y.1; fields = record { month_low = omega arith; month_high = omega arith; day_low = m.day_low; day_high = m.day_high } })

  -- what the calls find: the month k, B's instant in it, and whether that passes
  module _ {k at : ℕ} {t : Bool} (e : k ≡ moved plus from n) (f : at ≡ midnight (k / 12) (k % 12 + 1) d.day + time) (g : t ≡ past plus a at) where
    there : at ≡ shifted plus b n
    unfolding shifted in_month
    there = f ∙ rw (e, s.from_is, s.date_is, s.time_is)

    tested : t ≡ passes plus a b n
    unfolding passes
    tested = g ∙ ap (past plus a) there

    -- it passes: at most one back-off was made before this one
    pub again : t ≡ true → (1 ≤ n) × (n₀ ≤ n + 1) × Round plus a b n₀ (n - 1)
    unfolding months_of
    again h =
        let m = off.goes_on (passes plus a b) n (none_stays plus a b s.A s.B s.way) (sym tested ∙ h) in
        let l : n₀ ≤ back_off (passes plus a b) n₀ + 2 = rw s.start_is (two_suffice plus a b s.A s.B s.way) in
        (m.0, omega (arith, m.1, r.same, off.up_to (passes plus a b) (n - 1)), record { up_to = omega arith; same = m.1 ∙ r.same })

    -- it does not: the loop ends
    pub ends : t ≡ false → (◌≡◌ {A = Shift} (record { months = n; at = at }) (shift_of plus a b)) × Toward plus a at × (between plus a b ≤ n + 2)
    unfolding shift_of months_of
    ends h =
        let m : n ≡ back_off (passes plus a b) (between plus a b) = sym (off.stops_at (passes plus a b) n (sym tested ∙ h)) ∙ r.same ∙ ap (back_off (passes plus a b)) s.start_is in
        (rw (there, m), rw (there, m) (stays plus a b s.A s.B s.way), rw m (two_suffice plus a b s.A s.B s.way))
