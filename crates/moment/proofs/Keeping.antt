-- The ranges of the fields through each setter and each step by itself: the code's functions say it of themselves (`Filled`, `Moved`, and the
-- record's ghost fields), these of the rules' record. Assumes nothing.
use mathlib.Core.Bool.{Bool, true, false}
use mathlib.Core.Path.{◌≡◌, sym}
use Prim.Native.Nat.{ℕ, ◌+◌, ◌-◌, ◌*◌, ◌≤◌}
use native.Mathlib.Omega.{arith}
use lib.Dec.{eqb}
use lib.IntN.{ℤ}
use lib.Ieee.{Float}
use Rattle.rules.specs.Basics.{move}
use Rattle.rules.specs.Moments.{Moment, blank, no_zone, clear, set_time, set_timed, set_zone, set_raw, set_subsec, set_utc, set_local, set_counted, set_over, moved, count_ms, past_end, shift}
use Rattle.rules.specs.Modifiers.{signed, nearest_ms, at_ms}
use Rattle.rules.specs.Reading.{timed, settled, now, is_julian, raw_number}
use Rattle.rules.specs.declared.Time.{Time}
use Rattle.calendar.proofs.Years.{month_low}
use Rattle.real.specs.StepMost.{step_most}
use Rattle.real.proofs.Epoch.{julian_ms_lem}
use Rattle.moment.specs.Ranges.{TimeIn, TimeRead, Sane, Near, After}
use Rattle.moment.proofs.Branches.{never, either, by_test}
use Rattle.moment.proofs.Bounds.{Kept, count_kept}
use Rattle.moment.proofs.Ways.{move_back}

pub near_moved : (n t k : ℕ) (b : Bool) → k ≤ step_most → Near n t → Near (n + 1) (move t (signed b k) 1)
near_moved n t k false h a = omega arith
near_moved n t k true h a = rw (move_back t k 1) (omega arith)

-- ---- setters
no_date : {A : Type 0} → false ≡ true → A
no_date h = never (sym h)

clear_sane : (p : Moment) → Sane p → Sane (clear p)
clear_sane p s = record { date = s.date; time = record { hours = s.time.hours; minutes = s.time.minutes; seconds = no_date; zone_low = omega arith; zone_high = omega arith }; overs = s.overs }

pub clear_kept : (p : Moment) → Kept p (clear p)
clear_kept p n a = record { sane = clear_sane p a.sane; years = no_date; near = a.near }

pub over_kept : (p : Moment) → Kept p (set_over p 0)
over_kept p n a = record { sane = record { date = a.sane.date; time = a.sane.time; overs = omega arith }; years = a.years; near = a.near }

-- flags that no range asks for
pub utc_kept : (p : Moment) → Kept p (set_utc p)
utc_kept p n a = record { sane = a.sane; years = a.years; near = a.near }

pub local_kept : (p : Moment) → Kept p (set_local p)
local_kept p n a = record { sane = a.sane; years = a.years; near = a.near }

pub subsec_kept : (p : Moment) (b : Bool) → Kept p (set_subsec p b)
subsec_kept p b n a = record { sane = a.sane; years = a.years; near = a.near }

pub raw_kept : (p : Moment) (b : Bool) → Kept p (set_raw p b)
raw_kept p b n a = record { sane = a.sane; years = a.years; near = a.near }

pub counted_kept : (p : Moment) (b : Bool) → Kept p (set_counted p b)
counted_kept p b n a = record { sane = a.sane; years = a.years; near = a.near }

-- ---- the zone that is taken off, and the month's end
pub settled_kept : (p : Moment) → Kept p (settled p)
settled_kept p = either (λ (q : Moment). Kept p q) (eqb p.zone no_zone) p (count_ms p) (λ n a. a) (count_kept p)

pub end_kept : (p : Moment) → Kept p (past_end p)
unfolding past_end
end_kept p n a = record { sane = record { date = a.sane.date; time = a.sane.time; overs = omega (arith, month_low p.year p.month a.sane.date.month_low a.sane.date.month_high) }; years = a.years; near = a.near }

-- ---- what is read
no_time : {second : Float} → TimeIn 0 0 false second no_zone
no_time = record { hours = omega arith; minutes = omega arith; seconds = no_date; zone_low = omega arith; zone_high = omega arith }

pub after_timed : (t : Time) → TimeRead t → After 0 (timed t)
after_timed t b = either (λ (q : Moment). After 0 q) t.utc _ _ (record { sane = s; years = no_date; near = omega arith }) (record { sane = s; years = no_date; near = omega arith })
  where
    s : Sane (set_zone (set_timed (set_time blank t.hour t.minute t.second) true) t.zone)
    s = record { date = omega arith; time = b; overs = omega arith }

pub now_kept : (p : Moment) (clock : ℕ) → clock ≤ 253402300799999 → Kept p (now clock p)
now_kept p clock h n a = record { sane = a.sane; years = a.years; near = omega arith }

pub after_raw : (n : Float) → After 0 (raw_number n)
after_raw n =
    by_test (λ (q : Moment). After 0 q) (is_julian n) _ _ (λ h. let t = julian_ms_lem n h in record { sane = s; years = no_date; near = omega arith })
    (λ _. record { sane = s; years = no_date; near = omega arith })
  where
    s : Sane (set_raw (set_time blank 0 0 n) true)
    s = record { date = omega arith; time = no_time; overs = omega arith }

-- ---- the modifiers
pub moved_after : (n : ℕ) (p : Moment) (b : Bool) (k : ℕ) → k ≤ step_most → After n p → After (n + 1) (clear (moved p (signed b k) 1))
moved_after n p b k h a = record { sane = clear_sane p a.sane; years = no_date; near = near_moved n p.ms k b h a.near }

pub at_kept : (p : Moment) (r : Float) → nearest_ms r ≤ 464269060800000 → Kept p (at_ms p r)
at_kept p r h n a = record { sane = clear_sane p a.sane; years = no_date; near = omega arith }

-- a month shift, after which the year may lie out of range
pub sane_shift : (p : Moment) (z : ℤ) (k : ℕ) → Sane p → Sane (shift p z k)
unfolding shift
sane_shift p z k s = let m = move (p.year * 12 + (p.month - 1)) z k in record { date = record { month_low = omega arith; month_high = omega arith; day_low = s.date.day_low; day_high = s.date.day_high }; time = s.time; overs = s.overs }
