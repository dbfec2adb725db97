-- What each modifier's step of the rules gives, case by case, with the milliseconds moved so far one way or the other. Assumes nothing.
use mathlib.Core.Bool.{Bool, true, false, not, ◌&&◌}
use Rattle.std.specs.Prelude.{if◌then◌else◌}
use mathlib.Core.List.{[]}
use mathlib.Core.Path.{◌≡◌, refl, sym, ap, ◌∙◌}
use Prim.Native.Nat.{ℕ, ◌+◌, ◌-◌, ◌*◌, ◌/◌, ◌%◌, ◌≤◌, ◌<◌}
use borrow.Author.Tests.{leb-true, not-true, lt-ltb, le-ltb}
use lib.Dec.{leb, ltb}
use lib.IntN.{ℤ, pos, neg_ℤ, ◌*ℤ◌}
use lib.Ieee.{Float}
use Rattle.rules.specs.Basics.{got, refuse}
use Rattle.rules.specs.Floats.{cut}
use Rattle.rules.specs.Calendar.{instant, last, in_range, day_length}
use Rattle.rules.specs.Functions.{ranged, renewed}
use Rattle.rules.specs.Moments.{Moment, clear, moved, set_ms, set_date, set_counted, set_dated, set_over, set_raw, set_utc, set_local, count_ms, fill, past_end, shift}
use Rattle.rules.specs.Modifiers.{at_ms, fraction_ms, from_epoch, is_auto, auto, julian, is_unix, unix, floor, localtime, utc, days_on, to_weekday, signed, by_date}
use Rattle.rules.specs.declared.Refusal.{Refusal}
use Rattle.real.proofs.Tests.{and_left, and_right}
use Rattle.moment.specs.Ranges.{Ranged}
use Rattle.moment.specs.Steps.{date_on, months_on}
use Rattle.moment.proofs.Branches.{never, branch_false}
use Rattle.moment.proofs.Steps.{count_cases}
use Rattle.moment.proofs.Ways.{move_back, move_times, move_product}

-- ---- the milliseconds moved, and the fields cleared
abbrev pub step : ℤ → Moment → Moment
step z p = clear (moved p z 1)

-- ---- `auto`
pub auto_known : (p : Moment) → p.raw ≡ false → auto p ≡ set_raw p false
unfolding auto
auto_known p h = rw h

pub auto_day : (p : Moment) → p.raw ≡ true → p.counted ≡ true → auto p ≡ set_raw p false
unfolding auto
auto_day p h k = rw (h, k)

pub auto_in : (p : Moment) → p.raw ≡ true → p.counted ≡ false → is_auto p.second ≡ true → auto p ≡ at_ms p (from_epoch p.second)
unfolding auto
auto_in p h k i = rw (h, k, i)

-- ---- `julianday`
pub julian_uncounted : (p : Moment) → p.counted ≡ false → julian p ≡ refuse Refusal.Null
julian_uncounted p h = rw h

pub julian_known : (p : Moment) → p.counted ≡ true → p.raw ≡ false → julian p ≡ refuse Refusal.Null
julian_known p h k = rw (h, k)

pub julian_day : (p : Moment) → p.counted ≡ true → p.raw ≡ true → julian p ≡ got (set_raw p false)
julian_day p h k = rw (h, k)

-- ---- `unixepoch`
pub unix_in : (p : Moment) → p.raw ≡ true → is_unix (from_epoch p.second) ≡ true → unix p ≡ got (at_ms p (from_epoch p.second))
unfolding unix
unix_in p h k = rw (h, k)

-- ---- `floor`
pub floor_is : (p : Moment) → set_over (step (neg_ℤ (pos ((count_ms p).over * day_length))) (count_ms p)) 0 ≡ floor p
unfolding floor
floor_is p =
    let q = count_ms p in
    ap (λ (t : ℕ). set_over (clear (set_ms q t)) 0) (sym (move_times q.ms true q.over day_length) ∙ move_back q.ms q.over day_length)

-- ---- `localtime`, `utc`
pub local_stays : (z : ℤ) (p : Moment) → p.local ≡ true → localtime z p ≡ p
unfolding localtime
local_stays z p h = rw h

pub local_is : (z : ℤ) (p : Moment) → p.local ≡ false → set_local (step (z *ℤ pos 1000) (count_ms p)) ≡ localtime z p
unfolding localtime
local_is z p h =
    let q = count_ms p in
    ap (λ (t : ℕ). set_local (clear (set_ms q t))) (sym (move_product q.ms z 1000)) ∙ sym (branch_false p.local p (set_local (clear (moved q z 1000))) h)

pub utc_stays : (z : ℤ) (p : Moment) → p.utc ≡ true → utc z p ≡ p
unfolding utc
utc_stays z p h = rw h

pub utc_is : (z : ℤ) (p : Moment) → p.utc ≡ false → set_utc (step (neg_ℤ z *ℤ pos 1000) (count_ms p)) ≡ utc z p
unfolding utc
utc_is z p h =
    let q = count_ms p in
    ap (λ (t : ℕ). set_utc (clear (set_ms q t))) (sym (move_product q.ms (neg_ℤ z) 1000)) ∙ sym (branch_false p.utc p (set_utc (clear (moved q (neg_ℤ z) 1000))) h)

-- ---- `weekday`: days are counted from the start of -4713-11-23
pub weekday_is : (n : ℕ) (p : Moment) → let q = count_ms (set_counted (fill p) false) in step (pos (days_on n q.ms * day_length)) q ≡ to_weekday n p
unfolding to_weekday
weekday_is n p = let q = count_ms (set_counted (fill p) false) in ap (λ (t : ℕ). clear (set_ms q t)) (sym (move_times q.ms false (days_on n q.ms) day_length))

-- ---- a month shift: k months n times are so many at once
pub months_are : (k : ℕ) (days n : Float) (p : Moment) → date_on (cut n *ℤ pos k) (fraction_ms days n) p ≡ months_on k days n p
unfolding shift past_end
months_are k days n p =
    let q = fill p in
    ap (λ (m : ℕ). step (fraction_ms days n) (count_ms (past_end (set_counted (set_date q (m / 12) (m % 12 + 1) q.day) false)))) (sym (move_product (q.year * 12 + (q.month - 1)) (cut n) k))

-- ---- a date with a sign is so many months and milliseconds
pub by_date_is : {months ms : ℤ} (minus : Bool) (y m d t : ℕ) (p : Moment) → months ≡ signed minus (y * 12 + m) → ms ≡ signed minus (d * day_length + t) → date_on months ms p ≡ by_date minus y m d t p
unfolding by_date
by_date_is minus y m d t p h k = rw (h, k)

-- ---- the final range
pub counted_or_failed : (p : Moment) → (count_ms p).failed ≡ false → (count_ms p).counted ≡ true
counted_or_failed p = count_cases (λ (q : Moment). q.failed ≡ false → q.counted ≡ true) p (λ h _. h) (λ h. never h) (λ _ _. refl) (λ _ _. refl)

-- no sum failed, and the milliseconds are in range
abbrev pub passes : Moment → Bool
passes q = not q.failed && in_range q.ms

pub range_out : (p : Moment) → passes (count_ms p) ≡ false → ranged p ≡ refuse Refusal.Null
unfolding ranged
range_out p h = rw h

pub range_in : (p : Moment) → (count_ms p).failed ≡ false → in_range (count_ms p).ms ≡ true → ranged p ≡ got (count_ms p)
unfolding ranged
range_in p h k = rw (h, k)

passed : (q : Moment) → passes q ≡ true → (q.failed ≡ false) × (in_range q.ms ≡ true)
passed q h = (not-true q.failed (and_left (not q.failed) _ h), and_right (not q.failed) _ h)

pub range_passed : (p : Moment) → passes (count_ms p) ≡ true → ranged p ≡ got (count_ms p)
range_passed p h = let a = passed (count_ms p) h in range_in p a.0 a.1

pub range_lands : (p q : Moment) → q ≡ count_ms p → passes q ≡ true → Ranged q
range_lands p q e h =
    let a = passed q h in
    record {
      ranged = record { from = leb-true (instant 0) q.ms (and_left _ (leb q.ms last) a.1); to = leb-true q.ms last (and_right (leb (instant 0) q.ms) _ a.1) };
      stands = ap (λ (x : Moment). x.counted) e ∙ counted_or_failed p (ap (λ (x : Moment). x.failed) (sym e) ∙ a.0);
    }

-- ---- "renew a day above 28"
pub renew_not : (p : Moment) → p.day ≤ 28 → fill p ≡ renewed [] p
unfolding renewed
renew_not p h = go p.dated
  where
    go : (b : Bool) → fill p ≡ fill (if b && ltb 28 p.day then set_dated p false else p)
    go true = rw (le-ltb 28 p.day h)
    go false = refl

pub renew : (p : Moment) → 28 < p.day → fill (set_dated p false) ≡ renewed [] p
unfolding renewed
renew p h = go p.dated refl
  where
    go : (b : Bool) → p.dated ≡ b → fill (set_dated p false) ≡ fill (if b && ltb 28 p.day then set_dated p false else p)
    go true e = rw (lt-ltb 28 p.day h)
    go false e = ap (λ (b : Bool). fill (set_dated p b)) (sym e)
