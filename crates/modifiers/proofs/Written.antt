-- Numbers and times of day that were written in full read back. Assumes nothing.
use Rattle.std.proofs.Common.{if◌then◌else◌, ◌≡◌, ℕ, zero, suc, ◌+◌, ◌-◌, ◌*◌, ◌/◌, ◌%◌, ◌^◌, ◌<◌, ◌≤◌, max, Bool, true, false, ltb, List, [], ◌∷◌, ◌++◌, refl, ◌∙◌, pow-suc, arith, ltb-false}
use lib.Ieee.{Float}
use Rattle.rules.specs.Basics.{got, byte, digits, skip}
use Rattle.rules.specs.Calendar.{day_length}
use Rattle.rules.specs.Decimal.{run, value}
use Rattle.rules.specs.Floats.{number, ◌⊕◌}
use Rattle.rules.specs.Moments.{no_zone, seconds_ms}
use Rattle.rules.specs.Modifiers.{time_part}
use Rattle.rules.specs.Reading.{space, fraction_of, fraction, seconds_in, seconds, zone_in, time}
use Rattle.rules.specs.Writing.{places, width, wide}
use Rattle.rules.specs.declared.Time.{Time}
use Rattle.real.proofs.Seconds.{exact_ms}
use Rattle.text.proofs.Bytes.{digit_byte}
use Rattle.text.proofs.Numbers.{digits_written}

-- ---- a number that has no more digits than are asked for
width_most : (k n v : ℕ) → v < 10 ^ suc n → width k v ≤ suc n
unfolding width
width_most zero n v h = omega arith
width_most (suc k) n v h = go n h (ltb v 10) refl (λ m l. width_most k m (v / 10) l)
  where
    go : (n : ℕ) → v < 10 ^ suc n → (t : Bool) → ltb v 10 ≡ t → ((m : ℕ) → v / 10 < 10 ^ suc m → width k (v / 10) ≤ suc m) → (if t then 1 else suc (width k (v / 10))) ≤ suc n
    go n h true e f = omega arith
    go zero h false e f = absurd (omega (arith, ltb-false v 10 e))
    go (suc n) h false e f = let p = pow-suc 10 (suc n) in omega (arith, f n (omega arith))

pub wide_places : (n v : ℕ) → v < 10 ^ suc n → wide (suc n) v ≡ places (suc n) v
unfolding wide
wide_places n v h = let e : max (suc n) (width 19 v) ≡ suc n = omega (arith, width_most 19 n v h) in rw e

pub wide_read : (n lo hi v : ℕ) (t : List ℕ) → v < 10 ^ suc n → lo ≤ v → v ≤ hi → digits (suc n) lo hi (wide (suc n) v ++ t) ≡ got (v, t)
wide_read n lo hi v t h l k = rw (wide_places n v h) (digits_written (suc n) lo hi v t h l k)

-- ---- the milliseconds of a second
-- the three lowest decimal digits
abbrev lowest : ℕ → List ℕ
lowest v = v / 100 % 10 ∷ v / 10 % 10 ∷ v % 10 ∷ []

run_three : (v : ℕ) → run (places 3 v) ≡ (lowest v, [])
unfolding run places
run_three v =
    let a = digit_byte (v / 100 % 10) (omega arith) in
    let b = digit_byte (v / 10 % 10) (omega arith) in
    let c = digit_byte (v / 1 % 10) (omega arith) in
    let p : 48 + v / 100 % 10 - 48 ≡ v / 100 % 10 = omega arith in
    let q : 48 + v / 10 % 10 - 48 ≡ v / 10 % 10 = omega arith in
    let r : 48 + v / 1 % 10 - 48 ≡ v % 10 = omega arith in
    rw (a, b, c, p, q, r)

-- the seconds that are written, as they read
abbrev second_of : ℕ → Float
second_of v = number (v / 1000 % 60) ⊕ fraction_of (lowest v)

-- "With three digits or fewer the milliseconds are exactly those written."
second_ms : (v : ℕ) → seconds_ms (second_of v) ≡ v % 60000
unfolding value
second_ms v =
    let e : 1000 * value 0 (lowest v) ≡ v % 1000 * 1000 = omega arith in
    exact_ms (lowest v) (v / 1000 % 60) (omega arith, (omega arith, (omega arith, tt))) (omega arith) (omega arith) (v % 1000) (omega arith) e ∙ omega arith

-- ---- a time of day, to the millisecond: that of the last day of v milliseconds
abbrev pub clock_text : ℕ → List ℕ
clock_text v = wide 2 (v / 3600000 % 24) ++ (58 ∷ wide 2 (v / 60000 % 60) ++ (58 ∷ wide 2 (v / 1000 % 60) ++ (46 ∷ places 3 v)))

abbrev clock_time : ℕ → Time
clock_time v = record { hour = v / 3600000 % 24; minute = v / 60000 % 60; second = second_of v; zone = no_zone; utc = false }

-- part by part
time_of_lem : (l : List ℕ) {a b c d : List ℕ} {h m z : ℕ} {x : Float} {u : Bool} → digits 2 0 24 l ≡ got (h, a) → byte ":" a ≡ got b → digits 2 0 59 b ≡ got (m, c) → seconds c ≡ got (x, d) → zone_in (skip space d) ≡ got (z, u) → time l ≡ got (record { hour = h; minute = m; second = x; zone = z; utc = u })
unfolding time
time_of_lem l e f g i j = rw (e, f, g, i, j)

seconds_of_lem : (l : List ℕ) {c d : List ℕ} {n : ℕ} {x : Float} → digits 2 0 59 l ≡ got (n, c) → fraction c ≡ (x, d) → seconds (58 ∷ l) ≡ got (number n ⊕ x, d)
unfolding seconds seconds_in
seconds_of_lem l e f = rw (e, f)

three_read : (v : ℕ) → fraction (46 ∷ places 3 v) ≡ (fraction_of (lowest v), [])
unfolding fraction
three_read v = rw (run_three v)

pub clock_read : (v : ℕ) → time (clock_text v) ≡ got (clock_time v)
unfolding zone_in skip
clock_read v =
    time_of_lem _ (wide_read 1 0 24 (v / 3600000 % 24) _ (omega arith) (omega arith) (omega arith)) refl
    (wide_read 1 0 59 (v / 60000 % 60) _ (omega arith) (omega arith) (omega arith))
    (seconds_of_lem _ (wide_read 1 0 59 (v / 1000 % 60) _ (omega arith) (omega arith) (omega arith)) (three_read v))
    refl

-- minutes of a day, then hours
in_day : (m : ℕ) → m / 60 % 24 * 60 + m % 60 ≡ m % 1440
in_day m = let e : m / 60 / 24 ≡ m / 1440 = omega arith in omega arith

pub clock_ms_lem : (v : ℕ) → time_part (clock_time v) ≡ v % day_length
clock_ms_lem v =
    let m = v / 60000 in
    let h : v / 3600000 ≡ m / 60 = omega arith in
    let d : v / 86400000 ≡ m / 1440 = omega arith in
    rw (second_ms v, h) (omega (arith, in_day m))
