-- What the date form and the time form do, and that a text which timediff writes does exactly what it says. Assumes nothing.
use Rattle.std.proofs.Common.{◌≡◌, ℕ, zero, suc, ◌+◌, ◌-◌, ◌*◌, ◌/◌, ◌%◌, ◌^◌, ◌<◌, ◌≤◌, Bool, true, false, List, [], ◌∷◌, ◌++◌, ℤ, pos, neg_ℤ, refl, ap, ◌∙◌, append_assoc, arith, ne_eqb}
use lib.Ieee.{Float}
use Rattle.rules.specs.Basics.{if◌then◌else◌, move, ascii, Read, got, other, refuse, ◌or◌, byte, digits_on, digits, every, skip, trim_end, trim, word, beside}
use Rattle.rules.specs.Calendar.{day_length}
use Rattle.rules.specs.Decimal.{sign}
use Rattle.rules.specs.Floats.{cut, below}
use Rattle.rules.specs.Moments.{Moment, moved, clear, set_counted, count_ms, fill, past_end, shift}
use Rattle.rules.specs.Modifiers.{provided, wide_space, signed, fraction_ms, by_months, by_date, time_of, date_step, time_step, arithmetic, modifier}
use Rattle.rules.specs.Writing.{places, width, wide, shift_text}
use Rattle.text.proofs.Bytes.{digit_byte, not_space}
use Rattle.text.proofs.Reading.{or_got, or_other}
use Rattle.text.proofs.Tests.{and_false}
use Rattle.modifiers.proofs.Written.{wide_places, wide_read, clock_text, clock_read, clock_ms_lem}

-- ---- months first

-- the month shift: of `N months`, `N years` and the date form alike
abbrev pub months_on : ℤ → ℕ → Moment → Moment
months_on n k p = count_ms (past_end (shift (set_counted (fill p) false) n k))

pub by_months_lem : (limit : Float) (k : ℕ) (days n : Float) (p : Moment) → by_months limit k days n p ≡ provided (below n limit) (clear (moved (months_on (cut n) k p) (fraction_ms days n) 1))
unfolding by_months past_end shift
by_months_lem limit k days n p = refl

-- ---- then days, then milliseconds
back : (a n k : ℕ) → move a (neg_ℤ (pos n)) k ≡ a - n * k
back a zero k = omega arith
back a (suc n) k = refl

moves : (minus : Bool) (a d t : ℕ) → move a (signed minus (d * day_length + t)) 1 ≡ move (move a (signed minus d) day_length) (signed minus t) 1
moves true a d t = rw (back a (d * day_length + t) 1, back a d day_length, back (a - d * day_length) t 1) (omega arith)
moves false a d t = omega arith

pub by_date_lem : (minus : Bool) (y m d t : ℕ) (p : Moment) → by_date minus y m d t p ≡ clear (moved (moved (months_on (signed minus (y * 12 + m)) 1 p) (signed minus d) day_length) (signed minus t) 1)
unfolding by_date
by_date_lem minus y m d t p = rw (moves minus (months_on (signed minus (y * 12 + m)) 1 p).ms d t)

-- ---- texts that no whitespace begins or ends

not_wide : (d : ℕ) → wide_space (48 + d) ≡ false
not_wide d = rw (not_space (48 + d) (omega arith), ne_eqb (48 + d) 11 (omega arith))

skip_number : (n v : ℕ) (t : List ℕ) → v < 10 ^ suc n → skip wide_space (wide (suc n) v ++ t) ≡ wide (suc n) v ++ t
unfolding skip places
skip_number n v t h = rw (wide_places n v h, not_wide (v / 10 ^ n % 10))

-- the last byte is none of it
pub record Solid (l : List ℕ) : Type 0 where
  pub some : every wide_space l ≡ false
  pub same : trim_end wide_space l ≡ l

solid_cons : (b : ℕ) {l : List ℕ} → Solid l → Solid (b ∷ l)
unfolding every trim_end
solid_cons b s = record { some = rw s.some (and_false (wide_space b)); same = rw (s.some, and_false (wide_space b), s.same) }

solid_after : (x : List ℕ) {l : List ℕ} → Solid l → Solid (x ++ l)
solid_after [] s = s
solid_after (b ∷ x) s = solid_cons b (solid_after x s)

solid_places : (v : ℕ) → Solid (places 3 v)
unfolding places every trim_end
solid_places v = solid_cons _ (solid_cons _ (record { some = rw (not_wide (v / 1 % 10)); same = rw (not_wide (v / 1 % 10)) }))

solid_clock : (v : ℕ) → Solid (clock_text v)
solid_clock v = solid_after (wide 2 (v / 3600000 % 24)) (solid_cons 58 (solid_after (wide 2 (v / 60000 % 60)) (solid_cons 58 (solid_after (wide 2 (v / 1000 % 60)) (solid_cons 46 (solid_places v))))))

-- ---- the text of a shift
abbrev date_text : ℕ → ℕ → ℕ → List ℕ → List ℕ
date_text y m d t = wide 4 y ++ (45 ∷ wide 2 m ++ (45 ∷ wide 2 d ++ t))

shift_is : (n rest : ℕ) → shift_text n rest ≡ date_text (n / 12) (n % 12) (rest / day_length) (32 ∷ clock_text rest)
unfolding shift_text
shift_is n rest = simp append_assoc

time_after_lem : (v : ℕ) → time_of (32 ∷ clock_text v) ≡ got (v % day_length)
unfolding time_of
time_after_lem v = rw (skip_number 1 (v / 3600000 % 24) _ (omega arith), clock_read v) (ap got (clock_ms_lem v))

date_of_lem : (minus : Bool) (y m d t : ℕ) (l a b c e f : List ℕ) (p : Moment) → digits 4 0 9999 l ≡ got (y, a) → byte "-" a ≡ got b → digits 2 0 11 b ≡ got (m, c) → byte "-" c ≡ got e → digits 2 0 30 e ≡ got (d, f) → time_of f ≡ got t → date_step minus l p ≡ got (by_date minus y m d t p)
unfolding date_step
date_of_lem minus y m d t l a b c e f p h i j k n o = rw (h, i, j, k, n, o)

date_read : (minus : Bool) (y m d v : ℕ) (p : Moment) → y ≤ 9999 → m ≤ 11 → d ≤ 30 → date_step minus (date_text y m d (32 ∷ clock_text v)) p ≡ got (by_date minus y m d (v % day_length) p)
date_read minus y m d v p hy hm hd =
    date_of_lem minus y m d _ _ _ _ _ _ _ p (wide_read 3 0 9999 y _ (omega arith) (omega arith) hy) refl
    (wide_read 1 0 11 m _ (omega arith) (omega arith) hm) refl
    (wide_read 1 0 30 d _ (omega arith) (omega arith) hd) (time_after_lem v)

-- ---- a sign before it
abbrev pub sign_byte : Bool → ℕ
sign_byte minus = if minus then 45 else 43

no_value : {r : Moment} → other ≡ got r → ⊥
no_value h = let q : ◌≡◌ {A = ℕ} 0 1 = cc in omega arith

in_order : (a b c d : Read Moment) (r : Moment) → (a or b) ≡ got r → ((a or (b or c)) or d) ≡ got r
in_order (got x) b c d r h = h
in_order other (got x) c d r h = h
in_order other other c d r h = absurd (no_value h)
in_order other (refuse x) c d r h = h
in_order (refuse x) b c d r h = h

-- what counts is trimmed, and read as a date or else as a time
signed_read : (offset : ℤ) (i : ℕ) (minus : Bool) (l : List ℕ) (p r : Moment) → Solid l → (date_step minus l p or time_step minus l p) ≡ got r → modifier offset i (sign_byte minus ∷ l) p ≡ got r
unfolding modifier beside word arithmetic sign trim skip
signed_read offset i true l p r s h = rw (solid_cons 45 s).same (in_order (date_step true l p) (time_step true l p) _ _ r h)
signed_read offset i false l p r s h = rw (solid_cons 43 s).same (in_order (date_step false l p) (time_step false l p) _ _ r h)

-- A text that timediff writes, with four digits for the year, read as a modifier: exactly its years and months, then days, then milliseconds.
pub shift_read : (offset : ℤ) (i : ℕ) (minus : Bool) (n rest : ℕ) (p : Moment) → n / 12 ≤ 9999 → rest < 31 * day_length → modifier offset i (sign_byte minus ∷ shift_text n rest) p ≡ got (by_date minus (n / 12) (n % 12) (rest / day_length) (rest % day_length) p)
shift_read offset i minus n rest p hn hr =
    rw (shift_is n rest)
    (signed_read offset i minus _ p _ (solid_after (wide 4 (n / 12)) (solid_cons 45 (solid_after (wide 2 (n % 12)) (solid_cons 45 (solid_after (wide 2 (rest / day_length)) (solid_cons 32 (solid_clock rest)))))))
    (or_got _ (date_read minus (n / 12) (n % 12) (rest / day_length) rest p hn (omega arith) (omega arith))))

-- ---- a time, to the millisecond, moves by that

no_date : (minus : Bool) (v : ℕ) (t : List ℕ) (p : Moment) → v < 100 → date_step minus (wide 2 v ++ (58 ∷ t)) p ≡ other
unfolding date_step digits digits_on places
no_date minus v t p h = rw (wide_places 1 v h, digit_byte (v / 10 % 10) (omega arith), digit_byte (v / 1 % 10) (omega arith))

time_read : (minus : Bool) (v : ℕ) (p : Moment) → time_step minus (clock_text v) p ≡ got (clear (moved (count_ms p) (signed minus (v % day_length)) 1))
unfolding time_step
time_read minus v p = rw (clock_read v) (ap (λ (n : ℕ). got (clear (moved (count_ms p) (signed minus n) 1))) (clock_ms_lem v))

pub clock_moves : (offset : ℤ) (i : ℕ) (minus : Bool) (v : ℕ) (p : Moment) → modifier offset i (sign_byte minus ∷ clock_text v) p ≡ got (clear (moved (count_ms p) (signed minus (v % day_length)) 1))
clock_moves offset i minus v p = signed_read offset i minus (clock_text v) p _ (solid_clock v) (or_other _ (no_date minus (v / 3600000 % 24) _ p (omega arith)) ∙ time_read minus v p)

-- "Cutting the modifier's seconds loses a millisecond at 1.001."
pub second_and_one : (offset : ℤ) (i : ℕ) (p : Moment) → modifier offset i (ascii "+00:00:01.001") p ≡ got (clear (moved (count_ms p) (pos 1001) 1))
unfolding wide places width
second_and_one offset i p = clock_moves offset i false 1001 p
