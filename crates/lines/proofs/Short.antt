-- No answer of a line is longer than 16,384 bytes. Assumes nothing.
--
-- A number has 20 digits at the most, so that only a long format makes a long text: one of 1,024 bytes, of which each letter takes two. No
-- letter writes more than 32, as the fields that three of them join have two digits.
use Prim.Native.Nat.{ℕ, zero, suc, ◌+◌, ◌-◌, ◌*◌, ◌/◌, ◌%◌, ◌≤◌}
use Rattle.std.specs.Prelude.{if◌then◌else◌}
use Prim.Native.Char.{Char}
use mathlib.Core.Bool.{Bool, true, false, ◌||◌}
use mathlib.Core.Path.{◌≡◌, refl, ap}
use mathlib.Core.List.{List, [], ◌∷◌, ◌++◌}
use native.Mathlib.Omega.{arith}
use borrow.Author.Tests.{ltb-false}
use lib.Dec.{T, eqb, ltb, leb, leb→le}
use lib.IntN.{ℤ, pos, negsuc}
use lib.Ieee.{Float, binary64, to_bits}
use lib.ListN.{length, length-append}
use Rattle.rules.specs.Basics.{ascii, is, trim_end, Read, got, other, refuse, ◌>>=◌, ◌or◌}
use Rattle.rules.specs.Calendar.{year, instant, day_of_year, since_monday, since_sunday, thursday, iso_week}
use Rattle.rules.specs.Calls.{Value, Call, call, strftime, timediff, Outcome, text, integer, real, refused, number_of, over, bytes_of, modifiers_bad, bad_shape}
use Rattle.rules.specs.Floats.{whole, decimals, negative}
use Rattle.rules.specs.Functions.{present, ranged, moment_of, renewed, outcome_of, reading, settle, answer}
use Rattle.rules.specs.Moments.{Moment, fill}
use Rattle.rules.specs.Program.{line_call, shown, line}
use Rattle.rules.specs.Reading.{time_value}
use Rattle.rules.specs.Writing.{width, wide, places, spaced, integer_text, signed_year, hour_minute, year_short, three_decimals, date_text, time_text, unix_seconds, unix_real, unix_text, julian_real, julian_text, julian_letter, dial, week, letters, writer, letter, before, formatted, shift_text, forward, backward, difference}
use Rattle.rules.specs.declared.Function.{Function}
use Rattle.rules.specs.declared.Refusal.{Refusal}
use Rattle.rules.specs.declared.Setting.{Setting}
use Rattle.digits.proofs.Decimal.{length_places, length_wide}
use Rattle.digits.proofs.Floats.{three_is}
use Rattle.digits.proofs.Hex.{length_hex}
use Rattle.digits.proofs.Lengths.{length_trim}
use Rattle.moment.proofs.Branches.{never, either}
use Rattle.writing.specs.Texts.{date_of, whole_time, half}
use Rattle.writing.proofs.Lengths.{length_date, length_clock, length_half}
use Rattle.lines.proofs.Few.{Reads, then_reads, Rows, end, ◌then◌, Few, few_fill, few_moment}
use Rattle.lines.proofs.Outcomes.{answer_holds, then_holds}

-- ---- numbers
width_most : (k v : ℕ) → width k v ≤ suc k
unfolding width
width_most zero v = omega arith
width_most (suc k) v = go (ltb v 10) (width_most k (v / 10))
  where
    go : (b : Bool) → width k (v / 10) ≤ suc k → (if b then 1 else suc (width k (v / 10))) ≤ suc (suc k)
    go true h = omega arith
    go false h = omega arith

wide_most : (n v : ℕ) → n ≤ 20 → length (wide n v) ≤ 20
wide_most n v h = omega (arith, length_wide n v, width_most 19 v)

integer_most : (z : ℤ) → length (integer_text z) ≤ 21
unfolding integer_text
integer_most (pos n) = omega (arith, wide_most 1 n (omega arith))
integer_most (negsuc n) = omega (arith, wide_most 1 (suc n) (omega arith))

-- one text or another
picked : (n : ℕ) (b : Bool) (s t : List ℕ) → length s ≤ n → length t ≤ n → length (if b then s else t) ≤ n
picked n b s t h k = either (λ (l : List ℕ). length l ≤ n) b s t h k

spaced_most : (v : ℕ) → length (spaced v) ≤ 32
unfolding spaced
spaced_most v = picked 32 (ltb v 10) (ascii " " ++ wide 1 v) (wide 2 v) (omega (arith, wide_most 1 v (omega arith))) (omega (arith, wide_most 2 v (omega arith)))

year_most : (k y : ℕ) → k ≤ 20 → length (signed_year k y) ≤ 21
unfolding signed_year
year_most k y h = picked 21 (leb (year 0) y) (wide 4 (y - year 0)) (ascii "-" ++ wide k (year 0 - y)) (omega (arith, wide_most 4 (y - year 0) (omega arith))) (omega (arith, wide_most k (year 0 - y) h))

short_most : (y : ℕ) → length (year_short y) ≤ 32
unfolding year_short
short_most y =
    picked 32 (leb (year 0) y || eqb ((year 0 - y) % 100) 0) (wide 2 ((y - year 0) % 100)) (ascii "-" ++ wide 1 ((year 0 - y) % 100))
    (omega (arith, wide_most 2 ((y - year 0) % 100) (omega arith))) (omega (arith, wide_most 1 ((year 0 - y) % 100) (omega arith)))

three_most : (n : ℕ) (x : Float) → n ≤ 20 → length (three_decimals n x) ≤ 24
three_most n x h =
    let t = decimals 3 x in
    omega (arith, ap length (three_is n x t refl), length-append (wide n (t / 1000)) (46 ∷ places 3 t), wide_most n (t / 1000) h, length_places 3 t)

unix_most : (p : Moment) → length (unix_text p) ≤ 32
unfolding unix_text
unix_most p = either (λ (l : List ℕ). length l ≤ 32) p.subsec _ _ (go (negative (unix_real p.ms))) (omega (arith, integer_most (unix_seconds p.ms)))
  where
    go : (b : Bool) → length ((if b then ascii "-" else []) ++ three_decimals 1 (unix_real p.ms)) ≤ 32
    go true = omega (arith, three_most 1 (unix_real p.ms) (omega arith))
    go false = omega (arith, three_most 1 (unix_real p.ms) (omega arith))

julian_most : (t : ℕ) → length (julian_text t) ≤ 30
unfolding julian_text
julian_most t =
    let n = decimals 9 (julian_real t) in
    let w = wide 1 (n / 1000000000) in
    let s = w ++ (46 ∷ []) ++ places 9 n in
    omega (arith, length_trim (is ".") (trim_end (is "0") s), length_trim (is "0") s, length-append (w ++ (46 ∷ [])) (places 9 n), length-append w (46 ∷ []), length_places 9 n, wide_most 1 (n / 1000000000) (omega arith))

-- ---- a letter
abbrev UpTo : ℕ → Read (List ℕ) → Type 0
UpTo n r = Reads (λ (s : List ℕ). length s ≤ n) r

abbrev Writes : Moment → (Moment → Read (List ℕ)) → Type 0
Writes p w = UpTo 32 (w p)

writer_most : (p : Moment) (rows : List (Char × (Moment → Read (List ℕ)))) (b : ℕ) → Rows (Writes p) rows → Reads (Writes p) (writer rows b)
unfolding writer
writer_most p [] b end = tt
writer_most p (row ∷ rows) b (h then hs) = either (λ (r : Read (Moment → Read (List ℕ))). Reads (Writes p) r) (is row.0 b) (got row.1) (writer rows b) h (writer_most p rows b hs)

julian_letter_lem : (t : ℕ) → UpTo 32 (julian_letter t)
unfolding julian_letter
julian_letter_lem t = either (UpTo 32) (ltb t (instant 86400000000000)) (refuse Refusal.Early) (got (julian_text t)) tt (omega (arith, julian_most t))

number : (n v : ℕ) → T (leb n 20) → length (wide n v) ≤ 32
number n v t = omega (arith, wide_most n v (leb→le n 20 t))

second : (x : Float) → length (three_decimals 2 x) ≤ 32
second x = omega (arith, three_most 2 x (omega arith))

year_few : (y : ℕ) → length (signed_year 3 y) ≤ 32
year_few y = omega (arith, year_most 3 y (omega arith))

half_few : (am pm : List ℕ) (h : ℕ) → length am ≡ 2 → length pm ≡ 2 → length (half am pm h) ≤ 32
half_few am pm h a b = omega (arith, length_half am pm h a b)

percent : length (ascii "%") ≤ 32
percent = omega arith

-- those that join fields: F, R and T
module _ (p : Moment) (h : Few p) where
  date_few : length (date_of 3 p) ≤ 32
  date_few = omega (arith, length_date p 3 h.months h.days, year_most 3 p.year (omega arith))

  clock_few : length (hour_minute p) ≤ 32
  clock_few = omega (arith, length_clock p h.hours h.minutes)

  time_few : length (whole_time p) ≤ 32
  time_few =
      let c = hour_minute p in
      omega (arith, length_clock p h.hours h.minutes, length-append (c ++ (58 ∷ [])) (wide 2 (whole p.second)), length-append c (58 ∷ []), wide_most 2 (whole p.second) (omega arith))

  rows_most : Rows (Writes p) letters
  unfolding letters
  rows_most =
      number 2 p.day tt
      then spaced_most p.day
      then date_few
      then second p.second
      then short_most (thursday p.ms).year
      then year_few (thursday p.ms).year
      then number 2 p.hour tt
      then number 2 (dial p.hour) tt
      then number 3 (day_of_year p.year p.month p.day + 1) tt
      then julian_letter_lem p.ms
      then spaced_most p.hour
      then spaced_most (dial p.hour)
      then number 2 p.month tt
      then number 2 p.minute tt
      then half_few (65 ∷ 77 ∷ []) (80 ∷ 77 ∷ []) p.hour refl refl
      then half_few (97 ∷ 109 ∷ []) (112 ∷ 109 ∷ []) p.hour refl refl
      then clock_few
      then unix_most p
      then number 2 (whole p.second) tt
      then time_few
      then number 1 (since_monday p.ms + 1) tt
      then number 2 (week p (since_sunday p.ms)) tt
      then number 2 (iso_week p.ms) tt
      then number 1 (since_sunday p.ms) tt
      then number 2 (week p (since_monday p.ms)) tt
      then year_few p.year
      then percent
      then end

letter_most : (p : Moment) → Few p → (b : ℕ) → UpTo 32 (letter b p)
unfolding letter
letter_most p h b = then_reads (Writes p) (λ (s : List ℕ). length s ≤ 32) (writer letters b) (λ w. w p) (writer_most p letters b (rows_most p h)) (λ w k. k)

-- ---- a format: 16 bytes for each of its own, at the most
before_most : (m n k : ℕ) (a b : Read (List ℕ)) → m + n ≤ k → UpTo m a → UpTo n b → UpTo k (before a b)
before_most m n k (got s) (got t) l h i = omega (arith, length-append s t)
before_most m n k (got s) other l h i = tt
before_most m n k (got s) (refuse x) l h i = tt
before_most m n k other b l h i = tt
before_most m n k (refuse x) b l h i = tt

format_most : (p : Moment) → Few p → (f : List ℕ) → UpTo (16 * length f) (formatted p f)
unfolding formatted
format_most p h [] = omega arith
format_most p h (b ∷ []) = either (UpTo 16) (is "%" b) (refuse Refusal.Null) (got (b ∷ [])) tt (omega arith)
format_most p h (b ∷ c ∷ s) =
    either (UpTo (16 * length (b ∷ c ∷ s))) (is "%" b) _ _
    (before_most 32 (16 * length s) _ (letter c p) (formatted p s) (omega arith) (letter_most p h c) (format_most p h s))
    (before_most 1 (16 * length (c ∷ s)) _ (got (b ∷ [])) (formatted p (c ∷ s)) (omega arith) (omega arith) (format_most p h (c ∷ s)))

-- "a format over 1,024" is refused
format_length : (f : List ℕ) (v : Value) (m : List ℕ) → bad_shape (strftime f v m) ≡ false → length f ≤ 1024
unfolding bad_shape
format_length f v m h = go (over 1024 f) refl h
  where
    go : (b : Bool) → over 1024 f ≡ b → (b || (over 255 (bytes_of v) || modifiers_bad m)) ≡ false → length f ≤ 1024
    go true e k = never k
    go false e k = ltb-false 1024 (length f) e

-- ---- the other texts
date_most : (p : Moment) → length (date_text p) ≤ 63
unfolding date_text
date_most p = simp length-append (omega (arith, year_most 4 p.year (omega arith), wide_most 2 p.month (omega arith), wide_most 2 p.day (omega arith)))

time_most : (p : Moment) → length (time_text p) ≤ 66
unfolding time_text
time_most p =
    let s = picked 24 p.subsec (three_decimals 2 p.second) (wide 2 (whole p.second)) (three_most 2 p.second (omega arith)) (omega (arith, wide_most 2 (whole p.second) (omega arith))) in
    simp length-append (omega (arith, s, wide_most 2 p.hour (omega arith), wide_most 2 p.minute (omega arith)))

shift_most : (n rest : ℕ) → length (shift_text n rest) ≤ 129
unfolding shift_text
shift_most n rest =
    simp length-append
    (omega (arith, wide_most 4 (n / 12) (omega arith), wide_most 2 (n % 12) (omega arith), wide_most 2 (rest / 86400000) (omega arith), wide_most 2 (rest / 3600000 % 24) (omega arith), wide_most 2 (rest / 60000 % 60) (omega arith), wide_most 2 (rest / 1000 % 60) (omega arith), length_places 3 rest))

signed_most : (c n rest : ℕ) → length (c ∷ shift_text n rest) ≤ 130
signed_most c n rest = omega (arith, shift_most n rest)

difference_most : (a b : ℕ) → length (difference a b) ≤ 130
unfolding difference forward backward
difference_most a b = picked 130 (leb b a) (forward a b) (backward a b) (signed_most 43 _ _) (signed_most 45 _ _)

-- ---- what comes of a call
abbrev Short : Outcome → Type 0
Short o = length (shown o) ≤ 16384

short_refused : (x : Refusal) → Short (refused x)
unfolding shown
short_refused x = picked 16384 (eqb (number_of x) 1) (ascii "null") (ascii "refused " ++ wide 1 (number_of x)) (omega arith) (omega (arith, wide_most 1 (number_of x) (omega arith)))

short_real : (x : Float) → Short (real x)
unfolding shown
short_real x = omega (arith, length_hex 16 (to_bits binary64 x))

short_integer : (z : ℤ) → Short (integer z)
unfolding shown
short_integer z = omega (arith, integer_most z)

short_outcome : (f : Function) (m : List ℕ) (p : Moment) → Short (outcome_of f m p)
unfolding outcome_of shown
short_outcome Function.Date m p = omega (arith, date_most (renewed m p))
short_outcome Function.Time m p = omega (arith, time_most (renewed m p))
short_outcome Function.Datetime m p = let q = renewed m p in omega (arith, length-append (date_text q ++ ascii " ") (time_text q), length-append (date_text q) (ascii " "), date_most q, time_most q)
short_outcome Function.Julianday m p = short_real (julian_real p.ms)
short_outcome Function.Unixepoch m p = either Short p.subsec (real (unix_real p.ms)) (integer (unix_seconds p.ms)) (short_real (unix_real p.ms)) (short_integer (unix_seconds p.ms))

short_reading : (set : Setting) (c : Call) → bad_shape c ≡ false → Short (settle (reading set c))
unfolding reading shown
short_reading set (call f v m) h = then_holds Short short_refused (moment_of set v m) (λ p. got (outcome_of f m p)) (λ p e. short_outcome f m p)
short_reading set (strftime f v m) h =
    then_holds Short short_refused (moment_of set v m) (λ p. ◌>>=◌ (formatted (fill p) f) (λ s. got (text s)))
    (λ p e. then_holds Short short_refused (formatted (fill p) f) (λ s. got (text s))
    (λ s g.
    let few : Few p = rw e at (few_moment set v m) in
    let most : length s ≤ 16 * length f = rw g at (format_most (fill p) (few_fill p few) f) in
    omega (arith, most, format_length f v m h)))
short_reading set (timediff a b) h =
    then_holds Short short_refused (time_value set.clock (present a)) _
    (λ p e. then_holds Short short_refused (time_value set.clock (present b)) _
    (λ q f. then_holds Short short_refused (ranged p) _
    (λ p g. then_holds Short short_refused (ranged q) _ (λ q h. omega (arith, difference_most p.ms q.ms)))))

-- "its buffer [is] 16,384 bytes": each answer finds room
pub line_short : (set : Setting) (s : List ℕ) → length (line set s) ≤ 16384
unfolding line
line_short set s =
    then_holds Short short_refused (line_call s or refuse Refusal.Shape) (λ c. got (answer set c)) (λ c e. answer_holds Short short_refused set c (short_reading set c))
