-- The month, day, hour and minute of a record have two digits at most, whatever it has gone through. Assumes nothing.
use Prim.Native.Nat.{ℕ, zero, suc, ◌+◌, ◌*◌, ◌≤◌, ◌<◌}
use mathlib.Core.Bool.{Bool, true, false, not, ◌&&◌, ◌||◌}
use mathlib.Core.Path.{◌≡◌, refl}
use mathlib.Core.List.{List, [], ◌∷◌}
use native.Mathlib.Omega.{arith}
use borrow.Author.Tests.{leb-true}
use lib.Dec.{leb, eqb}
use lib.IntN.{ℤ}
use lib.Ieee.{Float, binary64, of_int, eq}
use lib.ListN.{length, drop}
use Rattle.rules.specs.Basics.{ascii, is, word, past, front, skip, trim, Read, got, other, refuse, ◌>>=◌, ◌or◌, only_if, byte, digits, beside}
use Rattle.rules.specs.Calendar.{instant, last, in_range, time_of_day, civil}
use Rattle.rules.specs.Calls.{Value, absent, null, bytes, signed, float}
use Rattle.rules.specs.Calls as calls
use Rattle.rules.specs.Decimal.{decimal, sign}
use Rattle.rules.specs.Floats.{number, cut, whole, within, below}
use Rattle.rules.specs.Functions.{ranged, moment_of}
use Rattle.rules.specs.Modifiers as rule
use Rattle.rules.specs.Moments.{Moment, blank, no_zone, set_date, set_dated, set_counted, set_raw, set_over, clear, moved, count_ms, fill_date, on_time, fill_time, fill, past_end, shift}
use Rattle.rules.specs.Reading.{space, seconds, zone_in, time, timed, time_after, settled, date_from, date_form, time_form, now, raw_number, is_julian, number_form, text_value, time_value}
use Rattle.rules.specs.declared.Refusal.{Refusal}
use Rattle.rules.specs.declared.Setting.{Setting}
use Rattle.rules.specs.declared.Time.{Time}
use Rattle.calendar.proofs.Counting.{month_day}
use Rattle.calendar.proofs.Instants.{date_of_lem, time_high}
use Rattle.moment.proofs.Branches.{either}
use Rattle.moment.proofs.Steps.{count_cases, date_cases, time_cases}
use Rattle.text.proofs.Numbers.{digits_known}
use Rattle.text.proofs.Tests.{and_right}

-- ---- what holds of whatever is read
abbrev pub Reads : {A : Type 0} → (A → Type 0) → Read A → Type 0
Reads P (got a) = P a
Reads P other = Unit
Reads P (refuse x) = Unit

-- one thing after another, of which the first tells something or nothing
pub then_reads : {A B : Type 0} (Q : A → Type 0) (P : B → Type 0) (r : Read A) (k : A → Read B) → Reads Q r → ((a : A) → Q a → Reads P (k a)) → Reads P (◌>>=◌ r k)
then_reads Q P (got a) k h f = f a h
then_reads Q P other k h f = tt
then_reads Q P (refuse x) k h f = tt

after_any : {A B : Type 0} (P : B → Type 0) (r : Read A) (k : A → Read B) → ((a : A) → Reads P (k a)) → Reads P (◌>>=◌ r k)
after_any P (got a) k f = f a
after_any P other k f = tt
after_any P (refuse x) k f = tt

or_reads : {A : Type 0} (P : A → Type 0) (r s : Read A) → Reads P r → Reads P s → Reads P (r or s)
or_reads P (got a) s h k = h
or_reads P other s h k = k
or_reads P (refuse x) s h k = tt

only_reads : {A : Type 0} (P : A → Type 0) (b : Bool) (a : A) → P a → Reads P (only_if b a)
only_reads P true a h = h
only_reads P false a h = tt

-- a number within its limits
digits_most : (n lo hi : ℕ) (l : List ℕ) → Reads (λ (a : ℕ × List ℕ). a.0 ≤ hi) (digits n lo hi l)
digits_most n lo hi l = go (digits n lo hi l) refl
  where
    go : (r : Read (ℕ × List ℕ)) → digits n lo hi l ≡ r → Reads (λ (a : ℕ × List ℕ). a.0 ≤ hi) r
    go (got (v, t)) e = (digits_known n lo hi v l t e).1
    go other e = tt
    go (refuse x) e = tt

-- a table: what holds of each row
infixr 5 ◌then◌
pub data Rows {K A : Type 0} (P : A → Type 0) : List (K × A) → Type 0 where
  end : Rows P []
  ◌then◌ : {row : K × A} {rows : List (K × A)} → P row.1 → Rows P rows → Rows P (row ∷ rows)

beside_reads : {A : Type 0} (P : A → Type 0) (rows : List (List ℕ × A)) (s : List ℕ) → Rows P rows → Reads P (beside rows s)
unfolding beside
beside_reads P [] s end = tt
beside_reads P (row ∷ rows) s (h then hs) = either (λ r. Reads P r) (word row.0 s) (got row.1) (beside rows s) h (beside_reads P rows s hs)

-- ---- the fields
pub record Fields (month day hour minute : ℕ) : Type 0 where
  pub months : month < 100
  pub days : day < 100
  pub hours : hour < 100
  pub minutes : minute < 100

abbrev pub Few : Moment → Type 0
Few p = Fields p.month p.day p.hour p.minute

few_blank : Few blank
few_blank = omega arith

civil_few : (t : ℕ) → in_range t ≡ true → ((civil t).month < 100) × ((civil t).day < 100)
civil_few t h =
    let d = month_day _ _ _ (date_of_lem t (leb-true t last (and_right (leb (instant 0) t) _ h))).exists in
    omega arith

-- ---- the steps that fill a record
few_count : (p : Moment) → Few p → Few (count_ms p)
few_count p h = count_cases (λ (q : Moment). Few q) p (λ _. h) few_blank (λ t. h) (λ t. h)

few_date : (p : Moment) → Few p → Few (fill_date p)
few_date p h =
    date_cases (λ (q : Moment). Few q) p (λ _. h)
    (λ i. let c = civil_few p.ms i in record { months = c.0; days = c.1; hours = h.hours; minutes = h.minutes }) (λ _ _. few_blank)
    (λ _. record { months = omega arith; days = omega arith; hours = h.hours; minutes = h.minutes })

few_clock : (p : Moment) (t : ℕ) → t < 86400000 → Few p → Few (on_time p t)
few_clock p t l h = record { months = h.months; days = h.days; hours = omega arith; minutes = omega arith }

few_time : (p : Moment) → Few p → Few (fill_time p)
few_time p h = time_cases (λ (q : Moment). Few q) p (λ _. h) (few_clock (count_ms p) (time_of_day (count_ms p).ms) (time_high (count_ms p).ms) (few_count p h))

pub few_fill : (p : Moment) → Few p → Few (fill p)
unfolding fill
few_fill p h = few_time (fill_date p) (few_date p h)

few_end : (p : Moment) → Few p → Few (past_end p)
unfolding past_end
few_end p h = h

few_shift : (p : Moment) (n : ℤ) (k : ℕ) → Few p → Few (shift p n k)
unfolding shift
few_shift p n k h = record { months = omega arith; days = h.days; hours = h.hours; minutes = h.minutes }

-- ---- a time value
abbrev Daytime : Time → Type 0
Daytime t = (t.hour ≤ 24) × (t.minute ≤ 59)

time_reads : (s : List ℕ) → Reads Daytime (time s)
unfolding time
time_reads s =
    then_reads (λ (a : ℕ × List ℕ). a.0 ≤ 24) Daytime (digits 2 0 24 s) _ (digits_most 2 0 24 s)
    (λ a h. after_any Daytime (byte ":" a.1) _
    (λ s. then_reads (λ (b : ℕ × List ℕ). b.0 ≤ 59) Daytime (digits 2 0 59 s) _ (digits_most 2 0 59 s)
    (λ b m. after_any Daytime (seconds b.1) _
    (λ x. after_any Daytime (zone_in (skip space x.1)) _
    (λ z. (h, m))))))

few_timed : (t : Time) → Daytime t → Few (timed t)
few_timed t h = either (λ (q : Moment). Few q) t.utc _ _ fields fields
  where
    fields : Fields 1 1 t.hour t.minute
    fields = record { months = omega arith; days = omega arith; hours = omega (arith, h.0); minutes = omega (arith, h.1) }

few_time_form : (s : List ℕ) → Reads Few (time_form s)
unfolding time_form
few_time_form s = then_reads Daytime Few (time s) _ (time_reads s) few_timed

few_time_after : (s : List ℕ) → Reads Few (time_after s)
few_time_after [] = few_blank
few_time_after (b ∷ s) = then_reads Daytime Few (time (b ∷ s)) _ (time_reads (b ∷ s)) few_timed

few_settled : (p : Moment) → Few p → Few (settled p)
few_settled p h = either (λ (q : Moment). Few q) (eqb p.zone no_zone) p (count_ms p) h (few_count p h)

few_date_from : (held : ℕ → ℕ) (s : List ℕ) → Reads Few (date_from held s)
unfolding date_from
few_date_from held s =
    after_any Few (digits 4 0 9999 s) _
    (λ y. after_any Few (byte "-" y.1) _
    (λ s. then_reads (λ (a : ℕ × List ℕ). a.0 ≤ 12) Few (digits 2 1 12 s) _ (digits_most 2 1 12 s)
    (λ m mh. after_any Few (byte "-" m.1) _
    (λ s. then_reads (λ (a : ℕ × List ℕ). a.0 ≤ 31) Few (digits 2 1 31 s) _ (digits_most 2 1 31 s)
    (λ d dh. then_reads Few Few (time_after (skip (λ b. space b || is "T" b) d.1)) _ (few_time_after (skip (λ b. space b || is "T" b) d.1))
    (λ p h.
    let q = set_dated (set_date p (held y.0) m.0 d.0) true in
    let f : Few q = record { months = omega (arith, mh); days = omega (arith, dh); hours = h.hours; minutes = h.minutes } in
    few_settled (past_end q) (few_end q f)))))))

few_raw : (x : Float) → Few (raw_number x)
few_raw x = either (λ (q : Moment). Few q) (is_julian x) _ _ (omega arith) (omega arith)

few_text : (clock : ℕ) (s : List ℕ) → Reads Few (text_value clock s)
unfolding text_value date_form number_form
few_text clock s =
    or_reads Few (date_form s) _ (or_reads Few (date_from _ s) _ (few_date_from _ s) (after_any Few (byte "-" s) _ (few_date_from _)))
    (or_reads Few (time_form s) _ (few_time_form s)
    (or_reads Few (only_if (word (ascii "now") s) (now clock blank)) _ (only_reads Few (word (ascii "now") s) _ few_blank)
    (or_reads Few (number_form s) _ (after_any Few (decimal (trim space s)) _ few_raw)
    (or_reads Few (only_if (word (ascii "subsec") s || word (ascii "subsecond") s) _) _ (only_reads Few (word (ascii "subsec") s || word (ascii "subsecond") s) _ few_blank) tt))))

few_value : (clock : ℕ) (v : Value) → Reads Few (time_value clock v)
unfolding time_value
few_value clock absent = few_blank
few_value clock null = tt
few_value clock (bytes s) = few_text clock s
few_value clock (signed n) = few_raw (of_int binary64 n)
few_value clock (float x) = few_raw x

-- ---- one modifier
provided_reads : (b : Bool) (p : Moment) → Few p → Reads Few (rule.provided b p)
provided_reads true p h = h
provided_reads false p h = tt

first_reads : (i : ℕ) (r : Read Moment) → Reads Few r → Reads Few (rule.first i r)
first_reads zero r h = h
first_reads (suc i) r h = tt

-- the fields renewed, and the milliseconds counted anew from them
few_anew : (p : Moment) → Few p → Few (count_ms (set_counted (fill p) false))
few_anew p h = few_count (set_counted (fill p) false) (few_fill p h)

-- what begins keeps them
abbrev Starts : (Moment → Moment) → Type 0
Starts f = (q : Moment) → Few q → Few (f q)

module _ (p : Moment) (h : Few p) where
  -- and so do a word, and n of a unit
  abbrev Steps : (Moment → Read Moment) → Type 0
  Steps f = Reads Few (f p)

  abbrev Units : Float → (Float → Moment → Read Moment) → Type 0
  Units n f = Reads Few (f n p)

  few_auto : Few (rule.auto p)
  unfolding rule.auto
  few_auto = either (λ (q : Moment). Few q) (not p.raw || p.counted) _ _ h (either (λ (q : Moment). Few q) (rule.is_auto p.second) _ p h h)

  few_unix : Reads Few (rule.unix p)
  unfolding rule.unix
  few_unix = provided_reads (p.raw && rule.is_unix (rule.from_epoch p.second)) (rule.at_ms p (rule.from_epoch p.second)) h

  few_ceiling : Few (rule.ceiling p)
  unfolding rule.ceiling
  few_ceiling = few_count p h

  few_floor : Few (rule.floor p)
  unfolding rule.floor
  few_floor = few_count p h

  few_local : (offset : ℤ) → Few (rule.localtime offset p)
  unfolding rule.localtime
  few_local offset = either (λ (q : Moment). Few q) p.local p _ h (few_count p h)

  few_utc : (offset : ℤ) → Few (rule.utc offset p)
  unfolding rule.utc
  few_utc offset = either (λ (q : Moment). Few q) p.utc p _ h (few_count p h)

  few_words : (offset : ℤ) (i : ℕ) → Rows Steps (rule.words offset i)
  few_words offset i =
      first_reads i (got (rule.auto p)) few_auto
      then first_reads i (rule.julian p) (provided_reads (p.counted && p.raw) (set_raw p false) h)
      then first_reads i (rule.unix p) few_unix
      then few_ceiling
      then few_floor
      then few_local offset
      then few_utc offset
      then h
      then h
      then end

  few_weekday : (s : List ℕ) → Reads Few (rule.weekday s p)
  unfolding rule.weekday rule.to_weekday
  few_weekday s = after_any Few (rule.or_null (decimal (trim rule.wide_space s))) _ (λ x. provided_reads (within (number 0) x (number 7) && eq (number (whole x)) x) (rule.to_weekday (whole x) p) (few_anew p h))

  few_start : (s : List ℕ) → Reads Few (rule.start_of s p)
  unfolding rule.start_of
  few_start s =
      then_reads Starts Few (rule.or_null (beside rule.starts s)) _ (or_reads Starts (beside rule.starts s) _ (beside_reads Starts rule.starts s rows) tt)
      (λ f g. provided_reads (p.counted || (p.dated || p.timed)) (f (rule.day_start p)) (g (rule.day_start p) day))
    where
      month : Starts (λ q. set_date q q.year q.month 1)
      month q k = record { months = k.months; days = omega arith; hours = k.hours; minutes = k.minutes }

      year : Starts (λ q. set_date q q.year 1 1)
      year q k = record { months = omega arith; days = omega arith; hours = k.hours; minutes = k.minutes }

      rows : Rows Starts rule.starts
      rows = (λ q k. k) then month then year then end

      day : Few (rule.day_start p)
      day = let d = few_date p h in record { months = d.months; days = d.days; hours = omega arith; minutes = omega arith }

  few_date_step : (minus : Bool) (s : List ℕ) → Reads Few (rule.date_step minus s p)
  unfolding rule.date_step rule.by_date
  few_date_step minus s =
      after_any Few (digits 4 0 9999 s) _
      (λ y. after_any Few (byte "-" y.1) _
      (λ s. after_any Few (digits 2 0 11 s) _
      (λ m. after_any Few (byte "-" m.1) _
      (λ s. after_any Few (digits 2 0 30 s) _
      (λ d. after_any Few (rule.time_of d.1) _
      (λ t.
      let q = shift (set_counted (fill p) false) (rule.signed minus (y.0 * 12 + m.0)) 1 in
      few_count (past_end q) (few_end q (few_shift (set_counted (fill p) false) (rule.signed minus (y.0 * 12 + m.0)) 1 (few_fill p h)))))))))

  few_time_step : (minus : Bool) (s : List ℕ) → Reads Few (rule.time_step minus s p)
  unfolding rule.time_step
  few_time_step minus s = after_any Few (time s) _ (λ t. few_count p h)

  few_length : (limit unit n : Float) → Reads Few (rule.by_length limit unit n p)
  unfolding rule.by_length
  few_length limit unit n = provided_reads (below n limit) (set_over (clear (moved (count_ms p) (rule.unit_ms unit n) 1)) 0) (few_count p h)

  few_months : (limit : Float) (k : ℕ) (days n : Float) → Reads Few (rule.by_months limit k days n p)
  unfolding rule.by_months
  few_months limit k days n =
      let q = shift (fill p) (cut n) k in
      let r = set_counted (past_end q) false in
      provided_reads (below n limit) (clear (moved (count_ms r) (rule.fraction_ms days n) 1)) (few_count r (few_end q (few_shift (fill p) (cut n) k (few_fill p h))))

  few_unit_step : (s : List ℕ) → Reads Few (rule.unit_step s p)
  unfolding rule.unit_step
  few_unit_step s =
      let one = front (λ b. not (rule.wide_space b)) s in
      let two = front (λ b. not (rule.wide_space b)) (skip rule.wide_space (drop (length one) s)) in
      after_any Few (decimal one) _ (λ n. then_reads (Units n) Few (beside rule.units two) (λ f. f n p) (beside_reads (Units n) rule.units two (rows n)) (λ f g. g))
    where
      rows : (n : Float) → Rows (Units n) rule.units
      rows n =
          few_length _ _ n then few_length _ _ n then few_length _ _ n then few_length _ _ n then few_length _ _ n then few_length _ _ n then few_length _ _ n then few_length _ _ n
          then few_months _ _ _ n then few_months _ _ _ n then few_months _ _ _ n then few_months _ _ _ n then end

  few_arithmetic : (s : List ℕ) → Reads Few (rule.arithmetic s p)
  unfolding rule.arithmetic
  few_arithmetic s = or_reads Few (rule.date_step (sign s).0 (sign s).1 p) _ (few_date_step (sign s).0 (sign s).1) (or_reads Few (rule.time_step (sign s).0 (sign s).1 p) _ (few_time_step (sign s).0 (sign s).1) (few_unit_step s))

  few_modifier : (offset : ℤ) (i : ℕ) (s : List ℕ) → Reads Few (rule.modifier offset i s p)
  unfolding rule.modifier
  few_modifier offset i s =
      or_reads Few (◌>>=◌ (beside (rule.words offset i) s) (λ f. f p)) _ (then_reads Steps Few (beside (rule.words offset i) s) (λ f. f p) (beside_reads Steps (rule.words offset i) s (few_words offset i)) (λ f g. g))
      (or_reads Few (◌>>=◌ (past (ascii "weekday ") s) (λ s. rule.weekday s p)) _ (after_any Few (past (ascii "weekday ") s) (λ s. rule.weekday s p) few_weekday)
      (or_reads Few (◌>>=◌ (past (ascii "start of ") s) (λ s. rule.start_of s p)) _ (after_any Few (past (ascii "start of ") s) (λ s. rule.start_of s p) few_start)
      (or_reads Few (◌>>=◌ (only_if (rule.counts s) s) (λ s. rule.arithmetic (trim rule.wide_space s) p)) _ (after_any Few (only_if (rule.counts s) s) (λ s. rule.arithmetic (trim rule.wide_space s) p) (λ s. few_arithmetic (trim rule.wide_space s))) tt)))

-- ---- all of them, and the final range
few_modified : (offset : ℤ) (i : ℕ) (ms : List (List ℕ)) (p : Moment) → Few p → Reads Few (rule.modified offset i ms p)
unfolding rule.modified
few_modified offset i [] p h = h
few_modified offset i (m ∷ ms) p h = then_reads Few Few (rule.modifier offset i m p) _ (few_modifier p h offset i m) (λ q k. few_modified offset (suc i) ms q k)

few_ranged : (p : Moment) → Few p → Reads Few (ranged p)
unfolding ranged
few_ranged p h = either (λ (r : Read Moment). Reads Few r) (not (count_ms p).failed && in_range (count_ms p).ms) (got (count_ms p)) (refuse Refusal.Null) (few_count p h) tt

pub few_moment : (set : Setting) (v : Value) (m : List ℕ) → Reads Few (moment_of set v m)
unfolding moment_of
few_moment set v m =
    then_reads Few Few (time_value set.clock v) _ (few_value set.clock v)
    (λ p h. then_reads Few Few (rule.modified set.offset 0 (calls.modifiers m) p) ranged (few_modified set.offset 0 (calls.modifiers m) p h) few_ranged)
