-- Where `fill` takes a remainder of days, it is the Rust's, which cuts toward zero: a time below noon of -4713-11-24 is reached there only
-- at a midnight. For no record that a modifier is given has both its date and its milliseconds standing. Assumes nothing.
use Prim.Native.Nat.{ℕ, zero, suc, ◌+◌, ◌-◌, ◌*◌, ◌/◌, ◌%◌, ◌≤◌, ◌<◌}
use Rattle.std.specs.Prelude.{if◌then◌else◌}
use mathlib.Core.Bool.{Bool, true, false, not, ◌&&◌, ◌||◌}
use mathlib.Core.Path.{◌≡◌, refl, sym, ap, ◌∙◌, subst}
use mathlib.Core.List.{List, [], ◌∷◌}
use mathlib.Core.Logic.{◌⊎◌, inl, inr}
use native.Mathlib.Omega.{arith}
use borrow.Author.Tests.{leb-true, leb-false}
use lib.Dec.{eqb, leb}
use lib.IntN.{ℤ, pos, neg_ℤ}
use lib.Ieee.{Float, binary64, of_int, eq}
use Rattle.rules.specs.Floats.{number, whole, within, below}
use Rattle.rules.specs.Basics.{ascii, is, word, beside, past, only_if, byte, digits, skip, trim, Read, got, other, refuse, ◌or◌, ◌>>=◌}
use Rattle.rules.specs.Calendar.{year, minus_year, instant, last, day_length, half_day, leap, month_lengths, sum, years, before_month, day_of_year, days_to, day_zero, start, midnight, time_of_day, in_range, civil}
use Rattle.rules.specs.Calls.{Value, absent, null, bytes, signed, float}
use Rattle.rules.specs.Decimal.{decimal}
use Rattle.rules.specs.Moments.{Moment, no_zone, failure, counted, set_ms, set_date, set_dated, set_utc, clear, time_ms, with_time, sum_of, count_ms, on_date, fill_date, past_end}
use Rattle.rules.specs.Reading.{space, time, timed, time_after, settled, date_from, date_form, time_form, is_julian, raw_number, number_form, text_value, time_value}
use Rattle.rules.specs.Modifiers.{provided, or_null, first, words, starts, units, is_auto, auto, from_epoch, is_unix, unix, ceiling, floor, localtime, utc, to_weekday, weekday, day_start, start_of, by_date, date_step, time_step, time_of, by_length, by_months, unit_step, arithmetic, modifier, counts, wide_space}
use Rattle.rules.specs.declared.Time.{Time}
use Rattle.rules.specs.declared.Refusal.{Refusal}

-- what holds of a value that is read, if one is
pub data Gives {A : Type 0} (P : A → Type 0) : Read A → Type 0 where
  it : {a : A} → P a → Gives P (got a)
  none : Gives P other
  ends : {r : Refusal} → Gives P (refuse r)

gives_bind : {A B : Type 0} (P : B → Type 0) (Q : A → Type 0) (r : Read A) (f : A → Read B) → Gives Q r → ((a : A) → Q a → Gives P (f a)) → Gives P (◌>>=◌ r f)
gives_bind P Q (got a) f (it q) h = h a q
gives_bind P Q other f q h = none
gives_bind P Q (refuse x) f q h = ends

-- where nothing is known of what is read first
gives_then : {A B : Type 0} (P : B → Type 0) (r : Read A) (f : A → Read B) → ((a : A) → Gives P (f a)) → Gives P (◌>>=◌ r f)
gives_then P (got a) f h = h a
gives_then P other f h = none
gives_then P (refuse x) f h = ends

gives_or : {A : Type 0} (P : A → Type 0) (a b : Read A) → Gives P a → Gives P b → Gives P (a or b)
gives_or P (got a) b h k = h
gives_or P other b h k = k
gives_or P (refuse x) b h k = ends

either : {A : Type 0} (P : A → Type 0) (b : Bool) (x y : A) → P x → P y → P (if b then x else y)
either P true x y h k = h
either P false x y h k = k

gives_only : {A : Type 0} (P : A → Type 0) (b : Bool) (a : A) → P a → Gives P (only_if b a)
gives_only P true a h = it h
gives_only P false a h = none

gives_provided : (P : Moment → Type 0) (b : Bool) (p : Moment) → P p → Gives P (provided b p)
gives_provided P true p h = it h
gives_provided P false p h = ends

-- a test's outcome picks the branch
never : {A : Type 0} → true ≡ false → A
never h = let q : ◌≡◌ {A = ℕ} 0 1 = ap (λ (b : Bool). if b then 0 else 1) h in absurd (omega arith)

branch_true : {A : Type 0} (b : Bool) (x y : A) → b ≡ true → (if b then x else y) ≡ x
branch_true true x y h = refl
branch_true false x y h = never (sym h)

branch_false : {A : Type 0} (b : Bool) (x y : A) → b ≡ false → (if b then x else y) ≡ y
branch_false true x y h = never h
branch_false false x y h = refl

-- ---- the date and the milliseconds do not both stand

abbrev pub Fresh : Moment → Type 0
Fresh p = (p.dated && p.counted) ≡ false

and_false : (b : Bool) → (b && false) ≡ false
and_false true = refl
and_false false = refl

-- ---- reading

-- a time that is read: no date, no milliseconds
timed_fresh : (t : Time) → ((timed t).dated ≡ false) × ((timed t).counted ≡ false) × ((timed t).timed ≡ true)
timed_fresh t = either (λ (p : Moment). (p.dated ≡ false) × (p.counted ≡ false) × (p.timed ≡ true)) t.utc _ _ (refl, refl, refl) (refl, refl, refl)

-- what stands after a date: the zone is none, or the time stands too
abbrev After : Moment → Type 0
After p = (p.counted ≡ false) × ((p.zone ≡ no_zone) ⊎ (p.timed ≡ true))

after_date : (s : List ℕ) → Gives After (time_after s)
after_date [] = it (refl, inl refl)
after_date (b ∷ s) = gives_then After (time (b ∷ s)) (λ t. got (timed t)) (λ t. it ((timed_fresh t).1, inr (timed_fresh t).2))

unsummed : (p : Moment) → p.counted ≡ false → Fresh p
unsummed p h = ap (λ (b : Bool). p.dated && b) h ∙ and_false p.dated

-- a sum that takes a zone off leaves no date
with_zone : (p : Moment) → p.timed ≡ true → eqb p.zone no_zone ≡ false → (with_time p).dated ≡ false
unfolding with_time
with_zone p h k = rw (h, k)

undated : (b : Bool) (p q : Moment) → p.dated ≡ false → q.dated ≡ false → (if b then p else q).dated ≡ false
undated true p q h k = h
undated false p q h k = k

sum_zone : (p : Moment) (y m d : ℕ) → p.timed ≡ true → eqb p.zone no_zone ≡ false → (sum_of p y m d).dated ≡ false
unfolding sum_of
sum_zone p y m d h k = undated (leb (minus_year 4713) y && (leb y (year 9999) && not p.raw)) (with_time (counted p (midnight y m d))) failure (with_zone (counted p (midnight y m d)) h k) refl

-- a record without milliseconds is summed
pub summed : (p : Moment) → p.counted ≡ false → count_ms p ≡ (if p.dated then sum_of p p.year p.month p.day else sum_of p (year 2000) 1 1)
unfolding count_ms
summed p c = branch_false p.counted p (if p.dated then sum_of p p.year p.month p.day else sum_of p (year 2000) 1 1) c

count_zone : (p : Moment) → p.counted ≡ false → p.timed ≡ true → eqb p.zone no_zone ≡ false → (count_ms p).dated ≡ false
count_zone p c h k = ap (λ (q : Moment). q.dated) (summed p c) ∙ undated p.dated (sum_of p p.year p.month p.day) (sum_of p (year 2000) 1 1) (sum_zone p _ _ _ h k) (sum_zone p _ _ _ h k)

no_date : (p : Moment) → p.dated ≡ false → Fresh p
no_date p h = ap (λ (b : Bool). b && p.counted) h

settled_fresh : (p : Moment) → After p → Fresh (settled p)
settled_fresh p (c, z) = go (eqb p.zone no_zone) refl z
  where
    go : (b : Bool) → eqb p.zone no_zone ≡ b → (p.zone ≡ no_zone) ⊎ (p.timed ≡ true) → Fresh (if b then p else count_ms p)
    go true e z = unsummed p c
    go false e (inl z) = never (sym (ap (λ (n : ℕ). eqb n no_zone) z) ∙ e)
    go false e (inr t) = no_date (count_ms p) (count_zone p c t e)

after_known : (held : ℕ → ℕ) (p : Moment) (y m d : ℕ) → After p → After (past_end (set_dated (set_date p (held y) m d) true))
unfolding past_end
after_known held p y m d h = h

date_fresh : (held : ℕ → ℕ) (s : List ℕ) → Gives Fresh (date_from held s)
unfolding date_from
date_fresh held s =
    gives_then Fresh (digits 4 0 9999 s) _ (λ (y, s).
    gives_then Fresh (byte "-" s) _ (λ s.
    gives_then Fresh (digits 2 1 12 s) _ (λ (m, s).
    gives_then Fresh (byte "-" s) _ (λ s.
    gives_then Fresh (digits 2 1 31 s) _ (λ (d, s).
    gives_bind Fresh After (time_after (skip (λ b. space b || is "T" b) s)) _ (after_date (skip (λ b. space b || is "T" b) s)) (λ p h. it (settled_fresh (past_end (set_dated (set_date p (held y) m d) true)) (after_known held p y m d h))))))))

-- what a time value reads to
time_fresh : (s : List ℕ) → Gives Fresh (time_form s)
unfolding time_form
time_fresh s = gives_then Fresh (time s) _ (λ t. it (no_date (timed t) (timed_fresh t).0))

number_fresh : (n : Float) → Fresh (raw_number n)
number_fresh n = either Fresh (is_julian n) _ _ refl refl

pub value_fresh : (clock : ℕ) (v : Value) → Gives Fresh (time_value clock v)
unfolding time_value text_value date_form number_form
value_fresh clock absent = it refl
value_fresh clock null = ends
value_fresh clock (signed n) = it (number_fresh (of_int binary64 n))
value_fresh clock (float x) = it (number_fresh x)
value_fresh clock (bytes s) =
    gives_or Fresh _ _ (gives_or Fresh _ _ (date_fresh year s) (gives_then Fresh (byte "-" s) _ (λ s. date_fresh minus_year s)))
    (gives_or Fresh _ _ (time_fresh s)
    (gives_or Fresh _ _ (gives_only Fresh (word (ascii "now") s) _ refl)
    (gives_or Fresh _ _ (gives_then Fresh (decimal (trim space s)) _ (λ x. it (number_fresh x)))
    (gives_or Fresh _ _ (gives_only Fresh (word (ascii "subsec") s || word (ascii "subsecond") s) _ refl) ends))))

-- ---- modifiers

-- what a table's steps keep
abbrev Keeps : (Moment → Read Moment) → Type 0
Keeps f = (p : Moment) → Fresh p → Gives Fresh (f p)

infixr 5 ◌and◌
data Rows {A : Type 0} (Q : A → Type 0) : List (List ℕ × A) → Type 0 where
  all : Rows Q []
  ◌and◌ : {row : List ℕ × A} {rows : List (List ℕ × A)} → Q row.1 → Rows Q rows → Rows Q (row ∷ rows)

gives_beside : {A : Type 0} (Q : A → Type 0) (rows : List (List ℕ × A)) (s : List ℕ) → Rows Q rows → Gives Q (beside rows s)
unfolding beside
gives_beside Q [] s h = none
gives_beside Q (row ∷ rows) s (h and hs) = either (Gives Q) (word row.0 s) _ _ (it h) (gives_beside Q rows s hs)

gives_first : (i : ℕ) (r : Read Moment) → Gives Fresh r → Gives Fresh (first i r)
gives_first zero r h = h
gives_first (suc i) r h = ends

auto_fresh : (p : Moment) → Fresh p → Fresh (auto p)
unfolding auto
auto_fresh p h = either Fresh (not p.raw || p.counted) _ _ h (either Fresh (is_auto p.second) _ _ refl h)

words_keep : (offset : ℤ) (i : ℕ) → Rows Keeps (words offset i)
unfolding unix ceiling floor localtime utc
words_keep offset i =
    (λ p h. gives_first i _ (it (auto_fresh p h)))
    and (λ p h. gives_first i _ (gives_provided Fresh (p.counted && p.raw) _ h))
    and (λ p h. gives_first i _ (gives_provided Fresh (p.raw && is_unix (from_epoch p.second)) _ refl))
    and (λ p h. it refl)
    and (λ p h. it refl)
    and (λ p h. it (either Fresh p.local _ _ h refl))
    and (λ p h. it (either Fresh p.utc _ _ h refl))
    and (λ p h. it h)
    and (λ p h. it h)
    and all

gives_or_null : {A : Type 0} (P : A → Type 0) (r : Read A) → Gives P r → Gives P (or_null r)
gives_or_null P r h = gives_or P r (refuse Refusal.Null) h ends

weekday_fresh : (s : List ℕ) (p : Moment) → Gives Fresh (weekday s p)
unfolding weekday to_weekday
weekday_fresh s p = gives_then Fresh (or_null (decimal (trim wide_space s))) _ (λ x. gives_provided Fresh (within (number 0) x (number 7) && eq (number (whole x)) x) _ refl)

-- a start: the milliseconds no longer stand
abbrev Starts : (Moment → Moment) → Type 0
Starts f = (p : Moment) → p.counted ≡ false → (f p).counted ≡ false

start_fresh : (s : List ℕ) (p : Moment) → Gives Fresh (start_of s p)
unfolding start_of
start_fresh s p =
    gives_bind Fresh Starts (or_null (beside starts s)) _ (gives_or_null Starts (beside starts s) (gives_beside Starts starts s ((λ p h. h) and (λ p h. h) and (λ p h. h) and all)))
    (λ f k. gives_provided Fresh (p.counted || (p.dated || p.timed)) _ (unsummed (f (day_start p)) (k (day_start p) refl)))

date_step_lem : (minus : Bool) (s : List ℕ) (p : Moment) → Gives Fresh (date_step minus s p)
unfolding date_step by_date
date_step_lem minus s p =
    gives_then Fresh (digits 4 0 9999 s) _ (λ (y, s).
    gives_then Fresh (byte "-" s) _ (λ s.
    gives_then Fresh (digits 2 0 11 s) _ (λ (m, s).
    gives_then Fresh (byte "-" s) _ (λ s.
    gives_then Fresh (digits 2 0 30 s) _ (λ (d, s).
    gives_then Fresh (time_of s) _ (λ t. it refl))))))

time_step_lem : (minus : Bool) (s : List ℕ) (p : Moment) → Gives Fresh (time_step minus s p)
unfolding time_step
time_step_lem minus s p = gives_then Fresh (time s) _ (λ t. it refl)

-- a unit's step leaves no date
abbrev Steps : (Float → Moment → Read Moment) → Type 0
Steps f = (n : Float) (p : Moment) → Gives Fresh (f n p)

units_keep : Rows Steps units
unfolding by_length by_months
units_keep = length_keeps _ _ and length_keeps _ _ and length_keeps _ _ and length_keeps _ _ and length_keeps _ _ and length_keeps _ _ and length_keeps _ _ and length_keeps _ _ and months_keep _ _ _ and months_keep _ _ _ and months_keep _ _ _ and months_keep _ _ _ and all
  where
    length_keeps : (limit unit : Float) → Steps (by_length limit unit)
    length_keeps limit unit n p = gives_provided Fresh (below n limit) _ refl

    months_keep : (limit : Float) (k : ℕ) (days : Float) → Steps (by_months limit k days)
    months_keep limit k days n p = gives_provided Fresh (below n limit) _ refl

unit_step_lem : (s : List ℕ) (p : Moment) → Gives Fresh (unit_step s p)
unfolding unit_step
unit_step_lem s p = gives_then Fresh (decimal _) _ (λ n. gives_bind Fresh Steps (beside units _) _ (gives_beside Steps units _ units_keep) (λ f k. k n p))

arithmetic_fresh : (s : List ℕ) (p : Moment) → Gives Fresh (arithmetic s p)
unfolding arithmetic
arithmetic_fresh s p = gives_or Fresh _ _ (date_step_lem _ _ p) (gives_or Fresh _ _ (time_step_lem _ _ p) (unit_step_lem s p))

pub modifier_fresh : (offset : ℤ) (i : ℕ) (s : List ℕ) (p : Moment) → Fresh p → Gives Fresh (modifier offset i s p)
unfolding modifier
modifier_fresh offset i s p h =
    gives_or Fresh _ _ (gives_bind Fresh Keeps (beside (words offset i) s) _ (gives_beside Keeps (words offset i) s (words_keep offset i)) (λ f k. k p h))
    (gives_or Fresh _ _ (gives_then Fresh (past (ascii "weekday ") s) _ (λ s. weekday_fresh s p))
    (gives_or Fresh _ _ (gives_then Fresh (past (ascii "start of ") s) _ (λ s. start_fresh s p))
    (gives_or Fresh _ _ (gives_then Fresh (only_if (counts s) s) _ (λ s. arithmetic_fresh (trim wide_space s) p)) ends)))

-- ---- the remainder

-- the Rust's remainder of days, with the sign that cutting toward zero gives it
abbrev pub cut_remainder : ℕ → ℤ
cut_remainder t =
    let noon = instant 0 - half_day in
    if leb noon t then pos ((t - noon) % day_length) else neg_ℤ (pos ((noon - t) % day_length))

-- a time within 0 to the last, or one at which a day begins
abbrev pub Settled : ℕ → Type 0
Settled t = (in_range t ≡ true) ⊎ ((k : ℕ) × (t ≡ start + k * day_length))

start_is : start ≡ 9223372008558775808
unfolding start day_zero days_to years day_of_year before_month sum month_lengths leap
start_is = refl

and_left : (a b : Bool) → (a && b) ≡ true → a ≡ true
and_left true b h = refl
and_left false b h = h

whole_days : (m : ℕ) → m * 86400000 % 86400000 ≡ 0
whole_days m = let q : m * 86400000 / 86400000 ≡ m = omega arith in omega arith

-- there the two remainders are one
pub same_remainder : (t : ℕ) → Settled t → cut_remainder t ≡ pos (time_of_day t)
unfolding time_of_day
same_remainder t h = go (leb (instant 0 - half_day) t) refl h
  where
    go : (b : Bool) → leb (instant 0 - half_day) t ≡ b → Settled t → (if b then pos ((t - (instant 0 - half_day)) % day_length) else neg_ℤ (pos (((instant 0 - half_day) - t) % day_length))) ≡ pos ((t - start) % day_length)
    go true e (inl h) =
        let n = (t - (instant 0 - half_day)) / day_length in
        let a : t - start ≡ (t - (instant 0 - half_day)) + 327 * 86400000 = omega (arith, start_is, leb-true (instant 0 - half_day) t e) in
        let q : (t - start) / 86400000 ≡ n + 327 = omega arith in
        ap pos (omega arith)
    go false e (inl h) = absurd (below_zero (leb-true (instant 0) t (and_left (leb (instant 0) t) (leb t last) h)) (leb-false (instant 0 - half_day) t e))
      where
        below_zero : instant 0 ≤ t → t < instant 0 - half_day → ⊥
        below_zero a b = omega arith
    go true e (inr (k, h)) =
        let a : t - start ≡ k * 86400000 = omega arith in
        let b : t - (instant 0 - half_day) ≡ (k - 327) * 86400000 = omega (arith, start_is, leb-true (instant 0 - half_day) t e) in
        rw (a, b) (ap pos (whole_days (k - 327) ∙ sym (whole_days k)))
    go false e (inr (k, h)) =
        let a : t - start ≡ k * 86400000 = omega arith in
        let b : (instant 0 - half_day) - t ≡ (327 - k) * 86400000 = omega (arith, start_is, leb-false (instant 0 - half_day) t e) in
        rw (a, b, whole_days k, whole_days (327 - k))

-- ---- what `fill` takes it of

-- what is asked of a record that is filled
abbrev pub Sound : Moment → Type 0
Sound p = p.dated ≡ true → p.counted ≡ true → p.timed ≡ false → Settled p.ms

pub fresh_sound : (p : Moment) → Fresh p → Sound p
fresh_sound p h d c t = never (sym (ap (λ (b : Bool). b && p.counted) d ∙ c) ∙ h)

-- of a record with no time of day the sum is a midnight
sum_settled : (p : Moment) (y m d : ℕ) → p.timed ≡ false → Settled (sum_of p y m d).ms
unfolding sum_of with_time midnight
sum_settled p y m d h = go (leb (minus_year 4713) y && (leb y (year 9999) && not p.raw))
  where
    timeless : with_time (counted p (midnight y m d)) ≡ counted p (midnight y m d)
    timeless = branch_false p.timed _ (counted p (midnight y m d)) h

    go : (b : Bool) → Settled (if b then with_time (counted p (midnight y m d)) else failure).ms
    go true = inr (days_to y m d, ap (λ (q : Moment). q.ms) timeless)
    go false = inl refl

count_settled : (p : Moment) → p.counted ≡ false → p.timed ≡ false → Settled (count_ms p).ms
count_settled p c t = subst (λ (q : Moment). Settled q.ms) (sym (summed p c)) (either (λ (q : Moment). Settled q.ms) p.dated _ _ (sum_settled p _ _ _ t) (sum_settled p _ _ _ t))

-- the sum of a fresh record is sound: the fields of an answer are filled from it
time_sound : (p : Moment) (y m d : ℕ) → Sound (with_time (counted p (midnight y m d)))
unfolding with_time midnight
time_sound p y m d = go p.timed refl
  where
    here : Moment
    here = set_ms (counted p (midnight y m d)) (midnight y m d + time_ms p.hour p.minute p.second)

    there : Moment
    there = set_utc (clear (set_ms here (here.ms + no_zone * 60000 - p.zone * 60000)))

    zoned : (b : Bool) → p.timed ≡ true → Sound (if b then here else there)
    zoned true e d c t = never (sym e ∙ t)
    zoned false e d c t = never (sym d)

    go : (b : Bool) → p.timed ≡ b → Sound (if b then (if eqb p.zone no_zone then here else there) else counted p (midnight y m d))
    go true e = zoned (eqb p.zone no_zone) e
    go false e = λ h c t. inr (days_to y m d, refl)

sum_sound : (p : Moment) (y m d : ℕ) → Sound (sum_of p y m d)
unfolding sum_of
sum_sound p y m d = either Sound (leb (minus_year 4713) y && (leb y (year 9999) && not p.raw)) (with_time (counted p (midnight y m d))) failure (time_sound p y m d) (λ d c t. never (sym d))

pub count_sound : (p : Moment) → Fresh p → Sound (count_ms p)
unfolding count_ms
count_sound p h = either Sound p.counted p _ (fresh_sound p h) (either Sound p.dated (sum_of p p.year p.month p.day) (sum_of p (year 2000) 1 1) (sum_sound p _ _ _) (sum_sound p _ _ _))

-- what `fill_time` is given after `fill_date`
abbrev Filled : Moment → Type 0
Filled q = q.timed ≡ false → Settled (count_ms q).ms

counted_filled : (q : Moment) → q.counted ≡ true → Settled q.ms → Filled q
unfolding count_ms
counted_filled q c h t = subst (λ (r : Moment). Settled r.ms) (sym (branch_true q.counted q _ c)) h

uncounted_filled : (q : Moment) → q.counted ≡ false → Filled q
uncounted_filled q c t = count_settled q c t

pub fill_settled : (p : Moment) → Sound p → Filled (fill_date p)
unfolding fill_date
fill_settled p h = either_known p.dated refl
  where
    ranged : (b : Bool) → in_range p.ms ≡ b → p.counted ≡ true → Filled (if b then on_date p (civil p.ms) else failure)
    ranged true r c = counted_filled (on_date p (civil p.ms)) c (inl r)
    ranged false r c = uncounted_filled failure refl

    known : (b : Bool) → p.counted ≡ b → Filled (if b then (if in_range p.ms then on_date p (civil p.ms) else failure) else set_dated (set_date p (year 2000) 1 1) true)
    known true c = ranged (in_range p.ms) refl c
    known false c = uncounted_filled (set_dated (set_date p (year 2000) 1 1) true) c

    standing : (b : Bool) → p.counted ≡ b → p.dated ≡ true → Filled p
    standing true c d t = counted_filled p c (h d c t) t
    standing false c d t = uncounted_filled p c t

    either_known : (b : Bool) → p.dated ≡ b → Filled (if b then p else (if p.counted then (if in_range p.ms then on_date p (civil p.ms) else failure) else set_dated (set_date p (year 2000) 1 1) true))
    either_known true d = standing p.counted refl d
    either_known false d = known p.counted refl

-- a record whose date is renewed
pub renewed_sound : (p : Moment) → Sound (set_dated p false)
renewed_sound p d c t = never (sym d)

-- So the time of day that `fill` takes is the Rust's: of a record that a modifier is given (`fresh_sound`), and of one that an answer is written
-- from (`count_sound`, `renewed_sound`).
pub fill_remainder : (p : Moment) → Sound p → (fill_date p).timed ≡ false → cut_remainder (count_ms (fill_date p)).ms ≡ pos (time_of_day (count_ms (fill_date p)).ms)
fill_remainder p h t = same_remainder _ (fill_settled p h t)
