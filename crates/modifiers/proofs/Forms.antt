-- The forms of a modifier that counts, case by case, in the order in which they are tried. Assumes nothing.
use Rattle.std.proofs.Common.{if◌then◌else◌, ◌≡◌, ℕ, suc, ◌*◌, ◌≤◌, Bool, true, false, not, List, [], ◌∷◌, length, drop, ℤ, nat_abs, sym, refl, ap, ◌∙◌, subst, arith}
use lib.Ieee.{Float}
use Rattle.rules.specs.Basics.{is, Read, got, other, refuse, ◌or◌, ◌>>=◌, every, beside, front, skip, trim_end, trim}
use Rattle.rules.specs.Decimal.{sign, decimal}
use Rattle.rules.specs.Floats.{below, cut}
use Rattle.rules.specs.Moments.{Moment}
use Rattle.rules.specs.Modifiers as rule
use Rattle.rules.specs.Modifiers.{or_null, units, provided, wide_space, time_part, time_of, by_date, date_step, time_step, unit_step, arithmetic, unit_ms, fraction_ms}
use Rattle.rules.specs.Reading.{time}
use Rattle.rules.specs.declared.Refusal.{Refusal}
use Rattle.rules.specs.declared.Time.{Time}
use Rattle.real.specs.StepMost.{step_most}
use Rattle.real.proofs.Units.{days_ms, hours_ms, minutes_ms, seconds_ms_lem, months_ms, years_ms, months_cut, years_cut}
use Rattle.moment.proofs.Ways.{abs_signed}
use Rattle.moment.specs.Steps.{length_on, months_on, time_on}
use Rattle.reading.specs.Readers.{year_month_day}
use Rattle.reading.proofs.Steps.{then_then}
use Rattle.modifiers.specs.Words.{scale_of, step_by, unit_after}
use Rattle.modifiers.specs.declared.counts.Scale.{Scale}
use Rattle.modifiers.specs.declared.words.Unit.{Unit as Named}
use Rattle.text.proofs.Runs.{drop_front}
use Rattle.modifiers.proofs.Dispatch.{by_unit, unit_named}

-- ---- the date form
module _ (minus : Bool) (l : List ℕ) (p : Moment) where
  date_parts : date_step minus l p ≡ ◌>>=◌ (year_month_day 0 11 30 l) (λ a. ◌>>=◌ (time_of a.3) (λ t. got (by_date minus a.0 a.1 a.2 t p)))
  unfolding date_step year_month_day
  date_parts = simp then_then

  pub no_date : year_month_day 0 11 30 l ≡ other → date_step minus l p ≡ other
  no_date e = date_parts ∙ rw e

  module _ (y m d : ℕ) (r : List ℕ) (e : year_month_day 0 11 30 l ≡ got (y, m, d, r)) where
    pub date_other : time_of r ≡ other → date_step minus l p ≡ other
    date_other k = date_parts ∙ rw (e, k)

    pub date_refused : (x : Refusal) → time_of r ≡ refuse x → date_step minus l p ≡ refuse x
    date_refused x k = date_parts ∙ rw (e, k)

    pub date_is : (t : ℕ) → time_of r ≡ got t → date_step minus l p ≡ got (by_date minus y m d t p)
    date_is t k = date_parts ∙ rw (e, k)

-- ---- the time form
module _ (minus : Bool) (l : List ℕ) (p : Moment) (q : Read Moment) where
  pub no_time : time l ≡ other → (time_step minus l p or q) ≡ q
  unfolding time_step
  no_time e = rw e

  pub is_time : (t : Time) → time l ≡ got t → ((time_step minus l p or q) or refuse Refusal.Null) ≡ got (time_on (rule.signed minus (time_part t)) p)
  unfolding time_step
  is_time t e = rw e

-- ---- `N unit`
-- a word's bytes
abbrev pub in_word : ℕ → Bool
in_word b = not (wide_space b)

module _ (s : List ℕ) (p : Moment) where
  pub unit_is : (n : Float) → decimal (front in_word s) ≡ got n → unit_step s p ≡ unit_named (front in_word (skip wide_space (drop (length (front in_word s)) s))) n p
  unfolding unit_step
  unit_is n e = rw e (by_unit _ n p)

  -- no number, or one over its limits
  pub unit_not : (x : Refusal) → refuse x ≡ or_null (decimal (front in_word s)) → (unit_step s p or refuse Refusal.Null) ≡ refuse x
  unfolding unit_step
  unit_not x e = go (decimal (front in_word s)) e
    where
      second : Float → Read Moment
      second n = ◌>>=◌ (beside units (front in_word (skip wide_space (drop (length (front in_word s)) s)))) (λ f. f n p)

      go : (r : Read Float) → refuse x ≡ or_null r → (◌>>=◌ r second or refuse Refusal.Null) ≡ refuse x
      go (got n) h = absurd (cc)
      go other h = let k : Refusal.Null ≡ x = cc in ap refuse k
      go (refuse y) h = let k : y ≡ x = cc in ap refuse k

  -- a number, and what stands after its word
  module _ (n : Float) (e : got n ≡ or_null (decimal (front in_word s))) where
    after_number : unit_step s p ≡ unit_named (front in_word (skip wide_space (skip in_word s))) n p
    after_number = unit_is n (go (decimal (front in_word s)) e) ∙ ap (λ (r : List ℕ). unit_named (front in_word (skip wide_space r)) n p) (drop_front in_word s)
      where
        go : (r : Read Float) → got n ≡ or_null r → r ≡ got n
        go (got m) h = sym h
        go other h = absurd (cc)
        go (refuse y) h = absurd (cc)

    pub unit_read : (u : Named) → got u ≡ unit_after (skip in_word s) → (unit_step s p or refuse Refusal.Null) ≡ step_by u n p
    unfolding rule.by_length rule.by_months
    unit_read u k = ap (λ (r : Read Moment). r or refuse Refusal.Null) (after_number ∙ rw (← k)) ∙ go u
      where
        done : (t : Bool) (q : Moment) → (provided t q or refuse Refusal.Null) ≡ provided t q
        done true q = refl
        done false q = refl

        go : (u : Named) → (step_by u n p or refuse Refusal.Null) ≡ step_by u n p
        go Named.Day = done _ _
        go Named.Hour = done _ _
        go Named.Minute = done _ _
        go Named.Second = done _ _
        go Named.Month = done _ _
        go Named.Year = done _ _

    pub unit_unread : other ≡ unit_after (skip in_word s) → (unit_step s p or refuse Refusal.Null) ≡ refuse Refusal.Null
    unit_unread k = let e : unit_step s p ≡ other = after_number ∙ rw (← k) in rw e

-- a unit of a fixed length
module _ (limit unit n : Float) (p : Moment) where
  pub length_out : below n limit ≡ false → rule.by_length limit unit n p ≡ refuse Refusal.Null
  unfolding rule.by_length
  length_out e = rw e

  pub length_in : below n limit ≡ true → rule.by_length limit unit n p ≡ got (length_on (unit_ms unit n) p)
  unfolding rule.by_length
  length_in e = rw e

-- one of months
module _ (limit : Float) (k : ℕ) (days n : Float) (p : Moment) where
  pub months_out : below n limit ≡ false → rule.by_months limit k days n p ≡ refuse Refusal.Null
  unfolding rule.by_months
  months_out e = rw e

  pub months_in : below n limit ≡ true → rule.by_months limit k days n p ≡ got (months_on k days n p)
  unfolding rule.by_months
  months_in e = rw e

-- how far n units of a scale move, below its limit
abbrev Reach : Float → Scale → Type 0
Reach n (Scale.Length l m) = below n l ≡ true → nat_abs (unit_ms m n) ≤ step_most
Reach n (Scale.Months l k d) = below n l ≡ true → (nat_abs (cut n) * k ≤ 176545) × (nat_abs (fraction_ms d n) ≤ step_most)

reach : (u : Named) (n : Float) → Reach n (scale_of u)
reach Named.Day n = λ h. omega (arith, days_ms n h)
reach Named.Hour n = λ h. omega (arith, hours_ms n h)
reach Named.Minute n = λ h. omega (arith, minutes_ms n h)
reach Named.Second n = λ h. omega (arith, seconds_ms_lem n h)
reach Named.Month n = λ h. (omega (arith, months_cut n h), omega (arith, months_ms n h))
reach Named.Year n = λ h. (omega (arith, years_cut n h), omega (arith, years_ms n h))

pub reaches : (u : Named) (n : Float) (s : Scale) → scale_of u ≡ s → Reach n s
reaches u n s e = subst (Reach n) e (reach u n)

-- ---- in order
pub sign_shorter : (s l : List ℕ) (minus : Bool) → (minus, l) ≡ sign s → length l ≤ length s
unfolding sign
sign_shorter s l minus e = let h : length l ≡ length (sign s).1 = ap (λ (p : Bool × List ℕ). length p.1) e in omega (arith, after s)
  where
    after : (s : List ℕ) → length (sign s).1 ≤ length s
    after [] = omega arith
    after (b ∷ s) = go (is "-" b) (is "+" b)
      where
        found : Bool → Bool → Bool × List ℕ
        found t u = if t then (true, s) else (if u then (false, s) else (false, b ∷ s))

        go : (t u : Bool) → length (found t u).1 ≤ suc (length s)
        go true u = omega arith
        go false true = omega arith
        go false false = omega arith

pub size_at : {z : ℤ} {k : ℕ} (minus : Bool) (n : ℕ) → z ≡ rule.signed minus n → n ≤ k → nat_abs z ≤ k
size_at minus n e h = rw (e, abs_signed minus n) h

module _ (s : List ℕ) (p : Moment) (minus : Bool) (l : List ℕ) (e : sign s ≡ (minus, l)) where
  in_order : (arithmetic s p or refuse Refusal.Null) ≡ ((date_step minus l p or (time_step minus l p or unit_step s p)) or refuse Refusal.Null)
  unfolding arithmetic
  in_order = rw e

  pub dated : (r : Moment) → date_step minus l p ≡ got r → (arithmetic s p or refuse Refusal.Null) ≡ got r
  dated r h = in_order ∙ rw h

  pub date_stops : (x : Refusal) → date_step minus l p ≡ refuse x → (arithmetic s p or refuse Refusal.Null) ≡ refuse x
  date_stops x h = in_order ∙ rw h

  pub not_dated : date_step minus l p ≡ other → (arithmetic s p or refuse Refusal.Null) ≡ ((time_step minus l p or unit_step s p) or refuse Refusal.Null)
  not_dated h = in_order ∙ rw h

-- ---- trimming shortens
skip_length : (f : ℕ → Bool) (l : List ℕ) → length (skip f l) ≤ length l
unfolding skip
skip_length f [] = omega arith
skip_length f (b ∷ l) = go (f b) (skip_length f l)
  where
    go : (t : Bool) → length (skip f l) ≤ length l → length (if t then skip f l else b ∷ l) ≤ suc (length l)
    go true h = omega arith
    go false h = omega arith

end_length : (f : ℕ → Bool) (l : List ℕ) → length (trim_end f l) ≤ length l
unfolding trim_end
end_length f [] = omega arith
end_length f (b ∷ l) = go (every f (b ∷ l)) (end_length f l)
  where
    go : (t : Bool) → length (trim_end f l) ≤ length l → length (if t then [] else b ∷ trim_end f l) ≤ suc (length l)
    go true h = omega arith
    go false h = omega arith

pub trim_length : (f : ℕ → Bool) (l : List ℕ) → length (trim f l) ≤ length l
unfolding trim
trim_length f l = omega (arith, end_length f (skip f l), skip_length f l)
