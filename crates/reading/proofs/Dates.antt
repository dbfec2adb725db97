-- A date, part by part, with the time after it. Assumes nothing.
use Prim.Native.Nat.{ℕ, ◌<◌}
use mathlib.Core.Bool.{Bool, true, false, true≢false}
use mathlib.Core.Path.{◌≡◌, refl, sym, ◌∙◌}
use mathlib.Core.List.{List, [], ◌∷◌}
use native.Mathlib.Omega.{arith}
use borrow.Author.Tests.{eqb-true}
use lib.ListN.{length, drop, length-drop}
use Rattle.rules.specs.Basics.{got, other, only_if, ◌>>=◌, byte, digits, digits_on, skip}
use Rattle.rules.specs.Calendar.{year, minus_year}
use Rattle.rules.specs.Moments.{Moment, set_date, set_dated, past_end}
use Rattle.rules.specs.Reading.{time, timed, time_after, settled, date_from, date_form, time_form}
use Rattle.rules.specs.declared.Time.{Time}
use Rattle.text.specs.Places.{begins, after_byte, gap}
use Rattle.reading.specs.Readers.{year_month_day}
use Rattle.text.proofs.Numbers.{digits_short}
use Rattle.reading.proofs.Steps.{or_other, then_then, char_then, digits_then}

-- ---- YYYY-MM-DD
module _ (low months days : ℕ) (l : List ℕ) where
  pub ten_bytes : length l < 10 → year_month_day low months days l ≡ other
  unfolding year_month_day
  ten_bytes h =
      digits_then 4 0 9999 l _ (λ y. char_then "-" (drop 4 l) _ (digits_then 2 low months (drop 1 (drop 4 l)) _ (λ m. char_then "-" (drop 2 (drop 1 (drop 4 l))) _ (rw (digits_short 2 low days (drop 1 (drop 2 (drop 1 (drop 4 l)))) (simp length-drop (omega arith)))))))

  pub no_year : digits 4 0 9999 l ≡ other → year_month_day low months days l ≡ other
  unfolding year_month_day
  no_year h = rw h

  module _ (y : ℕ) (a : List ℕ) (h : digits 4 0 9999 l ≡ got (y, a)) where
    pub no_dash : byte "-" a ≡ other → year_month_day low months days l ≡ other
    unfolding year_month_day
    no_dash k = rw (h, k)

    module _ (b : List ℕ) (k : byte "-" a ≡ got b) where
      module _ (m : ℕ) (d : List ℕ) (e : digits 2 low months b ≡ got (m, d)) where
        module _ (n : List ℕ) (f : byte "-" d ≡ got n) where
          pub ymd : (x : ℕ) (t : List ℕ) → digits 2 low days n ≡ got (x, t) → year_month_day low months days l ≡ got (y, m, x, t)
          unfolding year_month_day
          ymd x t g = rw (h, k, e, f, g)

-- ---- a time alone, and after a date
module _ (l : List ℕ) where
  pub no_time : time l ≡ other → time_form l ≡ other
  unfolding time_form
  no_time h = rw h

  pub time_form_lem : (t : Time) → time l ≡ got t → time_form l ≡ got (timed t)
  unfolding time_form
  time_form_lem t h = rw h

pub time_follows : (l : List ℕ) → 0 < length l → time_after l ≡ time_form l
unfolding time_form
time_follows [] h = absurd (omega arith)
time_follows (b ∷ l) h = refl

-- ---- with the time after it
module _ (held : ℕ → ℕ) (l : List ℕ) where
  parts : date_from held l ≡ ◌>>=◌ (year_month_day 1 12 31 l) (λ a. ◌>>=◌ (time_after (skip gap a.3)) (λ p. got (settled (past_end (set_dated (set_date p (held a.0) a.1 a.2) true)))))
  unfolding date_from year_month_day
  parts = simp then_then

  pub no_date : year_month_day 1 12 31 l ≡ other → date_from held l ≡ other
  no_date h = parts ∙ rw h

  module _ (y m d : ℕ) (t : List ℕ) (h : year_month_day 1 12 31 l ≡ got (y, m, d, t)) where
    pub date_and_time : (p : Moment) → time_after (skip gap t) ≡ got p → date_from held l ≡ got (settled (past_end (set_dated (set_date p (held y) m d) true)))
    date_and_time p k = parts ∙ rw (h, k)

-- ---- a minus before it
minus : (l : List ℕ) → date_form (45 ∷ l) ≡ date_from minus_year l
unfolding date_form date_from digits digits_on
minus l = refl

pub no_minus : (l : List ℕ) → begins 45 l ≡ false → date_form l ≡ date_from year l
unfolding date_form
no_minus [] h = or_other _
no_minus (b ∷ l) h = rw h (or_other _)

pub after_minus : (l : List ℕ) → begins 45 l ≡ true → date_form l ≡ date_from minus_year (drop 1 l)
after_minus [] h = absurd (true≢false (sym h))
after_minus (b ∷ l) h = rw (← eqb-true 45 b h) (minus l)

-- as it is read
module _ (l : List ℕ) where
  pub minus_read : (r : List ℕ) → after_byte 45 l ≡ got r → date_form l ≡ date_from minus_year r
  minus_read r = go (begins 45 l) refl
    where
      go : (t : Bool) → begins 45 l ≡ t → only_if t (drop 1 l) ≡ got r → date_form l ≡ date_from minus_year r
      go true e k = let p : drop 1 l ≡ r = cc in after_minus l e ∙ rw p
      go false e k = absurd (cc)

  pub minus_not_read : after_byte 45 l ≡ other → date_form l ≡ date_from year l
  minus_not_read = go (begins 45 l) refl
    where
      go : (t : Bool) → begins 45 l ≡ t → only_if t (drop 1 l) ≡ other → date_form l ≡ date_from year l
      go true e k = absurd (cc)
      go false e k = no_minus l e
