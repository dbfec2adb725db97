-- The texts of rules in the parts that are written one after another, each form by its condition. Assumes nothing.
use Prim.Native.Nat.{ℕ, ◌^◌, ◌≤◌, ◌<◌}
use mathlib.Core.Bool.{true, false}
use mathlib.Core.Path.{◌≡◌, refl, ap, ◌∙◌}
use mathlib.Core.List.{List, [], ◌∷◌, ◌++◌, append_assoc}
use borrow.Author.Tests.{lt-ltb, le-ltb}
use lib.IntN.{ℤ}
use lib.Signed.{mag}
use mir.Syntax.{w64}
use mir.Val.{to_z, of_z}
use mir.ValLaws.{to_z-of_z}
use Rattle.rules.specs.Basics.{got, refuse}
use Rattle.rules.specs.Calendar.{instant}
use Rattle.rules.specs.Moments.{Moment}
use Rattle.rules.specs.Writing.{wide, signed_year, hour_minute, date_text, time_text, integer_text, unix_seconds, unix_text, julian_text, julian_letter}
use Rattle.rules.specs.declared.Refusal.{Refusal}
use Rattle.digits.specs.Writers.{unix_decimals}
use Rattle.writing.specs.Texts.{date_of, whole_time, decimal_time}

module _ (p : Moment) where
  pub date_parts : (k : ℕ) → date_of k p ≡ signed_year k p.year ++ (45 ∷ wide 2 p.month) ++ (45 ∷ wide 2 p.day)
  date_parts k =
      let year = signed_year k p.year in
      append_assoc (year ++ (45 ∷ []) ++ wide 2 p.month) (45 ∷ []) (wide 2 p.day) ∙ ap (λ (s : List ℕ). s ++ (45 ∷ wide 2 p.day)) (append_assoc year (45 ∷ []) (wide 2 p.month))

  pub clock_parts : hour_minute p ≡ wide 2 p.hour ++ (58 ∷ wide 2 p.minute)
  clock_parts = append_assoc (wide 2 p.hour) (58 ∷ []) (wide 2 p.minute)

  pub date_is : date_text p ≡ date_of 4 p
  unfolding date_text
  date_is = refl

  pub time_decimals : p.subsec ≡ true → time_text p ≡ decimal_time p
  unfolding time_text
  time_decimals h = rw h

  pub time_whole : p.subsec ≡ false → time_text p ≡ whole_time p
  unfolding time_text
  time_whole h = rw h

  pub unix_decimals_lem : p.subsec ≡ true → unix_text p ≡ unix_decimals p.ms
  unfolding unix_text
  unix_decimals_lem h = rw h

  -- the seconds as the machine passes them on
  pub unix_whole : (z : ℤ) → p.subsec ≡ false → mag z < 2 ^ 63 → z ≡ unix_seconds p.ms → unix_text p ≡ integer_text (to_z w64 (of_z w64 z))
  unfolding unix_text
  unix_whole z h f e = rw (h, to_z-of_z w64 z (record { sfits = f }), e)

pub julian_early : (t : ℕ) → t < instant 86400000000000 → julian_letter t ≡ refuse Refusal.Early
unfolding julian_letter
julian_early t h = rw (lt-ltb t (instant 86400000000000) h)

pub julian_late : (t : ℕ) → instant 86400000000000 ≤ t → julian_letter t ≡ got (julian_text t)
unfolding julian_letter
julian_late t h = rw (le-ltb t (instant 86400000000000) h)
