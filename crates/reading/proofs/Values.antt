-- The forms of a time value, in the order in which they are tried. Assumes nothing.
use Prim.Native.Nat.{ℕ}
use mathlib.Core.Bool.{false}
use mathlib.Core.Path.{◌≡◌}
use mathlib.Core.List.{List}
use lib.Ieee.{Float}
use Rattle.rules.specs.Basics.{ascii, word, got, other, ◌or◌, trim}
use Rattle.rules.specs.Decimal.{decimal}
use Rattle.rules.specs.Moments.{Moment}
use Rattle.rules.specs.Reading.{space, raw_number, date_form, time_form, number_form, text_value}
use Rattle.reading.specs.Readers.{subsec_value}

-- ---- a number
module _ (s : List ℕ) where
  pub number : (x : Float) → decimal (trim space s) ≡ got x → number_form s ≡ got (raw_number x)
  unfolding number_form
  number x h = rw h

-- ---- one form after another
module _ (clock : ℕ) (s : List ℕ) where
  pub is_date : (p : Moment) → date_form s ≡ got p → text_value clock s ≡ got p
  unfolding text_value
  is_date p h = rw h

  module _ (h : date_form s ≡ other) where
    pub is_time : (p : Moment) → time_form s ≡ got p → text_value clock s ≡ got p
    unfolding text_value
    is_time p k = rw (h, k)

    module _ (k : time_form s ≡ other) where
      pub is_last : word (ascii "now") s ≡ false → text_value clock s ≡ (number_form s or subsec_value clock s)
      unfolding text_value
      is_last e = rw (h, k, e)
