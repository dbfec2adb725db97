-- The seconds of a time of day, with their fraction. Assumes nothing.
use Prim.Native.Nat.{ℕ, ◌≤◌, ◌<◌}
use Rattle.std.specs.Prelude.{if◌then◌else◌}
use mathlib.Core.Bool.{Bool, true, false}
use mathlib.Core.Path.{◌≡◌, refl, sym, ap, ◌∙◌}
use mathlib.Core.List.{List, [], ◌∷◌}
use native.Mathlib.Omega.{arith}
use lib.Ieee.{Float, of_int, round, le, lt}
use lib.ListN.{length}
use Rattle.rules.specs.Basics.{is}
use Rattle.rules.specs.Floats.{number, ◌⊕◌}
use Rattle.rules.specs.Decimal.{run}
use Rattle.rules.specs.Reading.{fraction_in, fraction}
use Rattle.text.specs.Places.{begins}
use Rattle.real.specs.InMinute.{in_minute}
use Rattle.real.proofs.Run.{Digits, run_digits}
use Rattle.real.proofs.Seconds.{fraction_none, read_minute}

-- ---- no point, and no digit after it
pub no_point : (l : List ℕ) → begins 46 l ≡ false → fraction l ≡ (number 0, l)
unfolding fraction
no_point [] h = refl
no_point (b ∷ l) h = rw h

pub too_short : (l : List ℕ) → length l < 2 → fraction l ≡ (number 0, l)
unfolding fraction run
too_short [] h = refl
too_short (b ∷ []) h = go (is "." b)
  where
    one : Float × List ℕ
    one = (number 0, b ∷ [])

    go : (t : Bool) → (if t then one else one) ≡ one
    go true = refl
    go false = refl
too_short (b ∷ d ∷ l) h = absurd (omega arith)

-- ---- up to 59.999, whatever the fraction
pub zero_minute : in_minute (number 0) ≡ true
unfolding of_int round le lt
zero_minute = refl

module _ (n : ℕ) (h : n ≤ 59) where
  of_digits : (l : List ℕ) (p : List ℕ × List ℕ) → Digits p.0 → length p.0 ≤ 255 → in_minute (number n ⊕ (fraction_in l p).0) ≡ true
  of_digits l ([], r) d k = ap (λ (x : Float). in_minute (number n ⊕ x)) (sym fraction_none) ∙ read_minute [] n tt k h
  of_digits l (b ∷ ds, r) d k = read_minute (b ∷ ds) n d k h

  pub minute : (l : List ℕ) → length l ≤ 255 → in_minute (number n ⊕ (fraction l).0) ≡ true
  unfolding fraction
  minute [] k = of_digits [] ([], []) tt (omega arith)
  minute (b ∷ l) k = let r = run_digits l in go (is "." b) (of_digits (b ∷ l) (run l) r.0 (omega (arith, r.1)))
    where
      go : (t : Bool) → in_minute (number n ⊕ (fraction_in (b ∷ l) (run l)).0) ≡ true → in_minute (number n ⊕ (if t then fraction_in (b ∷ l) (run l) else (number 0, b ∷ l)).0) ≡ true
      go true e = e
      go false e = of_digits (b ∷ l) ([], []) tt (omega arith)
