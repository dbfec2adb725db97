-- HH:MM and zones. Assumes nothing.
use Prim.Native.Nat.{ℕ, ◌+◌, ◌-◌, ◌*◌, ◌<◌}
use mathlib.Core.Bool.{Bool, true, false}
use mathlib.Core.Path.{◌≡◌, refl, ◌∙◌}
use mathlib.Core.List.{List, [], ◌∷◌}
use native.Mathlib.Omega.{arith}
use lib.Dec.{eqb}
use lib.ListN.{length, drop, length-drop}
use Rattle.rules.specs.Basics.{Read, got, other, ◌>>=◌, ended, byte, digits, skip}
use Rattle.rules.specs.Moments.{no_zone}
use Rattle.rules.specs.Reading.{space, hours_minutes, zone_in}
use Rattle.reading.specs.Readers.{hour_minute}
use Rattle.text.proofs.Numbers.{digits_short}
use Rattle.reading.proofs.Steps.{or_other, then_then, char_then, digits_then}

-- ---- HH:MM
module _ (most : ℕ) (l : List ℕ) where
  pub five_bytes : length l < 5 → hour_minute most l ≡ other
  unfolding hour_minute
  five_bytes h = digits_then 2 0 most l _ (λ v. char_then ":" (drop 2 l) _ (rw (digits_short 2 0 59 (drop 1 (drop 2 l)) (simp length-drop (omega arith)))))

  pub no_hour : digits 2 0 most l ≡ other → hour_minute most l ≡ other
  unfolding hour_minute
  no_hour h = rw h

  module _ (v : ℕ) (m : List ℕ) (h : digits 2 0 most l ≡ got (v, m)) where
    pub no_colon : byte ":" m ≡ other → hour_minute most l ≡ other
    unfolding hour_minute
    no_colon k = rw (h, k)

    module _ (n : List ℕ) (k : byte ":" m ≡ got n) where
      pub hour_and_minute : (w : ℕ) (t : List ℕ) → digits 2 0 59 n ≡ got (w, t) → hour_minute most l ≡ got (v, w, t)
      unfolding hour_minute
      hour_and_minute w t j = rw (h, k, j)

-- ---- minutes from UTC
module _ (l : List ℕ) where
  after : hours_minutes l ≡ ◌>>=◌ (hour_minute 14 l) (λ p. ended (skip space p.2) (p.0 * 60 + p.1))
  unfolding hours_minutes hour_minute
  after = simp then_then

  pub minutes : (h m : ℕ) (t : List ℕ) → hour_minute 14 l ≡ got (h, m, t) → hours_minutes l ≡ ended (skip space t) (h * 60 + m)
  minutes h m t e = after ∙ rw e

-- ---- a zone
-- minutes after a plus and after a minus, as a zone is held
abbrev pub east_by : Read ℕ → Read (ℕ × Bool)
east_by r = do
  n ← r
  got (no_zone + n, eqb n 0)

abbrev pub west_by : Read ℕ → Read (ℕ × Bool)
west_by r = do
  n ← r
  got (no_zone - n, eqb n 0)

pub no_zone_lem : zone_in [] ≡ got (no_zone, false)
unfolding zone_in
no_zone_lem = refl

module _ (l : List ℕ) where
  pub zone_upper : zone_in (90 ∷ l) ≡ ended (skip space l) (no_zone, true)
  unfolding zone_in
  zone_upper = or_other _

  pub zone_east : zone_in (43 ∷ l) ≡ east_by (hours_minutes l)
  unfolding zone_in
  zone_east = or_other _

  pub zone_west : zone_in (45 ∷ l) ≡ west_by (hours_minutes l)
  unfolding zone_in
  zone_west = refl
