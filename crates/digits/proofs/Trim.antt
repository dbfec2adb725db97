-- Bytes dropped at a text's end, and the Julian day's text. Assumes nothing.
use Prim.Native.Nat.{ℕ, zero, suc, ◌+◌, ◌-◌, ◌/◌, ◌%◌, ◌<◌}
use mathlib.Core.Bool.{Bool, true, false, ◌&&◌}
use mathlib.Core.Path.{◌≡◌, refl, sym, ap, ◌∙◌}
use mathlib.Core.List.{List, [], ◌∷◌, ◌++◌, append_assoc}
use native.Mathlib.Decide.{ℕ_discrete}
use native.Mathlib.Omega.{arith}
use borrow.Author.Tests.{eq-eqb, ne_eqb}
use lib.ListN.{length}
use Rattle.rules.specs.Basics.{is, every, trim_end}
use Rattle.rules.specs.Floats.{decimals}
use Rattle.rules.specs.Writing.{places, wide, julian_real, julian_text}
use Rattle.digits.specs.Writers.{Room, Trimmed}
use Rattle.digits.proofs.Buffer.{room_first, room_as}
use Rattle.digits.proofs.Columns.{column_last}
use Rattle.digits.proofs.Decimal.{digit, places_are, places_low, wide_length, wide_some}

module _ (f : ℕ → Bool) where
  -- a byte that stays ends what is dropped before it
  every_stops : (s : List ℕ) (y : ℕ) (t : List ℕ) → f y ≡ false → every f (s ++ (y ∷ t)) ≡ false
  unfolding every
  every_stops [] y t h = rw h
  every_stops (b ∷ s) y t h = rw (every_stops s y t h) (last (f b))
    where
      last : (b : Bool) → (b && false) ≡ false
      last true = refl
      last false = refl

  pub trim_after : (s : List ℕ) (y : ℕ) (t : List ℕ) → f y ≡ false → trim_end f (s ++ (y ∷ t)) ≡ s ++ (y ∷ trim_end f t)
  unfolding trim_end
  trim_after [] y t h = rw (every_stops [] y t h)
  trim_after (b ∷ s) y t h = rw (every_stops (b ∷ s) y t h, trim_after s y t h)

  -- a last byte that is dropped
  every_last : (s : List ℕ) (y : ℕ) → f y ≡ true → every f (s ++ (y ∷ [])) ≡ every f s
  unfolding every
  every_last [] y h = rw h
  every_last (b ∷ s) y h = rw (every_last s y h)

  pub trim_drop : (s : List ℕ) (y : ℕ) → f y ≡ true → trim_end f (s ++ (y ∷ [])) ≡ trim_end f s
  unfolding trim_end
  trim_drop [] y h = unfold every in rw h
  trim_drop (b ∷ s) y h = rw (every_last (b ∷ s) y h, trim_drop s y h)

-- the last of some places
pub places_last : (n v : ℕ) → places (suc n) v ≡ places n (v / 10) ++ ((48 + v % 10) ∷ [])
places_last n v = rw (places_are (suc n) v, places_are n (v / 10)) (column_last digit 10 n v)

-- ---- the zeros at the end of nine places, one by one
abbrev zeroes : List ℕ → List ℕ
zeroes s = trim_end (is "0") s

pub trim_more : (k v : ℕ) → 0 < k → v % 10 ≡ 0 → zeroes (places k v) ≡ zeroes (places (k - 1) (v / 10))
trim_more zero v h z = absurd (omega arith)
trim_more (suc k) v h z =
    let e : suc k - 1 ≡ k = omega arith in
    rw (e, places_last k v) (trim_drop (is "0") (places k (v / 10)) (48 + v % 10) (eq-eqb 48 (48 + v % 10) (omega arith)))

pub trim_end_lem : (k v : ℕ) → 0 < k → (v % 10 ≡ 0 → ⊥) → places k v ≡ zeroes (places k v)
unfolding trim_end
trim_end_lem zero v h n = absurd (omega arith)
trim_end_lem (suc k) v h n = rw (places_last k v) (sym (trim_after (is "0") (places k (v / 10)) (48 + v % 10) [] (ne_eqb 48 (48 + v % 10) (λ e. n (omega arith)))))

pub trim_none : (k v : ℕ) → k ≡ 0 → places 0 0 ≡ zeroes (places k v)
unfolding places trim_end
trim_none k v e = rw e

-- ---- the Julian day
-- a text that ends with a digit does not end with a point
points : (s : List ℕ) (k v : ℕ) → 0 < k → trim_end (is ".") (s ++ places k v) ≡ s ++ places k v
unfolding trim_end
points s zero v h = absurd (omega arith)
points s (suc k) v h =
    let d = 48 + v % 10 in
    let e : s ++ places (suc k) v ≡ (s ++ places k (v / 10)) ++ (d ∷ []) = ap (λ (l : List ℕ). s ++ l) (places_last k v) ∙ sym (append_assoc s (places k (v / 10)) (d ∷ [])) in
    rw e (trim_after (is ".") (s ++ places k (v / 10)) d [] (ne_eqb 46 d (λ z. omega arith)))

points_wide : (v : ℕ) → trim_end (is ".") (wide 1 v) ≡ wide 1 v
points_wide v = rw (← wide_length 1 v) (points [] (length (wide 1 v)) v (wide_some 1 v))

module _ (t n : ℕ) (left : ℕ × ℕ) (e : n ≡ decimals 9 (julian_real t)) (q : Trimmed (n % 1000000000) left) where
  whole : List ℕ
  whole = wide 1 (n / 1000000000)

  trimmed : julian_text t ≡ trim_end (is ".") (whole ++ (46 ∷ places left.0 left.1))
  unfolding julian_text whole
  trimmed = rw (← e, append_assoc (wide 1 (n / 1000000000)) (46 ∷ []) (places 9 n), trim_after (is "0") (wide 1 (n / 1000000000)) 46 (places 9 n) refl, places_low 9 n, q.shows)

  pub julian_whole : left.0 ≡ 0 → julian_text t ≡ wide 1 (n / 1000000000)
  unfolding whole places
  julian_whole h = trimmed ∙ rw h (trim_drop (is ".") whole 46 refl ∙ points_wide (n / 1000000000))

  pub julian_point : 0 < left.0 → julian_text t ≡ wide 1 (n / 1000000000) ++ (46 ∷ places left.0 left.1)
  unfolding whole
  julian_point h = trimmed ∙ rw (← append_assoc whole (46 ∷ []) (places left.0 left.1)) (points (whole ++ (46 ∷ [])) left.0 left.1 h)

  -- and room for its whole days
  pub julian_room : {a : List ℕ} {at : ℕ} → Room a at (julian_text t) → Room a at (wide 1 (n / 1000000000))
  julian_room {a} {at} h = go (ℕ_discrete left.0 0)
    where
      go : Dec (left.0 ≡ 0) → Room a at (wide 1 (n / 1000000000))
      go (yes z) = room_as (julian_whole z) h
      go (no k) = room_first _ _ (room_as (julian_point (omega (arith, k))) h)
