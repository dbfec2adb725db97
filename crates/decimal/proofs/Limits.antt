-- What the limits make of a number: where it is over them, and that to hold numbers up to 2 ^ 64 - 1 makes no difference to it. Assumes nothing.
use mathlib.Core.Path.{◌≡◌, refl, sym, ap, ◌∙◌}
use Rattle.std.specs.Prelude.{if◌then◌else◌}
use mathlib.Core.Bool.{Bool, true, false, ◌&&◌}
use mathlib.Core.List.{List, [], ◌∷◌, ◌++◌}
use Rattle.std.specs.Int.{abs_diff}
use Prim.Native.Nat.{ℕ, ◌+◌, ◌-◌, ◌*◌, ◌^◌, ◌≤◌, ◌<◌, zero-le}
use native.Mathlib.Nat.{le_of_lt, lt_of_not-le, min-eq_left, min-eq_right, mul-one}
use native.Mathlib.Decide.{dec_le}
use native.Mathlib.Omega.{arith}
use borrow.Author.Tests.{lt-ltb, le-ltb, le-leb, lt-leb, ne_eqb}
use lib.Dec.{eqb, ltb, lit≤, lit<}
use lib.Ieee.{Float, binary64, of_bits, round, neg}
use Rattle.real.proofs.Sign.{round_neg}
use Rattle.rules.specs.Basics.{Read, got, other, refuse, ◌>>=◌}
use Rattle.rules.specs.Decimal.{value, nearest_to}
use Rattle.rules.specs.declared.Refusal.{Refusal}
use Rattle.decimal.specs.Held.{held, held_exponent, scaled}

-- ---- the number that digits write, held

-- what is held of the largest
abbrev pub most : ℕ
most = 18446744073709551615

pub held_more : (v d : ℕ) → held (held v * 10 + d) ≡ held (v * 10 + d)
held_more v d = omega arith

pub held_value : (v : ℕ) (ds : List ℕ) → held (value (held v) ds) ≡ held (value v ds)
unfolding value
held_value v [] = omega arith
held_value v (d ∷ ds) = sym (held_value (held v * 10 + d) ds) ∙ ap (λ (x : ℕ). held (value x ds)) (held_more v d) ∙ held_value (v * 10 + d) ds

pub value_append : (v : ℕ) (ds es : List ℕ) → value v (ds ++ es) ≡ value (value v ds) es
unfolding value
value_append v [] es = refl
value_append v (d ∷ ds) es = value_append (v * 10 + d) ds es

-- ---- where a number is over the limits

abbrev over : Bool → ℕ → Read Float
over minus d = if eqb d 0 then got (round binary64 minus 0 1) else refuse Refusal.Decimal

neither : {A : Type 0} (a : Bool) (x y : A) → (if a && false then x else y) ≡ y
neither true x y = refl
neither false x y = refl

module _ (minus : Bool) (d up down : ℕ) where
  pub too_high : down + 22 < up → nearest_to minus d up down ≡ over minus d
  unfolding nearest_to
  too_high h = rw (lt-leb up (down + 22) h) (ap (λ (r : Read Float). if eqb d 0 then got (round binary64 minus 0 1) else r) (neither (ltb d (10 ^ 19)) _ _))

  pub too_low : up + 22 < down → up ≤ down + 22 → nearest_to minus d up down ≡ over minus d
  unfolding nearest_to
  too_low h k = rw (lt-leb down (up + 22) h, le-leb up (down + 22) k) (ap (λ (r : Read Float). if eqb d 0 then got (round binary64 minus 0 1) else r) (neither (ltb d (10 ^ 19)) _ _))

  pub too_long : 10 ^ 19 ≤ d → nearest_to minus d up down ≡ refuse Refusal.Decimal
  unfolding nearest_to
  too_long h = let z : d ≡ 0 → ⊥ = λ e. omega arith in rw (le-ltb d (10 ^ 19) h, ne_eqb d 0 z)

  pub fitting : (d ≡ 0 → ⊥) → d < 10 ^ 19 → up ≤ down + 22 → down ≤ up + 22 → nearest_to minus d up down ≡ got (round binary64 minus (d * 10 ^ (up - down)) (10 ^ (down - up)))
  unfolding nearest_to
  fitting z h a b = rw (ne_eqb d 0 z, lt-ltb d (10 ^ 19) h, le-leb up (down + 22) a, le-leb down (up + 22) b)

  pub none : d ≡ 0 → nearest_to minus d up down ≡ got (round binary64 minus 0 1)
  unfolding nearest_to
  none e = rw e

  pub raised : (d ≡ 0 → ⊥) → d < 10 ^ 19 → down ≤ up → up - down ≤ 22 → nearest_to minus d up down ≡ got (round binary64 minus (d * 10 ^ (up - down)) 1)
  raised z h a b =
      let e : down - up ≡ 0 = omega arith in
      fitting z h (omega arith) (omega arith) ∙ ap (λ (x : ℕ). got (round binary64 minus (d * 10 ^ (up - down)) (10 ^ x))) e

  pub divided : (d ≡ 0 → ⊥) → d < 10 ^ 19 → up ≤ down → down - up ≤ 22 → nearest_to minus d up down ≡ got (round binary64 minus d (10 ^ (down - up)))
  divided z h a b =
      let e : up - down ≡ 0 = omega arith in
      fitting z h (omega arith) (omega arith)
      ∙ ap (λ (x : ℕ). got (round binary64 minus (d * 10 ^ x) (10 ^ (down - up)))) e
      ∙ ap (λ (x : ℕ). got (round binary64 minus x (10 ^ (down - up)))) (mul-one d)

  pub too_far : (d ≡ 0 → ⊥) → 22 < abs_diff up down → nearest_to minus d up down ≡ refuse Refusal.Decimal
  too_far z l = go (dec_le down up)
    where
      go : Dec (down ≤ up) → nearest_to minus d up down ≡ refuse Refusal.Decimal
      go (yes h) = too_high (omega arith) ∙ rw (ne_eqb d 0 z)
      go (no h) = too_low (omega (arith, h)) (omega (arith, h)) ∙ rw (ne_eqb d 0 z)

-- the zero of the code
pub zero : of_bits binary64 0 ≡ round binary64 false 0 1
unfolding of_bits round
zero = refl

pub signed : (minus : Bool) (a c : ℕ) → (if minus then neg (round binary64 false a c) else round binary64 false a c) ≡ round binary64 minus a c
signed true a c = round_neg binary64 a c
signed false a c = refl

-- ---- held numbers come to the same

module _ (minus : Bool) (d : ℕ) where
  pub held_digits : (up down : ℕ) → nearest_to minus (held d) up down ≡ nearest_to minus d up down
  held_digits up down = elim (dec_le d most) [
    | yes h ↦ ap (λ (x : ℕ). nearest_to minus x up down) (min-eq_left h)
    | no n ↦ let h = le_of_lt (lt_of_not-le n) in ap (λ (x : ℕ). nearest_to minus x up down) (min-eq_right h) ∙ too_long minus most up down (lit≤ tt) ∙ sym (too_long minus d up down (omega arith))
  ]

  pub held_up : (e tenths : ℕ) → tenths + 22 < most → nearest_to minus d (held e) tenths ≡ nearest_to minus d e tenths
  held_up e tenths l = elim (dec_le e most) [
    | yes h ↦ ap (λ (x : ℕ). nearest_to minus d x tenths) (min-eq_left h)
    | no n ↦ let h = le_of_lt (lt_of_not-le n) in ap (λ (x : ℕ). nearest_to minus d x tenths) (min-eq_right h) ∙ too_high minus d most tenths l ∙ sym (too_high minus d e tenths (omega arith))
  ]

  pub held_down : (e : ℕ) → nearest_to minus d 0 (held e) ≡ nearest_to minus d 0 e
  held_down e = elim (dec_le e most) [
    | yes h ↦ ap (λ (x : ℕ). nearest_to minus d 0 x) (min-eq_left h)
    | no n ↦ let h = le_of_lt (lt_of_not-le n) in ap (λ (x : ℕ). nearest_to minus d 0 x) (min-eq_right h) ∙ too_low minus d 0 most (lit< tt) zero-le ∙ sym (too_low minus d 0 e (omega arith) zero-le)
  ]

pub held_scaled : (minus : Bool) (d tenths : ℕ) (x : Read (Bool × ℕ)) → tenths + 22 < most → ◌>>=◌ (held_exponent x) (scaled minus (held d) tenths) ≡ ◌>>=◌ x (scaled minus d tenths)
held_scaled minus d tenths other l = refl
held_scaled minus d tenths (refuse r) l = refl
held_scaled minus d tenths (got x) l = go x.0 x.1
  where
    go : (m : Bool) (e : ℕ) → scaled minus (held d) tenths (m, held e) ≡ scaled minus d tenths (m, e)
    go true e =
        let h : held (tenths + held e) ≡ held (tenths + e) = omega arith in
        held_digits minus d 0 (tenths + held e) ∙ sym (held_down minus d (tenths + held e)) ∙ ap (nearest_to minus d 0) h ∙ held_down minus d (tenths + e)
    go false e = held_digits minus d (held e) (tenths + 0) ∙ held_up minus d e (tenths + 0) (omega arith)
