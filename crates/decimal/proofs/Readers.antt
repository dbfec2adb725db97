-- The rules' readers, by what the code's readers find. Assumes nothing.
use mathlib.Core.Path.{◌≡◌, refl, sym, ap, ◌∙◌}
use mathlib.Core.Bool.{Bool, true, false}
use mathlib.Core.List.{List, [], ◌∷◌, ◌++◌}
use Prim.Native.Nat.{ℕ, suc, ◌+◌, ◌-◌, ◌^◌, ◌≤◌, ◌<◌, zero-le}
use native.Mathlib.Omega.{arith}
use Rattle.std.specs.Prelude.{if◌then◌else◌}
use lib.Ieee.{Float, nan, inf}
use lib.ListN.{length, length-append}
use Rattle.rules.specs.Basics.{ascii, is, is_digit, word, Read, got, other, ◌>>=◌}
use Rattle.rules.specs.Decimal.{sign, run, value, point, some, exponent, digits_form, named_form}
use Rattle.text.specs.Places.{begins}
use Rattle.decimal.specs.Held.{held, held_exponent, scaled, Taken}
use Rattle.decimal.specs.declared.Digits.{Digits}
use Rattle.decimal.proofs.Limits.{held_value, value_append, held_scaled, most}

-- ---- a sign

pub sign_none : (s : List ℕ) → begins 45 s ≡ false → begins 43 s ≡ false → sign s ≡ (false, s)
unfolding sign
sign_none [] m p = refl
sign_none (b ∷ s) m p = rw (m, p)

-- ---- digits

-- and what follows them make up the whole
pub run_length : (s : List ℕ) → length (run s).0 + length (run s).1 ≡ length s
unfolding run
run_length [] = refl
run_length (b ∷ s) = go (is_digit b) (run_length s)
  where
    found : Bool → List ℕ × List ℕ
    found x = if x then ((b - 48) ∷ (run s).0, (run s).1) else ([], b ∷ s)

    go : (x : Bool) → length (run s).0 + length (run s).1 ≡ length s → length (found x).0 + length (found x).1 ≡ suc (length s)
    go true h = omega arith
    go false h = omega arith

-- no more than bytes
pub point_few : (s : List ℕ) → length (point s).0 ≤ length s
unfolding point
point_few [] = zero-le
point_few (b ∷ s) = go (is "." b)
  where
    go : (x : Bool) → length (if x then run s else ([], b ∷ s)).0 ≤ suc (length s)
    go true = omega (arith, run_length s)
    go false = zero-le

some_none : (ds : List ℕ) → 0 ≡ length ds → some ds ≡ other
some_none [] h = refl
some_none (d ∷ ds) h = absurd (omega arith)

some_got : (ds : List ℕ) → (0 ≡ length ds → ⊥) → some ds ≡ got ds
some_got [] h = absurd (h refl)
some_got (d ∷ ds) h = refl

-- ---- digits, point, digits, exponent

abbrev form : Bool → List ℕ → List ℕ × List ℕ → Read Float
form minus ones p = ◌>>=◌ (some (ones ++ p.0)) (λ ds. ◌>>=◌ (exponent p.1) (scaled minus (value 0 ds) (length p.0)))

form_is : (minus : Bool) (s : List ℕ) → digits_form minus s ≡ form minus (run s).0 (point (run s).1)
unfolding digits_form
form_is minus s = refl

module _ (minus : Bool) (s : List ℕ) (a b : Digits) (o : Taken (run s) 0 a) (p : Taken (point a.rest.now) a.value b) where
  abbrev ones : List ℕ
  ones = (run s).0

  abbrev tenths : List ℕ
  tenths = (point a.rest.now).0

  opens : digits_form minus s ≡ form minus ones (point a.rest.now)
  opens = form_is minus s ∙ ap (λ (x : List ℕ). form minus ones (point x)) (sym o.follows)

  many : length (ones ++ tenths) ≡ a.count + b.count
  many = length-append ones tenths ∙ omega (arith, o.many, p.many)

  number : held (value 0 (ones ++ tenths)) ≡ b.value
  number = ap held (value_append 0 ones tenths) ∙ sym (held_value (value 0 ones) tenths) ∙ ap (λ (x : ℕ). held (value x tenths)) (sym o.number) ∙ sym p.number

  pub digits_none : a.count ≡ 0 → b.count ≡ 0 → digits_form minus s ≡ other
  digits_none h k = opens ∙ rw (some_none (ones ++ tenths) (omega (arith, many)))

  few : length s < 2 ^ 63 → b.count + 22 < most
  few l = omega (arith, p.many, point_few a.rest.now, ap length o.follows, run_length s)

  digits_some : (a.count + b.count ≡ 0 → ⊥) → length s < 2 ^ 63 → digits_form minus s ≡ ◌>>=◌ (held_exponent (exponent b.rest.now)) (scaled minus b.value b.count)
  digits_some h l =
      let d = value 0 (ones ++ tenths) in
      let e = exponent b.rest.now in
      opens
      ∙ rw (some_got (ones ++ tenths) (λ z. h (sym many ∙ sym z)), ← p.follows)
      (ap (λ (n : ℕ). ◌>>=◌ e (scaled minus d n)) (sym p.many) ∙ sym (held_scaled minus d b.count e (few l)) ∙ ap (λ (n : ℕ). ◌>>=◌ (held_exponent e) (scaled minus n b.count)) number)

  pub without_exponent : (a.count + b.count ≡ 0 → ⊥) → length s < 2 ^ 63 → other ≡ held_exponent (exponent b.rest.now) → digits_form minus s ≡ other
  without_exponent h l e = digits_some h l ∙ rw (← e)

  pub with_exponent : (x : Bool × ℕ) → (a.count + b.count ≡ 0 → ⊥) → length s < 2 ^ 63 → got x ≡ held_exponent (exponent b.rest.now) → digits_form minus s ≡ scaled minus b.value b.count x
  with_exponent x h l e = digits_some h l ∙ rw (← e)

-- ---- inf, infinity, nan

module _ (minus : Bool) (s : List ℕ) where
  pub named_inf : word (ascii "inf") s ≡ true → named_form minus s ≡ got (inf minus)
  unfolding named_form
  named_inf e = rw e

  pub named_infinity : word (ascii "inf") s ≡ false → word (ascii "infinity") s ≡ true → named_form minus s ≡ got (inf minus)
  unfolding named_form
  named_infinity e f = rw (e, f)

  pub named_nan : word (ascii "inf") s ≡ false → word (ascii "infinity") s ≡ false → word (ascii "nan") s ≡ true → named_form minus s ≡ got nan
  unfolding named_form
  named_nan e f g = rw (e, f, g)

  pub named_none : word (ascii "inf") s ≡ false → word (ascii "infinity") s ≡ false → word (ascii "nan") s ≡ false → named_form minus s ≡ other
  unfolding named_form
  named_none e f g = rw (e, f, g)
