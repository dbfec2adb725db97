-- From the bit pattern of a finite value to its size: m * 2 ^ (e - 1) units of 2 ^ -1074, where e is the exponent's field. Assumes nothing.
use Rattle.std.proofs.Common.{◌≡◌, ℕ, zero, suc, ◌+◌, ◌-◌, ◌*◌, ◌/◌, ◌%◌, ◌^◌, ◌<◌, ◌≤◌, Bool, true, false, cond, T, eqb, leb, sym, refl, ap, ◌∙◌, subst, le_of_eq, lt_of_lt_of_le, le-add_right, lt_of_le_of_lt, mul_assoc, mul-le-mul, lt_of_mul-lt-mul_right, mul-lt-mul_of_pos_right, lt_of_not-le, mul-one, mul_right_comm, not-le_of_lt, arith, lit≤, pow_pos, pow_mono, pow-add}
use native.Mathlib.Nat.{eq_of_mul-eq-mul_right}
use lib.Ieee.{Float, nan, inf, fin, binary64, fits, odd, of_fields, of_bits, to_bits}
use lib.Ieee.Exact.{HasValue, odd_sign}
use lib.Ieee.Bits.{of_bits-to_bits}
use lib.Ieee.Positive.{num, den}
use lib.Ieee.Scale.{finite}
use Rattle.real.specs.PartsOf.{PartsOf}

-- the digits with their leading one, shifted
abbrev pub lead : ℕ → ℕ → ℕ
lead zero t = t
lead (suc e) t = (2 ^ 52 + t) * 2 ^ e

-- the size of x is a of those units
abbrev Units : Float → ℕ → Type 0
Units x a = num x * 2 ^ 1074 ≡ a * den x

of_odd : (s : Bool) (q k : ℕ) (x : Float) → x ≡ odd 53 s q k 1074 → Units x (q * 2 ^ k)
of_odd s q k x i = size x (subst (λ (z : Float). HasValue z s (q * 2 ^ k) (2 ^ 1074)) (sym i) (odd_sign 53 s q k 1074))
  where
    size : (x : Float) → HasValue x s (q * 2 ^ k) (2 ^ 1074) → Units x (q * 2 ^ k)
    size nan h = absurd h
    size (inf t) h = absurd h
    size (fin t m e) h = h.1

of_fields_lem : (s : Bool) (e t : ℕ) (x : Float) → T (finite x) → x ≡ of_fields binary64 s e t → Units x (lead e t)
unfolding of_fields
of_fields_lem s zero t x f i = of_odd s t 0 x i ∙ ap (λ (z : ℕ). z * den x) (mul-one t)
of_fields_lem s (suc e) t x f i = go (eqb (suc e) 2047) (eqb t 0) i
  where
    go : (a b : Bool) → x ≡ cond a (cond b (inf s) nan) (odd 53 s (2 ^ 52 + t) e 1074) → Units x (lead (suc e) t)
    go true true i = absurd (subst (λ (z : Float). T (finite z)) i f)
    go true false i = absurd (subst (λ (z : Float). T (finite z)) i f)
    go false b i = of_odd s (2 ^ 52 + t) e x i

of_bits_is : (b : ℕ) → of_bits binary64 b ≡ of_fields binary64 (leb (2 ^ 63) b) (b % 2 ^ 63 / 2 ^ 52) (b % 2 ^ 52)
unfolding of_bits
of_bits_is b = refl

module _ (x : Float) (fit : T (fits binary64 x)) (fin-x : T (finite x)) where
  -- the pattern without its sign
  abbrev bits : ℕ
  bits = to_bits binary64 x % 2 ^ 63

  decoded : Units x (lead (bits / 2 ^ 52) (bits % 2 ^ 52))
  decoded =
      let b = to_bits binary64 x in
      let below : b % 2 ^ 63 % 2 ^ 52 ≡ b % 2 ^ 52 = omega arith in
      of_fields_lem (leb (2 ^ 63) b) (b % 2 ^ 63 / 2 ^ 52) (b % 2 ^ 52) x fin-x (sym (of_bits-to_bits binary64 x fit) ∙ of_bits_is b) ∙ ap (λ (t : ℕ). lead (b % 2 ^ 63 / 2 ^ 52) t * den x) (sym below)

  -- a size below 2 ^ 53 has an exponent's field up to 1075
  pub field_le : num x < 2 ^ 53 * den x → bits / 2 ^ 52 ≤ 1075
  field_le h = go (bits / 2 ^ 52) (lt_of_mul-lt-mul_right (den x) (lt_of_le_of_lt (le_of_eq (sym decoded)) (less (num x) (2 ^ 1074) (pow_pos 1074) h)))
    where
      less : (n L : ℕ) → 0 < L → n < 2 ^ 53 * den x → n * L < 2 ^ 53 * L * den x
      less n L P h = lt_of_lt_of_le (mul-lt-mul_of_pos_right h P) (le_of_eq (mul_right_comm (2 ^ 53) (den x) L))

      go : (e : ℕ) → lead e (bits % 2 ^ 52) < 2 ^ 53 * 2 ^ 1074 → e ≤ 1075
      go zero l = lit≤ tt
      go (suc e) l = lt_of_not-le (λ (g : 1075 ≤ e). not-le_of_lt l (mul-le-mul {n₁ = 2 ^ 52} {m₁ = 2 ^ 1075} {n₂ = 2 ^ 52 + bits % 2 ^ 52} {m₂ = 2 ^ e} (le-add_right (2 ^ 52) (bits % 2 ^ 52)) (pow_mono g)))

  pub parts_normal : 0 < bits / 2 ^ 52 → bits / 2 ^ 52 ≤ 1075 → PartsOf x (2 ^ 52 + bits % 2 ^ 52) (1075 - bits / 2 ^ 52)
  parts_normal p h = record { is = go (bits / 2 ^ 52) decoded p h; small = omega arith }
    where
      up_again : (e : ℕ) → suc e ≤ 1075 → 1075 - suc e + e ≡ 1074
      up_again e h = omega arith

      go : (e : ℕ) → Units x (lead e (bits % 2 ^ 52)) → 0 < e → e ≤ 1075 → num x * 2 ^ (1075 - e) ≡ (2 ^ 52 + bits % 2 ^ 52) * den x
      go zero d p h = absurd (omega arith)
      go (suc e) d p h =
          eq_of_mul-eq-mul_right (2 ^ e) (pow_pos e) (num x * 2 ^ (1075 - suc e)) ((2 ^ 52 + bits % 2 ^ 52) * den x)
          (mul_assoc (num x) (2 ^ (1075 - suc e)) (2 ^ e) ∙ ap (λ (z : ℕ). num x * z) (sym (pow-add 2 (1075 - suc e) e) ∙ ap (λ (z : ℕ). 2 ^ z) (up_again e h)) ∙ d ∙ mul_right_comm (2 ^ 52 + bits % 2 ^ 52) (2 ^ e) (den x))

  pub parts_small : bits / 2 ^ 52 ≡ 0 → PartsOf x (bits % 2 ^ 52) 1074
  parts_small z = record { is = decoded ∙ ap (λ (e : ℕ). lead e (bits % 2 ^ 52) * den x) z; small = omega arith }
