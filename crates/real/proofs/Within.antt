-- A magnitude of at most y, for a y that is finite and not negative, stays so through each operation: f64's rounding keeps the order.
-- So what comes of every number up to a limit is bounded by what comes of the limit, which is computed. Assumes nothing.
use Rattle.std.proofs.Common.{if◌then◌else◌, ◌≡◌, ℕ, zero, suc, ◌+◌, ◌-◌, ◌*◌, ◌/◌, ◌^◌, ◌<◌, ◌≤◌, min, Bool, true, false, cond, not, ◌&&◌, ◌||◌, T, eqb, ltb, ℤ, pos, neg_ℤ, nat_abs, sym, refl, ap, ◌∙◌, subst, true≢false, le_trans, le_of_eq, le_refl, le_of_lt, add-le-add, mul-le-mul_right, mul_assoc, mul_comm, add-mul, mul-le-mul, mul-pos, mul_right_comm, mul_left_comm, arith, ltb→lt, ltb-true, ne_eqb, eqb-true}
use native.Mathlib.Nat.{mul-mul-mul_comm}
use lib.Ieee.{Float, nan, inf, fin, Format, binary64, prec, low, emax, unlike, up, down, odd, units, round, neg, sum, add, sub, mul, div, lt, le, to_signed, to_unsigned}
use lib.Ieee.Bits.{is_true}
use lib.Ieee.Exact.{HasValue}
use lib.Ieee.Fits.{down_pos, up_pos, round_is}
use lib.Ieee.Nearest.{closest_mono, div_mono}
use lib.Ieee.Order.{round_mono, kept, drop}
use lib.Ieee.Positive.{num, den, den_pos, positive}
use Rattle.rules.specs.Floats.{number, half, decimals, cut, whole, ◌⊕◌, ◌⊖◌, ◌⊗◌, ◌⊘◌}
use Rattle.rules.specs.Modifiers.{rounded}
use Rattle.real.proofs.Sign.{round_neg}

-- ---- finite, and finite with no sign: as a test that a computed value passes by `tt`, and as the shape that a proof goes by
pub data Finite : Float → Type 0 where
  finite : (s : Bool) (m : ℕ) (e : ℤ) → Finite (fin s m e)

pub data Plain : Float → Type 0 where
  plain : (m : ℕ) (e : ℤ) → Plain (fin false m e)

abbrev pub is_plain : Float → Bool
is_plain nan = false
is_plain (inf s) = false
is_plain (fin s m e) = not s

pub is_plain_lem : (x : Float) → T (is_plain x) → Plain x
is_plain_lem nan p = absurd p
is_plain_lem (inf s) p = absurd p
is_plain_lem (fin true m e) p = absurd p
is_plain_lem (fin false m e) p = plain m e

pub plain_finite : {x : Float} → Plain x → Finite x
plain_finite (plain m e) = finite false m e

pub plain_val : (x : Float) (a c : ℕ) → HasValue x false a c → Plain x
plain_val nan a c v = absurd v
plain_val (inf s) a c v = absurd v
plain_val (fin true m e) a c v = absurd (true≢false v.0)
plain_val (fin false m e) a c v = plain m e

-- ---- |x| ≤ y
pub record Within (x y : Float) : Type 0 where
  pub left : Finite x
  pub right : Plain y
  pub le : num x * den y ≤ num y * den x

pub within_self : {y : Float} → Plain y → Within y y
within_self (plain m e) = record { left = finite false m e; right = plain m e; le = le_refl _ }

pub within_neg : {x y : Float} → Within x y → Within (neg x) y
unfolding neg
within_neg {x} {y} w = go w.left w.le
  where
    go : {x : Float} → Finite x → num x * den y ≤ num y * den x → Within (neg x) y
    go (finite s m e) h = record { left = finite (not s) m e; right = w.right; le = h }

-- ---- `round`
abbrev unsigned : Float → Bool
unsigned nan = false
unsigned (inf s) = not s
unsigned (fin s m e) = not s

odd_unsigned : (d q k l : ℕ) → T (unsigned (odd d false q k l))
unfolding odd
odd_unsigned d zero k l = tt
odd_unsigned d (suc q) k l = tt

units_unsigned : (f : Format) (q k : ℕ) → T (unsigned (units f false q k))
unfolding units
units_unsigned f q k = go (ltb (q * 2 ^ k) (2 ^ (low f + suc (emax f))))
  where
    go : (b : Bool) → T (unsigned (cond b (odd (suc (prec f)) false q k (low f)) (inf false)))
    go true = odd_unsigned (suc (prec f)) q k (low f)
    go false = tt

round_unsigned : (a c : ℕ) → T (unsigned (round binary64 false a c))
round_unsigned a c = subst (λ (x : Float). T (unsigned x)) (sym (round_is binary64 false a c)) (units_unsigned binary64 (kept 53 (a * 2 ^ 1074) c) (drop 53 (a * 2 ^ 1074) c))

-- what is finite and rounded without a sign is plain
pub plain_round : (a c : ℕ) → Finite (round binary64 false a c) → T (is_plain (round binary64 false a c))
plain_round a c f = go f (round_unsigned a c)
  where
    go : {x : Float} → Finite x → T (unsigned x) → T (is_plain x)
    go (finite s m e) u = u

pub or_le : (a b : ℕ) (y : Bool) → (y ≡ true → a ≡ b) → (ltb a b || (y && true)) ≡ true → a ≤ b
or_le a b y q t = go (ltb a b) y (ltb-true a b) q t
  where
    go : (x y : Bool) → (x ≡ true → a < b) → (y ≡ true → a ≡ b) → (x || (y && true)) ≡ true → a ≤ b
    go true y p q t = le_of_lt (p refl)
    go false true p q t = le_of_eq (q refl)
    go false false p q t = absurd (true≢false (sym t))

pub test_le : (a b : ℕ) → (ltb a b || (eqb a b && true)) ≡ true → a ≤ b
test_le a b t = or_le a b (eqb a b) (eqb-true a b) t

le_within : (x : Float) {y : Float} → Plain y → T (unsigned x) → le x y ≡ true → Within x y
unfolding le
le_within nan (plain n d) u t = absurd u
le_within (inf true) (plain n d) u t = absurd u
le_within (inf false) (plain n d) u t = absurd (true≢false (sym t))
le_within (fin true m e) (plain n d) u t = absurd u
le_within (fin false m e) (plain n d) u t = record { left = finite false m e; right = plain n d; le = test_le (m * up e * down d) (n * up d * down e) t }

pub within_round : (s : Bool) (a b c d : ℕ) → 0 < b → 0 < d → a * d ≤ c * b → T (is_plain (round binary64 false c d)) → Within (round binary64 s a b) (round binary64 false c d)
within_round s a b c d B D h p = go s (le_within (round binary64 false a b) (is_plain_lem (round binary64 false c d) p) (round_unsigned a b) (is_true (le (round binary64 false a b) (round binary64 false c d)) (round_mono binary64 a b c d B D h)))
  where
    go : (s : Bool) → Within (round binary64 false a b) (round binary64 false c d) → Within (round binary64 s a b) (round binary64 false c d)
    go false w = w
    go true w = subst (λ (z : Float). Within z (round binary64 false c d)) (round_neg binary64 a b) (within_neg w)

-- ---- products and sums of any signs, as `round` has them: of a sum's size no more is said than that it is the sizes' sum at most
record Sized (x : Float) (a c : ℕ) : Type 0 where
  sign : Bool
  size : ℕ
  is : x ≡ round binary64 sign size c
  most : size ≤ a

mul_is : {x y : Float} → Plain x → Plain y → x ⊗ y ≡ round binary64 false (num x * num y) (den x * den y)
unfolding mul
mul_is (plain m e) (plain n d) = refl

mul_sized : {x y : Float} → Finite x → Finite y → Sized (x ⊗ y) (num x * num y) (den x * den y)
unfolding mul
mul_sized (finite s m e) (finite t n d) = record { sign = _; size = _; is = refl; most = le_refl _ }

add_is : {x y : Float} → Plain x → Plain y → x ⊕ y ≡ round binary64 false (num x * den y + num y * den x) (den x * den y)
unfolding add
add_is (plain m e) (plain n d) = refl

apart_sized : (s t r : Bool) (a b c : ℕ) → Sized (cond r (round binary64 t (b - a) c) (round binary64 s (a - b) c)) (a + b) c
apart_sized s t true a b c = record { sign = _; size = _; is = refl; most = omega arith }
apart_sized s t false a b c = record { sign = _; size = _; is = refl; most = omega arith }

sum_sized : (s t : Bool) (a b c : ℕ) → Sized (sum binary64 s a t b c) (a + b) c
unfolding sum
sum_sized false false a b c = record { sign = _; size = _; is = refl; most = le_refl _ }
sum_sized true true a b c = record { sign = _; size = _; is = refl; most = le_refl _ }
sum_sized false true a b c = apart_sized false true (ltb a b) a b c
sum_sized true false a b c = apart_sized (ltb b a) false (ltb a b) a b c

add_sized : {x y : Float} → Finite x → Finite y → Sized (x ⊕ y) (num x * den y + num y * den x) (den x * den y)
unfolding add
add_sized (finite s m e) (finite t n d) = sum_sized s t (m * up e * down d) (n * up d * down e) (down e * down d)

sized_within : {x : Float} (a c b d : ℕ) → 0 < c → 0 < d → a * d ≤ b * c → Sized x a c → T (is_plain (round binary64 false b d)) → Within x (round binary64 false b d)
sized_within a c b d C D h z p =
    subst (λ (v : Float). Within v (round binary64 false b d)) (sym z.is) (within_round z.sign z.size c b d C D (le_trans (mul-le-mul_right d z.most) h) p)

-- ---- the operations: the same on y gives a bound, where that does not overflow
pub within_mul : {x y k l : Float} → Within x y → Within k l → T (is_plain (y ⊗ l)) → Within (x ⊗ k) (y ⊗ l)
within_mul {x} {y} {k} {l} w v p =
    let e = mul_is w.right v.right in
    let h : num x * num k * (den y * den l) ≤ num y * num l * (den x * den k) =
    le_trans (le_of_eq (mul-mul-mul_comm (num x) (num k) (den y) (den l))) (le_trans (mul-le-mul w.le v.le) (le_of_eq (mul-mul-mul_comm (num y) (den x) (num l) (den k)))) in
    subst (λ (z : Float). Within (x ⊗ k) z) (sym e)
    (sized_within (num x * num k) (den x * den k) (num y * num l) (den y * den l) (mul-pos (den_pos x) (den_pos k)) (mul-pos (den_pos y) (den_pos l)) h (mul_sized w.left v.left) (subst (λ (z : Float). T (is_plain z)) e p))

pub within_add : {x y k l : Float} → Within x y → Within k l → T (is_plain (y ⊕ l)) → Within (x ⊕ k) (y ⊕ l)
within_add {x} {y} {k} {l} w v p =
    let e = add_is w.right v.right in
    let a : num x * den k * (den y * den l) ≤ num y * den l * (den x * den k) = cross (num x) (den x) (num y) (den y) (den k) (den l) w.le in
    let b : num k * den x * (den y * den l) ≤ num l * den y * (den x * den k) =
    le_trans (le_of_eq (ap (λ (z : ℕ). num k * den x * z) (mul_comm (den y) (den l)))) (le_trans (cross (num k) (den k) (num l) (den l) (den x) (den y) v.le) (le_of_eq (ap (λ (z : ℕ). num l * den y * z) (mul_comm (den k) (den x))))) in
    let h : (num x * den k + num k * den x) * (den y * den l) ≤ (num y * den l + num l * den y) * (den x * den k) =
    le_trans (le_of_eq (add-mul (num x * den k) (num k * den x) (den y * den l))) (le_trans (add-le-add a b) (le_of_eq (sym (add-mul (num y * den l) (num l * den y) (den x * den k))))) in
    subst (λ (z : Float). Within (x ⊕ k) z) (sym e)
    (sized_within (num x * den k + num k * den x) (den x * den k) (num y * den l + num l * den y) (den y * den l) (mul-pos (den_pos x) (den_pos k)) (mul-pos (den_pos y) (den_pos l)) h (add_sized w.left v.left) (subst (λ (z : Float). T (is_plain z)) e p))
  where
    cross : (a c b d e f : ℕ) → a * d ≤ b * c → a * e * (d * f) ≤ b * f * (c * e)
    cross a c b d e f h = le_trans (le_of_eq (mul-mul-mul_comm a e d f)) (le_trans (mul-le-mul_right (e * f) h) (le_of_eq (ap (λ (z : ℕ). b * c * z) (mul_comm e f) ∙ mul-mul-mul_comm b c f e)))

pub within_sub : {x y k l : Float} → Within x y → Within k l → T (is_plain (y ⊕ l)) → Within (x ⊖ k) (y ⊕ l)
unfolding sub
within_sub w v p = within_add w (within_neg v) p

pub within_div : {x y : Float} (k : Float) → Within x y → T (positive k) → T (is_plain (y ⊘ k)) → Within (x ⊘ k) (y ⊘ k)
unfolding div
within_div nan w k p = absurd k
within_div (inf t) w k p = absurd k
within_div (fin true n d) w k p = absurd k
within_div (fin false n d) w k p = go w.left w.right w.le p
  where
    cross : (a b c d e f : ℕ) → a * f ≤ b * e → a * d * (c * f) ≤ b * d * (c * e)
    cross a b c d e f h = le_trans (le_of_eq (simp (mul_assoc, mul_comm, mul_left_comm))) (le_trans (mul-le-mul_right (c * d) h) (le_of_eq (simp (mul_assoc, mul_comm, mul_left_comm))))

    N : 0 < n
    N = ltb→lt 0 n k

    go : {x y : Float} → Finite x → Plain y → num x * den y ≤ num y * den x → T (is_plain (y ⊘ fin false n d)) → Within (x ⊘ fin false n d) (y ⊘ fin false n d)
    go (finite s m e) (plain o f) h p = some (eqb n 0) (ne_eqb n 0 (λ z. let l = N in omega arith)) (cond (eqb m 0) nan (inf (unlike s false))) (cond (eqb o 0) nan (inf false)) p
      where
        some : (b : Bool) → b ≡ false → (u v : Float) → T (is_plain (cond b v (round binary64 false (o * up f * down d) (n * up d * down f))))
            → Within (cond b u (round binary64 (unlike s false) (m * up e * down d) (n * up d * down e))) (cond b v (round binary64 false (o * up f * down d) (n * up d * down f)))
        some true z u v p = absurd (true≢false z)
        some false z u v p = within_round (unlike s false) (m * up e * down d) (n * up d * down e) (o * up f * down d) (n * up d * down f) (mul-pos (mul-pos N (up_pos d)) (down_pos e)) (mul-pos (mul-pos N (up_pos d)) (down_pos f)) (cross (m * up e) (o * up f) (n * up d) (down d) (down e) (down f) h) p

-- what is finite is then plain
pub plain_mul : {x y : Float} → Plain x → Plain y → Finite (x ⊗ y) → T (is_plain (x ⊗ y))
plain_mul {x} {y} p q f = let e = mul_is p q in subst (λ (z : Float). T (is_plain z)) (sym e) (plain_round (num x * num y) (den x * den y) (subst Finite e f))

pub plain_add : {x y : Float} → Plain x → Plain y → Finite (x ⊕ y) → T (is_plain (x ⊕ y))
plain_add {x} {y} p q f = let e = add_is p q in subst (λ (z : Float). T (is_plain z)) (sym e) (plain_round (num x * den y + num y * den x) (den x * den y) (subst Finite e f))

-- ---- the cuts, and decimals
quotient_le : {x y : Float} → Within x y → num x / den x ≤ num y / den y
quotient_le {x} {y} w = div_mono (num x) (den x) (num y) (den y) (den_pos x) (den_pos y) w.le

pub whole_within : {x y : Float} → Within x y → whole x ≤ whole y
unfolding to_unsigned
whole_within w = go w.left w.right (quotient_le w)
  where
    go : {x y : Float} → Finite x → Plain y → num x / den x ≤ num y / den y → whole x ≤ whole y
    go (finite true m e) (plain n d) h = omega arith
    go (finite false m e) (plain n d) h = omega arith

pub abs_neg : (k : ℕ) → nat_abs (neg_ℤ (pos k)) ≡ k
abs_neg zero = refl
abs_neg (suc k) = refl

pub cut_within : {x y : Float} → Within x y → nat_abs (cut x) ≤ whole y
unfolding to_signed to_unsigned
cut_within w = go w.left w.right (quotient_le w)
  where
    go : {x y : Float} → Finite x → Plain y → num x / den x ≤ num y / den y → nat_abs (cut x) ≤ whole y
    go (finite true m e) (plain n d) h = omega (arith, abs_neg (min (m * up e / down e) (2 ^ 63)))
    go (finite false m e) (plain n d) h = omega arith

pub decimals_within : (k : ℕ) {x y : Float} → Within x y → decimals k x ≤ decimals k y
decimals_within k {x} {y} w =
    closest_mono (num x * 10 ^ k) (den x) (num y * 10 ^ k) (den y) (den_pos x) (den_pos y)
    (le_trans (le_of_eq (mul_right_comm (num x) (10 ^ k) (den y))) (le_trans (mul-le-mul_right (10 ^ k) w.le) (le_of_eq (mul_right_comm (num y) (den x) (10 ^ k)))))

pub half_self : Within half half
unfolding round
half_self = within_self (is_plain_lem half tt)

pub rounded_within : {x y : Float} → Within x y → T (is_plain (y ⊕ half)) → nat_abs (rounded x) ≤ whole (y ⊕ half)
rounded_within {x} {y} w p = go (lt x (number 0)) (cut_within (within_sub w half_self p)) (cut_within (within_add w half_self p))
  where
    go : (b : Bool) → nat_abs (cut (x ⊖ half)) ≤ whole (y ⊕ half) → nat_abs (cut (x ⊕ half)) ≤ whole (y ⊕ half) → nat_abs (cut (if b then x ⊖ half else x ⊕ half)) ≤ whole (y ⊕ half)
    go true m n = m
    go false m n = n
