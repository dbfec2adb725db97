-- What the tests on an f64 say of its size, and the other way. Assumes nothing.
use Rattle.std.proofs.Common.{◌≡◌, ℕ, zero, suc, ◌+◌, ◌*◌, ◌^◌, ◌<◌, ◌≤◌, Bool, true, false, not, ◌&&◌, ◌||◌, T, eqb, ltb, ◌⊎◌, pos, sym, refl, ap, ◌∙◌, subst, inl, inr, true≢false, zero-le, le_trans, le_of_eq, lt_of_lt_of_le, lt_of_le_of_lt, le_of_lt, mul-le-mul_right, lt_of_mul-lt-mul_right, eq-or-lt_of_le, mul-lt-mul_of_pos_right, mul-pos, zero-mul, mul-one, mul_right_comm, arith, lit≤, pow_pos, ltb-false, ltb-true, le-ltb, lt-ltb, eq-eqb, eqb-true}
use lib.Ieee.{Float, nan, inf, fin, up, down, of_int, round, neg, lt, le, is_nan}
use lib.Ieee.Fits.{down_pos}
use lib.Ieee.Order.{transfer}
use lib.Ieee.Positive.{num, den, den_pos, value→cross, through}
use lib.Ieee.Scale.{finite as is_finite}
use Rattle.rules.specs.Floats.{number, within, below}
use Rattle.real.proofs.Near.{number_val}
use Rattle.real.proofs.Within.{Finite, finite, Plain, plain, plain_finite, plain_val, Within, or_le, test_le}

pub and_left : (a b : Bool) → (a && b) ≡ true → a ≡ true
and_left true b e = refl
and_left false b e = e

pub and_right : (a b : Bool) → (a && b) ≡ true → b ≡ true
and_right true b e = e
and_right false b e = absurd (true≢false (sym e))

no : {A : Type 0} → false ≡ true → A
no e = absurd (true≢false (sym e))

pub not_nan : {x : Float} → Finite x → T (not (is_nan x))
unfolding is_nan
not_nan (finite s m e) = tt

pub is_finite_lem : {x : Float} → Finite x → T (is_finite x)
is_finite_lem (finite s m e) = tt

-- ---- whole numbers
pub number_plain : (k : ℕ) → k ≤ 2 ^ 53 → Plain (number k)
number_plain k h = plain_val (number k) k 1 (number_val k h)

pub number_within : (a b : ℕ) → a ≤ b → b ≤ 2 ^ 53 → Within (number a) (number b)
number_within a b h B =
    let A = le_trans h B in
    record {
      left = plain_finite (number_plain a A);
      right = number_plain b B;
      le = transfer (num (number a)) (num (number b)) (den (number a)) (den (number b)) a b 1 1 (pow_pos 0) (pow_pos 0) (value→cross (number a) a 1 (number_val a A)) (value→cross (number b) b 1 (number_val b B)) (mul-le-mul_right 1 h);
    }

-- ---- "magnitude strictly below"
below_less : (x : Float) {l : Float} → Plain l → below x l ≡ true → Finite x × (num x * den l < num l * den x)
unfolding lt neg
below_less nan (plain n d) h = no h
below_less (inf true) (plain n d) h = no h
below_less (inf false) (plain n d) h = no h
below_less (fin true m e) (plain n d) h = (finite true m e, ltb-true (m * up e * down d) (n * up d * down e) (and_left (ltb (m * up e * down d) (n * up d * down e)) (ltb 0 (m * up e * down d + n * up d * down e)) h))
below_less (fin false m e) (plain n d) h = (finite false m e, ltb-true (m * up e * down d) (n * up d * down e) (and_right (ltb 0 (n * up d * down e + m * up e * down d)) (ltb (m * up e * down d) (n * up d * down e)) h))

pub below_within : (x : Float) {l : Float} → Plain l → below x l ≡ true → Within x l
below_within x p h = let (f, s) = below_less x p h in record { left = f; right = p; le = le_of_lt s }

pub below_number : (x : Float) (k : ℕ) → k ≤ 2 ^ 53 → below x (number k) ≡ true → Finite x × (num x < k * den x)
below_number x k K h =
    let l = number k in
    let (f, s) = below_less x (number_plain k K) h in
    let e : num l ≡ k * den l = sym (mul-one (num l)) ∙ value→cross l k 1 (number_val k K) in
    (f, lt_of_mul-lt-mul_right (den l) (lt_of_lt_of_le s (le_of_eq (ap (λ (z : ℕ). z * den x) e ∙ mul_right_comm k (den l) (den x)))))

pub within_below : {x y l : Float} → Within x y → Plain l → num y * den l < num l * den y → below x l ≡ true
unfolding lt neg
within_below {x} {y} {l} w p h = go w.left p (less (num x) (num l) (num y) (den x) (den l) (den y) (den_pos x) w.le h)
  where
    -- a / c ≤ q / r < b / d
    less : (a b q c d r : ℕ) → 0 < c → a * r ≤ q * c → q * d < b * r → a * d < b * c
    less a b q c d r C h k =
        lt_of_mul-lt-mul_right r
        (lt_of_le_of_lt (le_of_eq (mul_right_comm a d r)) (lt_of_le_of_lt (mul-le-mul_right d h) (lt_of_le_of_lt (le_of_eq (mul_right_comm q c d)) (lt_of_lt_of_le (mul-lt-mul_of_pos_right k C) (le_of_eq (mul_right_comm b r c))))))

    go : {x l : Float} → Finite x → Plain l → num x * den l < num l * den x → below x l ≡ true
    go (finite true m e) (plain n d) l = rw (lt-ltb (m * up e * down d) (n * up d * down e) l) (lt-ltb 0 (m * up e * down d + n * up d * down e) (omega arith))
    go (finite false m e) (plain n d) l = rw (lt-ltb 0 (n * up d * down e + m * up e * down d) (omega arith)) (lt-ltb (m * up e * down d) (n * up d * down e) l)

-- ---- no more than y, and no less than 0
pub not_above : {x y : Float} → Plain x → Plain y → lt y x ≡ false → Within x y
unfolding lt
not_above (plain m e) (plain n d) h = record { left = finite false m e; right = plain n d; le = ltb-false (n * up d * down e) (m * up e * down d) h }

pub within_le : {x y : Float} → Plain x → Within x y → le x y ≡ true
unfolding le lt
within_le p w = go p w.right w.le
  where
    or_true : (a b : ℕ) → (a ≡ b) ⊎ (a < b) → (ltb a b || (eqb a b && true)) ≡ true
    or_true a b (inl e) = rw (le-ltb a b (le_of_eq (sym e)), eq-eqb a b e)
    or_true a b (inr l) = rw (lt-ltb a b l)

    go : {x y : Float} → Plain x → Plain y → num x * den y ≤ num y * den x → le x y ≡ true
    go (plain m e) (plain n d) h = or_true (m * up e * down d) (n * up d * down e) (eq-or-lt_of_le h)

pub not_below : {x : Float} → Plain x → le (number 0) x ≡ true
unfolding of_int round
not_below (plain m e) = within_le {x = number 0} {y = fin false m e} (number_plain 0 (lit≤ tt)) (record { left = finite false 0 (pos 0); right = plain m e; le = omega arith })

-- ---- from low up to l. A zero with a sign is level with 0.
pub between : {low l : Float} (x : Float) → Plain low → Plain l → le low x ≡ true → le x l ≡ true → Within x l × (num low * den x ≤ num x * den low)
unfolding le lt
between nan (plain k f) (plain n d) g h = no h
between (inf true) (plain k f) (plain n d) g h = no g
between (inf false) (plain k f) (plain n d) g h = no h
between (fin true m e) (plain k f) (plain n d) g h =
    let a = k * up f * down e in
    let b = m * up e * down f in
    let ab = eqb-true a b (and_left (eqb a b) (eqb a 0) g) in
    let z : m * up e ≡ 0 = none (m * up e) (down f) (down_pos f) (sym ab ∙ eqb-true a 0 (and_right (eqb a b) (eqb a 0) g)) in
    (record { left = finite true m e; right = plain n d; le = subst (λ (v : ℕ). v * down d ≤ n * up d * down e) (sym z) (subst (λ (v : ℕ). v ≤ n * up d * down e) (sym (zero-mul (down d))) zero-le) }, le_of_eq ab)
  where
    none : (a d : ℕ) → 0 < d → a * d ≡ 0 → a ≡ 0
    none zero d D e = refl
    none (suc a) d D e = absurd (omega (arith, mul-pos {m = suc a} {n = d} (omega arith) D))
between (fin false m e) (plain k f) (plain n d) g h =
    (record { left = finite false m e; right = plain n d; le = test_le (m * up e * down d) (n * up d * down e) h }, test_le (k * up f * down e) (m * up e * down f) g)

pub span_within : {low l : Float} (x : Float) → Plain low → Plain l → within low x l ≡ true → Within x l × (num low * den x ≤ num x * den low)
span_within {low} {l} x p q h = between x p q (and_left (le low x) (lt x l) h) (lt_le (and_right (le low x) (lt x l) h))
  where
    lt_le : lt x l ≡ true → le x l ≡ true
    lt_le h = unfold le in rw h

-- ---- from -k up to l, for a k up to l
pub around : {k l : Float} (x : Float) → Plain k → Within k l → le (neg k) x ≡ true → le x l ≡ true → Within x l
unfolding le lt neg
around x p w g h = go x p w.right w.le g h
  where
    level : (a b : ℕ) → (ltb b a || (eqb a b && true)) ≡ true → b ≤ a
    level a b t = or_le b a (eqb a b) (λ e. sym (eqb-true a b e)) t

    go : {k l : Float} (x : Float) → Plain k → Plain l → num k * den l ≤ num l * den k → le (neg k) x ≡ true → le x l ≡ true → Within x l
    go nan (plain k f) (plain n d) w g h = no g
    go (inf true) (plain k f) (plain n d) w g h = no g
    go (inf false) (plain k f) (plain n d) w g h = no h
    go (fin true m e) (plain k f) (plain n d) w g h = record { left = finite true m e; right = plain n d; le = through (m * up e) (k * up f) (n * up d) (down e) (down f) (down d) (down_pos f) (level (k * up f * down e) (m * up e * down f) g) w }
    go (fin false m e) (plain k f) (plain n d) w g h = record { left = finite false m e; right = plain n d; le = test_le (m * up e * down d) (n * up d * down e) h }
