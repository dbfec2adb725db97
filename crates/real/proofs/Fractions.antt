-- The fraction of a second, digit by digit in f64: how far it is from the exact one, for any digits; and that whole milliseconds come out
-- exact. Assumes nothing.
use Rattle.std.proofs.Common.{if◌then◌else◌, ◌≡◌, ℕ, suc, ◌+◌, ◌-◌, ◌*◌, ◌/◌, ◌^◌, ◌<◌, ◌≤◌, Bool, true, false, not, T, ltb, List, [], ◌∷◌, length, sym, refl, ap, ◌∙◌, subst, inl, inr, true≢false, le_trans, le_of_eq, le_refl, lt_of_lt_of_le, le_of_suc-le-suc, le-add_right, lt_of_le_of_lt, add-zero, le_of_lt, add-suc, mul-le-mul_right, mul_assoc, mul_comm, add-mul, mul-le-mul, lt_of_mul-lt-mul_right, suc-add, eq-or-lt_of_le, mul-le-mul_left, mul-lt-mul_of_pos_right, mul-pos, pow-suc, zero-add, mul-one, mul-add, mul_right_comm, le_of_mul-le-mul_right, mul-div_cancel, mul_left_comm, arith, lit≤, ltb→lt, nltb→le, pow_pos, pow-add, ltb-true}
use native.Mathlib.Nat.{one-le-pow, pow-le-pow_right}
use lib.Ieee.{Float, nan, inf, fin, Format, binary64, prec, low, up, down, size, round, lt}
use lib.Ieee.Digits.{size_reaches}
use lib.Ieee.Exact.{HasValue}
use lib.Ieee.Nearest.{closest}
use lib.Ieee.Scale.{grid, overflow, round_val, round_same}
use Rattle.rules.specs.Floats.{number, ratio, ◌⊕◌, ◌⊗◌, ◌⊘◌}
use Rattle.rules.specs.Decimal.{value}
use Rattle.rules.specs.Reading.{digit_sum, scale, fraction_of}
use Rattle.real.proofs.Near.{Half, scale_half, closest_half, add_at, mul_at, div_at, number_val, Rounded, rounded}
use Rattle.real.proofs.Millis.{to_units, Nearly}
use Rattle.real.proofs.Run.{Digits}
use Rattle.real.proofs.Within.{Plain, is_plain_lem, plain_val, Within, within_self}
use Rattle.real.proofs.Tests.{not_above}

-- ---- in units, `round` moves a number by at most its 2 ^ -53rd part
half_of : (L a g x : ℕ) → 0 < L → a * L * 2 ≤ g * L * 2 + L * x → a * 2 ≤ g * 2 + x
half_of L a g x p h =
    le_of_mul-le-mul_right
    (le_trans (le_of_eq (mul_right_comm a 2 L)) (le_trans h (le_of_eq (ap (λ (z : ℕ). z + L * x) (mul_right_comm g L 2) ∙ ap (λ (z : ℕ). g * 2 * L + z) (mul_comm L x) ∙ sym (add-mul (g * 2) x L))))) p

unit_half : (f : Format) (a : ℕ) → Half a (grid f a (2 ^ low f)) (2 ^ (size a - prec f))
unit_half f a =
    let L = 2 ^ low f in
    let P : 0 < L = pow_pos (low f) in
    let s : size (a * L / L) - prec f ≡ size a - prec f = ap (λ (z : ℕ). size z - prec f) (mul-div_cancel a P) in
    let k = size (a * L / L) - prec f in
    let h = closest_half (a * L) (L * 2 ^ k) (mul-pos P (pow_pos k)) in
    let e : closest (a * L) (L * 2 ^ k) * (L * 2 ^ k) ≡ grid f a L * L = simp (mul_assoc, mul_comm, mul_left_comm) in
    let h' : Half (a * L) (grid f a L * L) (L * 2 ^ k) = subst (λ (v : ℕ). Half (a * L) v (L * 2 ^ k)) e h in
    subst (λ (x : ℕ). Half a (grid f a L) (2 ^ x)) s (half_of L a (grid f a L) (2 ^ k) P h'.0, half_of L (grid f a L) a (2 ^ k) P h'.1)

same : (a g : ℕ) → Half a g 1 → g ≡ a
same a g h = let x = h.0 in let y = h.1 in omega arith

few : (z p : ℕ) → z < p → z - p ≡ 0
few z p h = omega arith

reach : (z p : ℕ) → p ≤ z → 0 < p → p - 1 + (z - p) < z
reach z p h k = omega arith

last : (z p : ℕ) → p ≤ z → 0 < p → z - p + p ≡ suc (p - 1 + (z - p))
last z p h k = omega arith

unit_rel : (a : ℕ) → (grid binary64 a (2 ^ 1074) * 2 ^ 53 ≤ a * 2 ^ 53 + a) × (a * 2 ^ 53 ≤ grid binary64 a (2 ^ 1074) * 2 ^ 53 + a)
unit_rel a = go (ltb (size a) 53) (ltb→lt (size a) 53) (nltb→le (size a) 53)
  where
    exact : (a g : ℕ) → g ≡ a → (g * 2 ^ 53 ≤ a * 2 ^ 53 + a) × (a * 2 ^ 53 ≤ g * 2 ^ 53 + a)
    exact a g e = (omega arith, omega arith)

    go : (b : Bool) → (T b → size a < 53) → (T (not b) → 53 ≤ size a) → (grid binary64 a (2 ^ 1074) * 2 ^ 53 ≤ a * 2 ^ 53 + a) × (a * 2 ^ 53 ≤ grid binary64 a (2 ^ 1074) * 2 ^ 53 + a)
    go true y n = exact a (grid binary64 a (2 ^ 1074)) (same a (grid binary64 a (2 ^ 1074)) (subst (λ (x : ℕ). Half a (grid binary64 a (2 ^ 1074)) (2 ^ x)) (few (size a) 53 (y tt)) (unit_half binary64 a)))
    go false y n =
        let k = size a - 53 in
        let r : 2 ^ (52 + k) ≤ a = size_reaches a (52 + k) (reach (size a) 53 (n tt) (lit≤ tt)) in
        let u : 2 ^ k * 2 ^ 53 ≤ a * 2 =
        le_trans (le_of_eq (sym (pow-add 2 k 53) ∙ ap (λ (x : ℕ). 2 ^ x) (last (size a) 53 (n tt) (lit≤ tt)) ∙ pow-suc 2 (52 + k))) (mul-le-mul_right 2 r) in
        scale_half a (grid binary64 a (2 ^ 1074)) (2 ^ k) (2 ^ 53) a (unit_half binary64 a) u

-- ---- g is W within e parts of 2 ^ 53
abbrev Close : ℕ → ℕ → ℕ → Type 0
Close e W g = (g * 2 ^ 53 ≤ W * 2 ^ 53 + e * W) × (W * 2 ^ 53 ≤ g * 2 ^ 53 + e * W)

close_le : (e W g : ℕ) → e ≤ 2 ^ 53 → Close e W g → g ≤ W * 2
close_le e W g h c = let b : e * W ≤ 2 ^ 53 * W = mul-le-mul_right W h in omega (arith, c.0)

close_round : (e W x G : ℕ) → e ≤ 2 ^ 53 → Close e W x → (G * 2 ^ 53 ≤ x * 2 ^ 53 + x) × (x * 2 ^ 53 ≤ G * 2 ^ 53 + x) → Close (e + 2) W G
close_round e W x G h c r =
    let l = close_le e W x h c in
    let s : (e + 2) * W ≡ e * W + 2 * W = add-mul e 2 W in (
      le_trans (chain (G * 2 ^ 53) (x * 2 ^ 53) (W * 2 ^ 53) x W (e * W) r.0 c.0 l) (le_of_eq (ap (λ (z : ℕ). W * 2 ^ 53 + z) (sym s))),
      le_trans (chain' (W * 2 ^ 53) (x * 2 ^ 53) (G * 2 ^ 53) x W (e * W) c.1 r.1 l) (le_of_eq (ap (λ (z : ℕ). G * 2 ^ 53 + z) (sym s))),
    )
  where
    chain : (p q t x W y : ℕ) → p ≤ q + x → q ≤ t + y → x ≤ W * 2 → p ≤ t + (y + 2 * W)
    chain p q t x W y a b c = omega arith

    chain' : (p q t x W y : ℕ) → p ≤ q + y → q ≤ t + x → x ≤ W * 2 → p ≤ t + (y + 2 * W)
    chain' p q t x W y a b c = omega arith

close_ten : (e W g : ℕ) → Close e W g → Close e (W * 10) (g * 10)
close_ten e W g c =
    let s : e * (W * 10) ≡ e * W * 10 = sym (mul_assoc e W 10) in
    (omega (arith, c.0), omega (arith, c.1))

close_add : (e W g D : ℕ) → Close e W g → Close e (W + D) (g + D)
close_add e W g D c =
    let s : e * (W + D) ≡ e * W + e * D = mul-add e W D in
    (omega (arith, c.0), omega (arith, c.1))

grid_le : (a g : ℕ) → g * 2 ^ 53 ≤ a * 2 ^ 53 + a → g ≤ a * 2
grid_le a g h = omega arith

-- ---- a float that is near the whole number v
record At (x : Float) (v e : ℕ) : Type 0 where
  units : ℕ
  is : HasValue x false units (2 ^ 1074)
  close : Close e (v * 2 ^ 1074) units

-- a sum or a product in units, rounded: it does not overflow
round_at : (a v e : ℕ) → e ≤ 2 ^ 53 → v * 4 < 2 ^ 1024 → Close e (v * 2 ^ 1074) a → At (round binary64 false a (2 ^ 1074)) v (e + 2)
round_at a v e h b c =
    let L = 2 ^ 1074 in
    let r = unit_rel a in
    let g = grid binary64 a L in
    let l : g ≤ v * L * 4 = le_four a g (v * L) (grid_le a g r.0) (close_le e (v * L) a h c) in
    let o : g < overflow binary64 = lt_of_le_of_lt l (lt_of_le_of_lt (le_of_eq (mul_right_comm v L 4)) (lt_of_lt_of_le (mul-lt-mul_of_pos_right b (pow_pos 1074)) (le_refl (2 ^ 2098)))) in
    record { units = g; is = round_val binary64 a L o; close = close_round e (v * L) a g h c r }
  where
    le_four : (a g W : ℕ) → g ≤ a * 2 → a ≤ W * 2 → g ≤ W * 4
    le_four a g W x y = omega arith

ten_units : (v L : ℕ) → v * L * 10 ≡ v * 10 * L
ten_units v L = mul_right_comm v L 10

mul_ten : (x : Float) (v e : ℕ) → e ≤ 2 ^ 53 → v * 10 * 4 < 2 ^ 1024 → At x v e → At (x ⊗ number 10) (v * 10) (e + 2)
mul_ten x v e h b a =
    let L = 2 ^ 1074 in
    let q : x ⊗ number 10 ≡ round binary64 false (a.units * 10) L = mul_at binary64 x (number 10) a.units L 10 1 (pow_pos 1074) (pow_pos 0) a.is (number_val 10 (lit≤ tt)) ∙ ap (λ (z : ℕ). round binary64 false (a.units * 10) z) (mul-one L) in
    subst (λ (z : Float). At z (v * 10) (e + 2)) (sym q)
    (round_at (a.units * 10) (v * 10) e h b (subst (λ (z : ℕ). Close e z (a.units * 10)) (ten_units v L) (close_ten e (v * L) a.units a.close)))

step_at : (x : Float) (v e d : ℕ) → e + 2 ≤ 2 ^ 53 → d ≤ 9 → (v * 10 + d) * 4 < 2 ^ 1024 → At x v e → At (x ⊗ number 10 ⊕ number d) (v * 10 + d) (e + 2 + 2)
step_at x v e d h D b a =
    let L = 2 ^ 1074 in
    let y = x ⊗ number 10 in
    let m : At y (v * 10) (e + 2) = mul_ten x v e (weaker e h) (lt_of_le_of_lt (mul-le-mul_right 4 (le-add_right (v * 10) d)) b) a in
    let q : y ⊕ number d ≡ round binary64 false (m.units + d * L) L = add_at binary64 y (number d) m.units (d * L) L (pow_pos 1074) m.is (to_units (number d) d (number_val d (le_trans D (lit≤ tt)))) in
    subst (λ (z : Float). At z (v * 10 + d) (e + 2 + 2)) (sym q)
    (round_at (m.units + d * L) (v * 10 + d) (e + 2) h b
    (subst (λ (z : ℕ). Close (e + 2) z (m.units + d * L)) (sym (add-mul (v * 10) d L)) (close_add (e + 2) (v * 10 * L) m.units (d * L) m.close)))
  where
    weaker : (e : ℕ) → e + 2 ≤ 2 ^ 53 → e ≤ 2 ^ 53
    weaker e h = omega arith

-- ---- digit by digit, for up to 255 of them
more : (v d p : ℕ) → v < p → d ≤ 9 → v * 10 + d < p * 10
more v d p h k = omega arith

parts : (n m : ℕ) → n ≤ m → m ≤ 255 → 4 * n + 2 ≤ 2 ^ 53
parts n m h k = omega arith

four : (n : ℕ) → 4 * n + 2 + 2 ≡ 4 * suc n
four n = omega arith

two : (n : ℕ) → 2 * n + 2 ≡ 2 * suc n
two n = omega arith

parts' : (n m : ℕ) → n ≤ m → m ≤ 255 → 2 * n ≤ 2 ^ 53
parts' n m h k = omega arith

ten_le : (n m : ℕ) → n ≤ m → 10 ^ n ≤ 10 ^ m
ten_le n m h = pow-le-pow_right (lit≤ tt) h

at_most : (n l m : ℕ) → suc n + l ≡ m → m ≤ 255 → suc n ≤ 255
at_most n l m h k = omega arith

before : (n l m : ℕ) → n + l ≡ m → n ≤ m
before n l m h = omega arith

room_for : (w n l m : ℕ) → suc n + l ≡ m → m ≤ 255 → w ≤ 10 ^ suc n → w * 4 < 2 ^ 1024
room_for w n l m h k b = lt_of_le_of_lt (mul-le-mul_right 4 (le_trans b (ten_le (suc n) 255 (at_most n l m h k)))) (lit≤ tt)

fold_at : (ds : List ℕ) (x : Float) (v n m : ℕ) → Digits ds → At x v (4 * n) → v < 10 ^ n → n + length ds ≡ m → m ≤ 255 → At (digit_sum x ds) (value v ds) (4 * m) × (value v ds < 10 ^ m)
unfolding digit_sum value
fold_at [] x v n m D a b e h =
    let i : n ≡ m = sym (add-zero n) ∙ e in
    (subst (λ (z : ℕ). At x v (4 * z)) i a, subst (λ (z : ℕ). v < 10 ^ z) i b)
fold_at (d ∷ ds) x v n m D a b e h =
    let e' : suc n + length ds ≡ m = suc-add n (length ds) ∙ sym (add-suc n (length ds)) ∙ e in
    let b' : v * 10 + d < 10 ^ suc n = lt_of_lt_of_le (more v d (10 ^ n) b D.0) (le_of_eq (sym (pow-suc 10 n))) in
    fold_at ds (x ⊗ number 10 ⊕ number d) (v * 10 + d) (suc n) m D.1
    (subst (λ (z : ℕ). At (x ⊗ number 10 ⊕ number d) (v * 10 + d) z) (four n) (step_at x v (4 * n) d (parts n m (before n (length (d ∷ ds)) m e) h) D.0 (room_for (v * 10 + d) n (length ds) m e' h (le_of_lt b')) a))
    b' e' h

scale_at : (ds : List ℕ) (x : Float) (n m : ℕ) → At x (10 ^ n) (2 * n) → n + length ds ≡ m → m ≤ 255 → At (scale x ds) (10 ^ m) (2 * m)
unfolding scale
scale_at [] x n m a e h = subst (λ (z : ℕ). At x (10 ^ z) (2 * z)) (sym (add-zero n) ∙ e) a
scale_at (d ∷ ds) x n m a e h =
    let e' : suc n + length ds ≡ m = suc-add n (length ds) ∙ sym (add-suc n (length ds)) ∙ e in
    let s : 10 ^ n * 10 ≡ 10 ^ suc n = sym (pow-suc 10 n) in
    scale_at ds (x ⊗ number 10) (suc n) m
    (subst (λ (z : ℕ). At (x ⊗ number 10) z (2 * suc n)) s
    (subst (λ (z : ℕ). At (x ⊗ number 10) (10 ^ n * 10) z) (two n) (mul_ten x (10 ^ n) (2 * n) (parts' n m (before n (length (d ∷ ds)) m e) h) (room_for (10 ^ n * 10) n (length ds) m e' h (le_of_eq s)) a)))
    e' h

-- ---- the quotient
-- |gm * 1000 - k * gs| is at most 4000 gs / 2 ^ 23, where gm and gs are X and Y within a 2 ^ 23rd, and 1000 X is k Y
cross_up : (gm gs X Y k kY kgs : ℕ) → 1000 * X ≡ kY → gm * 2 ^ 23 ≤ X * 2 ^ 23 + X → kY * 2 ^ 23 ≤ kgs * 2 ^ 23 + kY → kY ≤ kgs * 2 → kgs ≤ 1000 * gs
    → gm * 1000 * 2 ^ 23 ≤ kgs * 2 ^ 23 + 4000 * gs
cross_up gm gs X Y k kY kgs e a b c d = omega arith

cross_down : (gm gs X Y k kY kgs : ℕ) → 1000 * X ≡ kY → X * 2 ^ 23 ≤ gm * 2 ^ 23 + X → kgs * 2 ^ 23 ≤ kY * 2 ^ 23 + kY → kY ≤ kgs * 2 → kgs ≤ 1000 * gs
    → kgs * 2 ^ 23 ≤ gm * 1000 * 2 ^ 23 + 4000 * gs
cross_down gm gs X Y k kY kgs e a b c d = omega arith

-- with L: q is g1 * gs
near_up : (q gmL gsL kgsL : ℕ) → q * 2 ^ 20 ≤ gmL * 2 ^ 20 + gsL → gmL * 1000 * 2 ^ 23 ≤ kgsL * 2 ^ 23 + 4000 * gsL → q * 1000 * 2 ^ 14 ≤ kgsL * 2 ^ 14 + 1000 * gsL
near_up q gmL gsL kgsL a b = omega arith

near_down : (q gmL gsL kgsL : ℕ) → gmL * 2 ^ 20 ≤ q * 2 ^ 20 + gsL → kgsL * 2 ^ 23 ≤ gmL * 1000 * 2 ^ 23 + 4000 * gsL → kgsL * 2 ^ 14 ≤ q * 1000 * 2 ^ 14 + 1000 * gsL
near_down q gmL gsL kgsL a b = omega arith

-- within e parts of 2 ^ 53, for an e up to 2 ^ 30, is within one part of 2 ^ 23
coarse : (e W g eW : ℕ) → eW ≤ 2 ^ 30 * W → g * 2 ^ 53 ≤ W * 2 ^ 53 + eW → g * 2 ^ 23 ≤ W * 2 ^ 23 + W
coarse e W g eW h a = omega arith

coarse' : (e W g eW : ℕ) → eW ≤ 2 ^ 30 * W → W * 2 ^ 53 ≤ g * 2 ^ 53 + eW → W * 2 ^ 23 ≤ g * 2 ^ 23 + W
coarse' e W g eW h a = omega arith

fine : (e w : ℕ) → e ≤ 2 ^ 30 → e * w ≤ 2 ^ 30 * w
fine e w h = mul-le-mul_right w h

positive : (g Y : ℕ) → 0 < Y → Y * 2 ^ 23 ≤ g * 2 ^ 23 + Y → 0 < g
positive g Y p h = omega arith

twice : (g Y : ℕ) → Y * 2 ^ 23 ≤ g * 2 ^ 23 + Y → Y ≤ g * 2
twice g Y h = omega arith

less : (gm gs X Y : ℕ) → 0 < gs → X ≤ Y → gm * 2 ^ 23 ≤ X * 2 ^ 23 + X → Y * 2 ^ 23 ≤ gs * 2 ^ 23 + Y → gm < gs * 2 ^ 34
less gm gs X Y p h a b = omega arith

scaled_up : (L x y z : ℕ) → x * 1000 * 2 ^ 23 ≤ y * 2 ^ 23 + 4000 * z → x * L * 1000 * 2 ^ 23 ≤ y * L * 2 ^ 23 + 4000 * (z * L)
scaled_up L x y z h = le_trans (le_of_eq (simp (mul_assoc, mul_comm, mul_left_comm))) (le_trans (mul-le-mul_right L h) (le_of_eq (simp (add-mul, mul_assoc, mul_comm, mul_left_comm))))

scaled_down : (L x y z : ℕ) → y * 2 ^ 23 ≤ x * 1000 * 2 ^ 23 + 4000 * z → y * L * 2 ^ 23 ≤ x * L * 1000 * 2 ^ 23 + 4000 * (z * L)
scaled_down L x y z h = le_trans (le_of_eq (simp (mul_assoc, mul_comm, mul_left_comm))) (le_trans (mul-le-mul_right L h) (le_of_eq (simp (add-mul, mul_assoc, mul_comm, mul_left_comm))))

-- the sum of the digits by their scale: neither overflows
divided : (x y : Float) (v s em es : ℕ) (a : At x v em) (b : At y s es) → em ≤ 2 ^ 30 → es ≤ 2 ^ 30 → 0 < s → v ≤ s → (0 < b.units) × Rounded binary64 a.units b.units 20 (x ⊘ y)
divided x y v s em es a b he hs sp vs =
    let L = 2 ^ 1074 in
    let P : 0 < L = pow_pos 1074 in
    let gm = a.units in
    let gs = b.units in
    let X = v * L in
    let Y = s * L in
    let mu : gm * 2 ^ 23 ≤ X * 2 ^ 23 + X = coarse em X gm (em * X) (fine em X he) a.close.0 in
    let sd : Y * 2 ^ 23 ≤ gs * 2 ^ 23 + Y = coarse' es Y gs (es * Y) (fine es Y hs) b.close.1 in
    let G : 0 < gs = positive gs Y (mul-pos sp P) sd in
    let q : x ⊘ y ≡ round binary64 false gm gs = div_at binary64 x y gm L gs L P P G a.is b.is ∙ round_same binary64 false (gm * L) (L * gs) gm gs (mul-pos P G) G (mul_assoc gm L gs) in
    (G, subst (λ (z : Float). Rounded binary64 gm gs 20 z) (sym q) (rounded binary64 gm gs 20 34 refl (lit≤ tt) G (less gm gs X Y G (mul-le-mul_right L vs) mu sd)))

quotient_near : (x y : Float) (v s k em es : ℕ) → At x v em → At y s es → em ≤ 2 ^ 30 → es ≤ 2 ^ 30 → 0 < s → v ≤ s → k ≤ 1000 → 1000 * v ≡ k * s → Nearly (x ⊘ y) k 1
quotient_near x y v s k em es a b he hs sp vs kk e =
    let L = 2 ^ 1074 in
    let gm = a.units in
    let gs = b.units in
    let X = v * L in
    let Y = s * L in
    let mu : gm * 2 ^ 23 ≤ X * 2 ^ 23 + X = coarse em X gm (em * X) (fine em X he) a.close.0 in
    let md : X * 2 ^ 23 ≤ gm * 2 ^ 23 + X = coarse' em X gm (em * X) (fine em X he) a.close.1 in
    let su : gs * 2 ^ 23 ≤ Y * 2 ^ 23 + Y = coarse es Y gs (es * Y) (fine es Y hs) b.close.0 in
    let sd : Y * 2 ^ 23 ≤ gs * 2 ^ 23 + Y = coarse' es Y gs (es * Y) (fine es Y hs) b.close.1 in
    let kX : 1000 * X ≡ k * Y = sym (mul_assoc 1000 v L) ∙ ap (λ (z : ℕ). z * L) e ∙ mul_assoc k s L in
    let k1 : k * Y ≤ k * gs * 2 = le_trans (mul-le-mul_left k (twice gs Y sd)) (le_of_eq (sym (mul_assoc k gs 2))) in
    let k2 : k * gs ≤ 1000 * gs = mul-le-mul_right gs kk in
    let cu = cross_up gm gs X Y k (k * Y) (k * gs) kX mu (times k Y gs sd) k1 k2 in
    let cd = cross_down gm gs X Y k (k * Y) (k * gs) kX md (times' k Y gs su) k1 k2 in
    let (G, r) = divided x y v s em es a b he hs sp vs in
    let nu = near_up (r.units * gs) (gm * L) (gs * L) (k * gs * L) r.above (scaled_up L gm (k * gs) gs cu) in
    let nd = near_down (r.units * gs) (gm * L) (gs * L) (k * gs * L) r.below (scaled_down L gm (k * gs) gs cd) in
    record { units = r.units; is = r.is; above = cancel_up L r.units gs k G nu; below = cancel_down L r.units gs k G nd }
  where
    times : (k Y gs : ℕ) → Y * 2 ^ 23 ≤ gs * 2 ^ 23 + Y → k * Y * 2 ^ 23 ≤ k * gs * 2 ^ 23 + k * Y
    times k Y gs h = le_trans (le_of_eq (simp (mul_assoc))) (le_trans (mul-le-mul_left k h) (le_of_eq (simp (mul-add, mul_assoc))))

    times' : (k Y gs : ℕ) → gs * 2 ^ 23 ≤ Y * 2 ^ 23 + Y → k * gs * 2 ^ 23 ≤ k * Y * 2 ^ 23 + k * Y
    times' k Y gs h = le_trans (le_of_eq (simp (mul_assoc))) (le_trans (mul-le-mul_left k h) (le_of_eq (simp (mul-add, mul_assoc))))

    cancel_up : (L g gs k : ℕ) → 0 < gs → g * gs * 1000 * 2 ^ 14 ≤ k * gs * L * 2 ^ 14 + 1000 * (gs * L) → g * 1000 * 2 ^ 14 ≤ k * L * 2 ^ 14 + 1000 * L
    cancel_up L g gs k p h = le_of_mul-le-mul_right (le_trans (le_of_eq (simp (mul_assoc, mul_comm, mul_left_comm))) (le_trans h (le_of_eq (simp (add-mul, mul_assoc, mul_comm, mul_left_comm))))) p

    cancel_down : (L g gs k : ℕ) → 0 < gs → k * gs * L * 2 ^ 14 ≤ g * gs * 1000 * 2 ^ 14 + 1000 * (gs * L) → k * L * 2 ^ 14 ≤ g * 1000 * 2 ^ 14 + 1000 * L
    cancel_down L g gs k p h = le_of_mul-le-mul_right (le_trans (le_of_eq (simp (mul_assoc, mul_comm, mul_left_comm))) (le_trans h (le_of_eq (simp (add-mul, mul_assoc, mul_comm, mul_left_comm))))) p

-- ---- "above 0.999 becomes 0.999"
abbrev most : Float
most = ratio 999 1000

pub most_near : Nearly most 999 1
unfolding round
most_near = record { units = 8998192055486251 * 2 ^ 1021; is = (refl, refl); above = lit≤ tt; below = lit≤ tt }

pub most_plain : Plain most
unfolding round
most_plain = is_plain_lem most tt

lt_units : (x y : Float) (a b c : ℕ) → 0 < c → HasValue x false a c → HasValue y false b c → lt x y ≡ true → a < b
unfolding lt
lt_units nan y a b c C p q t = absurd p
lt_units (inf s) y a b c C p q t = absurd p
lt_units (fin true m e) y a b c C p q t = absurd (true≢false p.0)
lt_units (fin false m e) nan a b c C p q t = absurd q
lt_units (fin false m e) (inf u) a b c C p q t = absurd q
lt_units (fin false m e) (fin true n d) a b c C p q t = absurd (true≢false q.0)
lt_units (fin false m e) (fin false n d) a b c C p q t =
    let l : m * up e * down d * c < n * up d * down e * c = mul-lt-mul_of_pos_right (ltb-true (m * up e * down d) (n * up d * down e) t) C in
    let x : m * up e * down d * c ≡ a * (down e * down d) = mul_right_comm (m * up e) (down d) c ∙ ap (λ (z : ℕ). z * down d) p.1 ∙ mul_assoc a (down e) (down d) in
    let y : n * up d * down e * c ≡ b * (down e * down d) = mul_right_comm (n * up d) (down e) c ∙ ap (λ (z : ℕ). z * down e) q.1 ∙ mul_assoc b (down d) (down e) ∙ ap (λ (z : ℕ). b * z) (mul_comm (down d) (down e)) in
    lt_of_mul-lt-mul_right (down e * down d) (subst (λ (z : ℕ). z < b * (down e * down d)) x (subst (λ (z : ℕ). m * up e * down d * c < z) y l))

-- what lies above 0.999 is near no k below 999
too_far : (L g g0 kL : ℕ) → 0 < L → g0 < g → 999 * L * 2 ^ 14 ≤ g0 * 1000 * 2 ^ 14 + 1 * 1000 * L → g * 1000 * 2 ^ 14 ≤ kL * 2 ^ 14 + 1 * 1000 * L → kL ≤ 998 * L → ⊥
too_far L g g0 kL p a b c d = omega arith

is_999 : (k : ℕ) → k ≤ 999 → (k ≤ 998 → ⊥) → k ≡ 999
is_999 k h n = elim (eq-or-lt_of_le h) [ inl e ↦ e | inr l ↦ absurd (n (le_of_suc-le-suc l)) ]

capped : Float → Float
capped q = if lt most q then most else q

cap_near : (q : Float) (k : ℕ) → k ≤ 999 → Nearly q k 1 → Nearly (capped q) k 1
unfolding capped
cap_near q k h r = go (lt most q) (λ t. lt_units most q most_near.units r.units (2 ^ 1074) (pow_pos 1074) most_near.is r.is t)
  where
    go : (b : Bool) → (b ≡ true → most_near.units < r.units) → Nearly (if b then most else q) k 1
    go true l =
        subst (λ (z : ℕ). Nearly most z 1)
        (sym (is_999 k h (λ (n : k ≤ 998). too_far (2 ^ 1074) r.units most_near.units (k * 2 ^ 1074) (pow_pos 1074) (l refl) most_near.below r.above (mul-le-mul_right (2 ^ 1074) n)))) most_near
    go false l = r

cap_within : (q : Float) → Plain q → Plain (capped q) × Within (capped q) most
unfolding capped
cap_within q p = go (lt most q) (not_above p most_plain)
  where
    go : (b : Bool) → (b ≡ false → Within q most) → Plain (if b then most else q) × Within (if b then most else q) most
    go true w = (most_plain, within_self most_plain)
    go false w = (p, w refl)

-- ---- the fraction of a second, of up to 255 digits: as many as a time value holds
none_at : At (number 0) 0 (4 * 0)
none_at = record { units = 0; is = to_units (number 0) 0 (number_val 0 (lit≤ tt)); close = (lit≤ tt, lit≤ tt) }

one_at : At (number 1) (10 ^ 0) (2 * 0)
one_at = record { units = 2 ^ 1074; is = to_units (number 1) 1 (number_val 1 (lit≤ tt)); close = (lit≤ tt, lit≤ tt) }

few_parts : (a m : ℕ) → a ≤ 4 → m ≤ 255 → a * m ≤ 2 ^ 30
few_parts a m h k = le_trans (mul-le-mul h k) (lit≤ tt)

module _ (ds : List ℕ) (D : Digits ds) (h : length ds ≤ 255) where
  abbrev n : ℕ
  n = length ds

  abbrev sum : Float
  sum = digit_sum (number 0) ds

  abbrev by : Float
  by = scale (number 1) ds

  sum_at_lem : At sum (value 0 ds) (4 * n) × (value 0 ds < 10 ^ n)
  sum_at_lem = fold_at ds (number 0) 0 0 n D none_at (lit≤ tt) (zero-add n) h

  pub value_lt : value 0 ds < 10 ^ n
  value_lt = sum_at_lem.1

  by_at : At by (10 ^ n) (2 * n)
  by_at = scale_at ds (number 1) 0 n one_at (zero-add n) h

  -- digits that write k whole milliseconds
  pub fraction_near : (k : ℕ) → k ≤ 999 → 1000 * value 0 ds ≡ k * 10 ^ n → Nearly (fraction_of ds) k 1
  unfolding fraction_of capped
  fraction_near k kk e =
      cap_near (sum ⊘ by) k kk
      (quotient_near sum by (value 0 ds) (10 ^ n) k (4 * n) (2 * n) sum_at_lem.0 by_at (few_parts 4 n (lit≤ tt) h) (few_parts 2 n (lit≤ tt) h) (one-le-pow n 10 (lit≤ tt)) (le_of_lt sum_at_lem.1) (le_trans kk (lit≤ tt)) e)

  -- any digits: finite, from 0 to 0.999
  pub fraction_within : Plain (fraction_of ds) × Within (fraction_of ds) (ratio 999 1000)
  unfolding fraction_of capped
  fraction_within =
      let q = (divided sum by (value 0 ds) (10 ^ n) (4 * n) (2 * n) sum_at_lem.0 by_at (few_parts 4 n (lit≤ tt) h) (few_parts 2 n (lit≤ tt) h) (one-le-pow n 10 (lit≤ tt)) (le_of_lt sum_at_lem.1)).1 in
      cap_within (sum ⊘ by) (plain_val (sum ⊘ by) q.units (2 ^ 1074) q.is)
