-- A fraction that is rounded to a normal value, by its bit pattern: with the top 64 bits M of the fraction and whether anything is left below them, the pattern is the exponent's
-- field and the 53 kept digits, added. Assumes nothing.
use Rattle.std.proofs.Common.{◌≡◌, ℕ, suc, ◌+◌, ◌-◌, ◌*◌, ◌/◌, ◌%◌, ◌^◌, ◌<◌, ◌≤◌, Bool, true, false, cond, not, T, ltb, ◌⊎◌, sym, refl, ap, ◌∙◌, subst, inl, inr, true≢false, le_trans, le_of_eq, le_refl, lt_of_lt_of_le, le_of_suc-le-suc, le-add_right, lt_of_le_of_lt, mul-le-mul_right, mul_assoc, suc-mul, mul_comm, div-lt_iff_lt-mul, add-mul, mul-le-mul, le_antisymm, suc-add, eq-or-lt_of_le, mul-pos, pow-suc, lt_of_not-le, div-add-mod', le-div_iff_mul-le, zero-add, not-le_of_lt, mul-div_cancel, arith, lit≤, ltb→lt, nltb→le, pow_pos, pow_mono, pow-add, shl_lt}
use Prim.Native.Nat.{compare, Ordering}
use native.Mathlib.Nat.{div-div-eq-div-mul}
use lib.Pow.{pow-lt}
use lib.Ieee.{Float, nan, inf, fin, Format, binary64, prec, low, hid, up, down, size, nearest, round, to_bits, of_bits}
use lib.Ieee.Digits.{size-le, size-lt}
use lib.Ieee.Fits.{down_pos, round-fits}
use lib.Ieee.Exact.{HasValue}
use lib.Ieee.Nearest.{closest}
use lib.Ieee.Order.{drop, kept}
use lib.Ieee.Scale.{grid, overflow, round_val}
use lib.Ieee.Bits.{of_bits-to_bits}
use Rattle.real.proofs.Near.{Cmp, cmp}

-- ---- how many digits
size_exact : (a n : ℕ) → 2 ^ a ≤ n → n < 2 ^ suc a → size n ≡ suc a
size_exact a n lo hi = le_antisymm (size-le n (suc a) hi) (lt_of_not-le (λ (g : size n ≤ a). not-le_of_lt (lt_of_lt_of_le (size-lt n) (pow_mono g)) lo))

-- ---- the pattern of a value that is q * 2 ^ k units, for a q of prec digits, or the least of one more
to_bits-at : (f : Format) (v : Float) (a : ℕ) → HasValue v false a (2 ^ low f) → to_bits f v ≡ (size a - prec f) * hid f + a / 2 ^ (size a - prec f)
unfolding to_bits
to_bits-at f nan a h = absurd h
to_bits-at f (inf s) a h = absurd h
to_bits-at f (fin true m e) a h = absurd (true≢false h.0)
to_bits-at f (fin false m e) a h =
    let n = m * up e * 2 ^ low f / down e in
    let i : n ≡ a = ap (λ (x : ℕ). x / down e) h.1 ∙ mul-div_cancel a (down_pos e) in
    ap (λ (x : ℕ). 0 + (size x - prec f) * hid f + x / 2 ^ (size x - prec f)) i
    ∙ ap (λ (x : ℕ). x + a / 2 ^ (size a - prec f)) (zero-add ((size a - prec f) * hid f))

less : (p k z : ℕ) → z ≡ suc (p + k) → z - suc p ≡ k
less p k z h = omega arith

less' : (p k z : ℕ) → z ≡ suc (p + suc k) → z - suc p ≡ suc k
less' p k z h = omega arith

-- p is one less than the digits, so that 2 ^ p is `hid`
carry : (k h q s : ℕ) → q ≡ h * 2 → s ≡ k * h + h → s + h ≡ k * h + q
carry k h q s e d = omega arith

pattern : (p q k : ℕ) → 2 ^ p ≤ q → q ≤ 2 ^ p * 2 → (size (q * 2 ^ k) - suc p) * 2 ^ p + q * 2 ^ k / 2 ^ (size (q * 2 ^ k) - suc p) ≡ k * 2 ^ p + q
pattern p q k lo hi = go (eq-or-lt_of_le hi)
  where
    go : (q ≡ 2 ^ p * 2) ⊎ (q < 2 ^ p * 2) → (size (q * 2 ^ k) - suc p) * 2 ^ p + q * 2 ^ k / 2 ^ (size (q * 2 ^ k) - suc p) ≡ k * 2 ^ p + q
    go (inl e) =
        let i : q * 2 ^ k ≡ 2 ^ p * 2 ^ suc k = ap (λ (x : ℕ). x * 2 ^ k) e ∙ mul_assoc (2 ^ p) 2 (2 ^ k) ∙ ap (λ (x : ℕ). 2 ^ p * x) (mul_comm 2 (2 ^ k) ∙ sym (pow-suc 2 k)) in
        let j : q * 2 ^ k ≡ 2 ^ (p + suc k) = i ∙ sym (pow-add 2 p (suc k)) in
        let z : size (q * 2 ^ k) - suc p ≡ suc k = less' p k (size (q * 2 ^ k)) (size_exact (p + suc k) (q * 2 ^ k) (le_of_eq (sym j)) (lt_of_le_of_lt (le_of_eq j) (pow-lt (le_refl (suc (p + suc k)))))) in
        ap (λ (x : ℕ). x * 2 ^ p + q * 2 ^ k / 2 ^ x) z
        ∙ ap (λ (x : ℕ). suc k * 2 ^ p + x / 2 ^ suc k) i
        ∙ ap (λ (x : ℕ). suc k * 2 ^ p + x) (mul-div_cancel (2 ^ p) (pow_pos (suc k)))
        ∙ carry k (2 ^ p) q (suc k * 2 ^ p) e (suc-mul k (2 ^ p))
    go (inr l) =
        let a : 2 ^ (p + k) ≤ q * 2 ^ k = le_trans (le_of_eq (pow-add 2 p k)) (mul-le-mul_right (2 ^ k) lo) in
        let b : q * 2 ^ k < 2 ^ suc (p + k) =
        subst (λ (x : ℕ). q * 2 ^ k < 2 ^ x) (suc-add p k) (shl_lt (suc p) k (lt_of_lt_of_le l (le_of_eq (sym (pow-suc 2 p))))) in
        let z : size (q * 2 ^ k) - suc p ≡ k = less p k (size (q * 2 ^ k)) (size_exact (p + k) (q * 2 ^ k) a b) in
        ap (λ (x : ℕ). x * 2 ^ p + q * 2 ^ k / 2 ^ x) z
        ∙ ap (λ (x : ℕ). k * 2 ^ p + x) (mul-div_cancel q (pow_pos k))

-- ---- a fraction that rounds to a normal value
pub round_bits : (a c q k : ℕ) → kept 53 (a * 2 ^ 1074) c ≡ q → drop 53 (a * 2 ^ 1074) c ≡ k → 2 ^ 52 ≤ q → q ≤ 2 ^ 52 * 2 → q * 2 ^ k < overflow binary64
    → of_bits binary64 (k * 2 ^ 52 + q) ≡ round binary64 false a c
round_bits a c q k e d lo hi o =
    let x = round binary64 false a c in
    let g : grid binary64 a c ≡ q * 2 ^ k = ap (λ (y : ℕ). y * 2 ^ drop 53 (a * 2 ^ 1074) c) e ∙ ap (λ (y : ℕ). q * 2 ^ y) d in
    let v : HasValue x false (q * 2 ^ k) (2 ^ 1074) = subst (λ (y : ℕ). HasValue x false y (2 ^ 1074)) g (round_val binary64 a c (subst (λ (y : ℕ). y < overflow binary64) (sym g) o)) in
    let b : to_bits binary64 x ≡ k * 2 ^ 52 + q = to_bits-at binary64 x (q * 2 ^ k) v ∙ pattern 52 q k lo hi in
    ap (of_bits binary64) (sym b) ∙ of_bits-to_bits binary64 x (round-fits binary64 false a c)

-- ---- the three ways to round
pub near_lt : (q x y : ℕ) → x < y → nearest q (compare x y) ≡ q
near_lt q x y h = go (compare x y) (cmp x y)
  where
    go : (o : Ordering) → Cmp o x y → nearest q o ≡ q
    go Ordering.lt c = refl
    go Ordering.eq c = absurd (omega arith)
    go Ordering.gt c = absurd (omega arith)

pub near_eq : (q x y : ℕ) → x ≡ y → nearest q (compare x y) ≡ q + q % 2
near_eq q x y h = go (compare x y) (cmp x y)
  where
    go : (o : Ordering) → Cmp o x y → nearest q o ≡ q + q % 2
    go Ordering.lt c = absurd (omega arith)
    go Ordering.eq c = refl
    go Ordering.gt c = absurd (omega arith)

pub near_gt : (q x y : ℕ) → y < x → nearest q (compare x y) ≡ suc q
near_gt q x y h = go (compare x y) (cmp x y)
  where
    go : (o : Ordering) → Cmp o x y → nearest q o ≡ suc q
    go Ordering.lt c = absurd (omega arith)
    go Ordering.eq c = absurd (omega arith)
    go Ordering.gt c = refl

-- ---- 64 bits to 53: M, with something left below its last bit where `st`
unfoldable pub up11 : ℕ → Bool → ℕ
up11 m st = cond (ltb 1024 (m % 2048)) 1 (cond (ltb (m % 2048) 1024) 0 (cond st 1 (m / 2048 % 2)))

unfoldable pub near11 : ℕ → Bool → ℕ
unfolding up11
near11 m st = m / 2048 + up11 m st

-- n is M * C + R
rest_is : (n C M R Q m : ℕ) → M / 2048 ≡ Q → M % 2048 ≡ m → n ≡ M * C + R → n / (C * 2048) ≡ Q → n % (C * 2048) ≡ m * C + R
rest_is n C M R Q m eq em en ed =
    let a : n / (C * 2048) * (C * 2048) + n % (C * 2048) ≡ n = div-add-mod' n (C * 2048) in
    let b : n / (C * 2048) * (C * 2048) ≡ Q * 2048 * C = ap (λ (x : ℕ). x * (C * 2048)) ed ∙ ap (λ (x : ℕ). Q * x) (mul_comm C 2048) ∙ sym (mul_assoc Q 2048 C) in
    let d : M * C ≡ Q * 2048 * C + m * C = ap (λ (x : ℕ). x * C) (split M Q m eq em) ∙ add-mul (Q * 2048) m C in
    omega arith
  where
    split : (M Q m : ℕ) → M / 2048 ≡ Q → M % 2048 ≡ m → M ≡ Q * 2048 + m
    split M Q m a b = omega arith

below_half : (m C R mC : ℕ) → mC ≤ 1023 * C → R < C → (mC + R) * 2 < C * 2048
below_half m C R mC a b = omega arith

above_half : (C R mC : ℕ) → 0 < C → 1025 * C ≤ mC → C * 2048 < (mC + R) * 2
above_half C R mC p a = omega arith

at_half : (C R mC : ℕ) → 1024 * C ≡ mC → R ≡ 0 → (mC + R) * 2 ≡ C * 2048
at_half C R mC a b = omega arith

past_half : (C R mC : ℕ) → 1024 * C ≡ mC → 0 < R → C * 2048 < (mC + R) * 2
past_half C R mC a b = omega arith

add_one_is : (q : ℕ) → suc q ≡ q + 1
add_one_is q = omega arith

add_none : (q : ℕ) → q ≡ q + 0
add_none q = omega arith

kept_11 : (n C M R : ℕ) (st : Bool) → 0 < C → R < C → n ≡ M * C + R → n / (C * 2048) ≡ M / 2048 → (T st → 0 < R) → (T (not st) → R ≡ 0) → closest n (C * 2048) ≡ near11 M st
unfolding near11
kept_11 n C M R st P l en ed y nn =
    let Q = M / 2048 in
    let m = M % 2048 in
    let r : n % (C * 2048) ≡ m * C + R = rest_is n C M R Q m refl refl en ed in
    ap (λ (x : ℕ). nearest x (compare (n % (C * 2048) * 2) (C * 2048))) ed
    ∙ ap (λ (x : ℕ). nearest Q (compare (x * 2) (C * 2048))) r
    ∙ go (ltb 1024 m) (ltb→lt 1024 m) (nltb→le 1024 m) (ltb m 1024) (ltb→lt m 1024) (nltb→le m 1024) st y nn
  where
    go : (a : Bool) → (T a → 1024 < M % 2048) → (T (not a) → M % 2048 ≤ 1024) → (b : Bool) → (T b → M % 2048 < 1024) → (T (not b) → 1024 ≤ M % 2048) → (s : Bool) → (T s → 0 < R) → (T (not s) → R ≡ 0)
        → nearest (M / 2048) (compare ((M % 2048 * C + R) * 2) (C * 2048)) ≡ M / 2048 + cond a 1 (cond b 0 (cond s 1 (M / 2048 % 2)))
    go true f g b h k s i j = near_gt (M / 2048) ((M % 2048 * C + R) * 2) (C * 2048) (above_half C R (M % 2048 * C) P (mul-le-mul_right C (f tt))) ∙ add_one_is (M / 2048)
    go false f g true h k s i j = near_lt (M / 2048) ((M % 2048 * C + R) * 2) (C * 2048) (below_half (M % 2048) C R (M % 2048 * C) (mul-le-mul_right C (pred_le (M % 2048) (h tt))) l) ∙ add_none (M / 2048)
      where
        pred_le : (x : ℕ) → x < 1024 → x ≤ 1023
        pred_le x h = omega arith
    go false f g false h k true i j =
        near_gt (M / 2048) ((M % 2048 * C + R) * 2) (C * 2048) (past_half C R (M % 2048 * C) (ap (λ (x : ℕ). x * C) (le_antisymm (k tt) (g tt))) (i tt)) ∙ add_one_is (M / 2048)
    go false f g false h k false i j =
        near_eq (M / 2048) ((M % 2048 * C + R) * 2) (C * 2048) (at_half C R (M % 2048 * C) (ap (λ (x : ℕ). x * C) (le_antisymm (k tt) (g tt))) (j tt))

-- ---- how many digits are dropped
drop_11 : (n c z M : ℕ) → n / (c * 2 ^ z) ≡ M → 2 ^ 63 ≤ M → M < 2 ^ 64 → drop 53 n c ≡ z + 11
drop_11 n c z M e lo hi =
    let w = n / c in
    let d : w / 2 ^ z ≡ M = div-div-eq-div-mul n c (2 ^ z) ∙ e in
    let a : 2 ^ (63 + z) ≤ w = le_trans (le_of_eq (pow-add 2 63 z)) ((le-div_iff_mul-le (pow_pos z)).0 (le_trans lo (le_of_eq (sym d)))) in
    let b : w < 2 ^ suc (63 + z) = lt_of_lt_of_le ((div-lt_iff_lt-mul (pow_pos z)).0 (lt_of_le_of_lt (le_of_eq d) hi)) (le_of_eq (sym (pow-add 2 64 z) ∙ ap (λ (x : ℕ). 2 ^ x) (suc-add 63 z))) in
    count (size w) z (size_exact (63 + z) w a b)
  where
    count : (s z : ℕ) → s ≡ suc (63 + z) → s - 53 ≡ z + 11
    count s z h = omega arith

-- ---- all together
pub up11_le : (m : ℕ) (st : Bool) → up11 m st ≤ 1
unfolding up11
up11_le m st = pick (ltb 1024 (m % 2048)) 1 (cond (ltb (m % 2048) 1024) 0 (cond st 1 (m / 2048 % 2))) (le_refl 1) (pick (ltb (m % 2048) 1024) 0 (cond st 1 (m / 2048 % 2)) (omega arith) (pick st 1 (m / 2048 % 2) (le_refl 1) (bit (m / 2048))))
  where
    pick : (b : Bool) (x y : ℕ) → x ≤ 1 → y ≤ 1 → cond b x y ≤ 1
    pick true x y h k = h
    pick false x y h k = k

    bit : (q : ℕ) → q % 2 ≤ 1
    bit q = omega arith

pub near11_lo : (m : ℕ) (st : Bool) → 2 ^ 63 ≤ m → 2 ^ 52 ≤ near11 m st
unfolding near11
near11_lo m st h = omega arith

pub near11_hi : (m : ℕ) (st : Bool) → m < 2 ^ 64 → near11 m st ≤ 2 ^ 52 * 2
unfolding near11
near11_hi m st h = let u = up11_le m st in omega arith

pub quotient : (n C M R : ℕ) → 0 < C → R < C → n ≡ M * C + R → n / C ≡ M
quotient n C M R P l e =
    le_antisymm
    (le_of_suc-le-suc ((div-lt_iff_lt-mul P).1 (lt_of_le_of_lt (le_of_eq e) (lt_of_lt_of_le (room (M * C) R C l) (le_of_eq (sym (suc-mul M C)))))))
    ((le-div_iff_mul-le P).1 (le_trans (le-add_right (M * C) R) (le_of_eq (sym e))))
  where
    room : (x R C : ℕ) → R < C → x + R < x + C
    room x R C h = omega arith

pub pack_round : (a c z M R : ℕ) (st : Bool) → 0 < c → R < c * 2 ^ z → a * 2 ^ 1074 ≡ M * (c * 2 ^ z) + R → 2 ^ 63 ≤ M → M < 2 ^ 64 → z + 11 ≤ 2000
    → (T st → 0 < R) → (T (not st) → R ≡ 0) → of_bits binary64 ((z + 11) * 2 ^ 52 + near11 M st) ≡ round binary64 false a c
pack_round a c z M R st P l e lo hi zz y nn =
    let n = a * 2 ^ 1074 in
    let C = c * 2 ^ z in
    let CP : 0 < C = mul-pos P (pow_pos z) in
    let q : n / C ≡ M = quotient n C M R CP l e in
    let d : drop 53 n c ≡ z + 11 = drop_11 n c z M q lo hi in
    let u : c * 2 ^ (z + 11) ≡ C * 2048 = ap (λ (x : ℕ). c * x) (pow-add 2 z 11) ∙ sym (mul_assoc c (2 ^ z) 2048) in
    let k : kept 53 n c ≡ near11 M st =
    ap (λ (x : ℕ). closest n (c * 2 ^ x)) d ∙ ap (λ (x : ℕ). closest n x) u
    ∙ kept_11 n C M R st CP l e (sym (div-div-eq-div-mul n C 2048) ∙ ap (λ (x : ℕ). x / 2048) q) y nn in
    round_bits a c (near11 M st) (z + 11) k d (near11_lo M st lo) (near11_hi M st hi)
    (lt_of_le_of_lt (mul-le-mul (near11_hi M st hi) (pow_mono zz)) (lt_of_le_of_lt (le_of_eq (sym (pow-add 2 53 2000))) (pow-lt {i = 53 + 2000} {j = 1074 + 1024} (lit≤ tt))))
