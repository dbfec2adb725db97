-- Powers of two and five as the steps towards the nearest f64 meet them. Assumes nothing.
use mathlib.Core.Path.{◌≡◌, refl, sym, ap, ◌∙◌, subst}
use mathlib.Core.Bool.{Bool, true, false, not}
use Prim.Native.Nat.{ℕ, zero, suc, ◌+◌, ◌-◌, ◌*◌, ◌/◌, ◌%◌, ◌^◌, ◌≤◌, ◌<◌, min, zero-le}
use native.Mathlib.Nat.{mul-le-mul_left, mod-eq_of_lt, le_trans, mul-le-mul_right, mul-lt-mul_of_pos_right, lt_of_mul-lt-mul_right, le_antisymm, le_of_suc-le-suc, sub-add_cancel, mul-mul-mul_comm, mul_comm, add_comm, lt_of_not-le, not-le_of_lt, lt_of_le_of_lt, lt_of_lt_of_le, pow-suc, pow-le-pow_right, mul_assoc, mul-one, one-mul, add-mul, suc-mul, mul_right_comm, div-add-mod', mod-lt, div-le_self, div-lt_iff_lt-mul, le-div_iff_mul-le, le_of_eq, le-add_right}
use native.Mathlib.Omega.{arith}
use borrow.Author.Tests.{eqb-true, eqb-false}
use lib.Dec.{T, eqb, ltb, ltb→lt, nltb→le, lit≤}
use lib.Pow.{pow_mono, pow-add, pow_pos, shl_lt}
use lib.Ieee.{binary64, nan_bits}
use lib.Ieee.Bits.{nan_bits_above}
use Rattle.decimal.specs.Steps.{Room, Divided, Narrowed}

-- a number of k bits is moved up from 1 by fewer than k places
pub few_of : (s n k : ℕ) → 2 ^ s ≤ n → n < 2 ^ k → s < k
few_of s n k a b = lt_of_not-le (λ (g : k ≤ s). not-le_of_lt b (le_trans (pow_mono g) a))

-- a number whose highest bit is bit j, moved up by the s places that make 64 with j + 1
pub room : (n j s : ℕ) → 2 ^ j ≤ n → n < 2 ^ suc j → s + suc j ≡ 64 → Room n s
room n j s lo hi e =
    let i : j + s ≡ 63 = omega arith in
    record {
      full = subst (λ (x : ℕ). 2 ^ x ≤ n * 2 ^ s) i (le_trans (le_of_eq (pow-add 2 j s)) (mul-le-mul_right (2 ^ s) lo));
      wide = subst (λ (x : ℕ). n * 2 ^ s < 2 ^ x) (add_comm (suc j) s ∙ e) (shl_lt {a = n} (suc j) s hi);
      few = omega arith;
      some = λ h. omega (arith, few_of j n 63 lo h);
    }

-- a pattern below that of the infinity is no NaN's
pub no_nan : (n : ℕ) → n < 2047 * 2 ^ 52 → T (not (nan_bits binary64 n))
no_nan n h = subst (λ (b : Bool). T (not b)) (sym (nan_bits_above binary64 n)) (go (ltb (2047 * 2 ^ 52) (n % 2 ^ 63)) (ltb→lt (2047 * 2 ^ 52) (n % 2 ^ 63)))
  where
    go : (b : Bool) → (T b → 2047 * 2 ^ 52 < n % 2 ^ 63) → T (not b)
    go true k = let l = k tt in absurd (omega arith)
    go false k = tt

-- ---- powers of five and ten
pub five_le : (k : ℕ) → k ≤ 22 → 5 ^ k ≤ 5 ^ 22
five_le k h = pow-le-pow_right (lit≤ tt) h

pub ten_pow : (k : ℕ) → 10 ^ k ≡ 5 ^ k * 2 ^ k
ten_pow zero = refl
ten_pow (suc k) =
    pow-suc 10 k ∙ ap (λ (x : ℕ). x * 10) (ten_pow k) ∙ mul-mul-mul_comm (5 ^ k) (2 ^ k) 5 2 ∙ ap (λ (x : ℕ). x * (2 ^ k * 2)) (sym (pow-suc 5 k)) ∙ ap (λ (x : ℕ). 5 ^ suc k * x) (sym (pow-suc 2 k))

-- ---- a step of the long division, by j bits

abbrev pub Dividing : ℕ → ℕ → ℕ → ℕ → ℕ → Type 0
Dividing n by m r t = (n * 2 ^ t ≡ m * by + r) × (r < by) × (2 ^ t ≤ m) × (m < 2 ^ 64)

pub division_begins : (n by : ℕ) → 0 < by → by ≤ n → n < 2 ^ 64 → Dividing n by (n / by) (n % by) 0
division_begins n by p h w = (mul-one n ∙ sym (div-add-mod' n by), mod-lt n p, (le-div_iff_mul-le p).1 (le_trans (le_of_eq (one-mul by)) h), lt_of_le_of_lt (div-le_self n by) w)

-- m moved up by j places has room for j bits more
fills : (m q j : ℕ) → j ≤ 64 → m * 2 ^ j < 2 ^ 64 → q < 2 ^ j → m * 2 ^ j + q < 2 ^ 64
fills m q j l h k =
    let e : 2 ^ (64 - j) * 2 ^ j ≡ 2 ^ 64 = sym (pow-add 2 (64 - j) j) ∙ ap (λ (x : ℕ). 2 ^ x) (sub-add_cancel l) in
    let u : suc m * 2 ^ j ≤ 2 ^ 64 = le_trans (mul-le-mul_right (2 ^ j) (lt_of_mul-lt-mul_right (2 ^ j) (lt_of_lt_of_le h (le_of_eq (sym e))))) (le_of_eq e) in
    let s : suc m * 2 ^ j ≡ m * 2 ^ j + 2 ^ j = suc-mul m (2 ^ j) in
    under (m * 2 ^ j) q (2 ^ j) (suc m * 2 ^ j) (2 ^ 64) s u k
  where
    under : (a q f b z : ℕ) → b ≡ a + f → b ≤ z → q < f → a + q < z
    under a q f b z e u k = omega arith

pub division_goes : (n by m r t j : ℕ) → j ≤ 64 → m * 2 ^ j < 2 ^ 64 → Dividing n by m r t → Dividing n by (m * 2 ^ j + r * 2 ^ j / by) (r * 2 ^ j % by) (t + j)
division_goes n by m r t j l h i =
    let f = 2 ^ j in
    let p : 0 < by = omega (arith, i.1) in
    let q = r * f / by in
    let a : n * 2 ^ (t + j) ≡ m * by * f + r * f = ap (λ (x : ℕ). n * x) (pow-add 2 t j) ∙ sym (mul_assoc n (2 ^ t) f) ∙ ap (λ (x : ℕ). x * f) i.0 ∙ add-mul (m * by) r f in
    let b : (m * f + q) * by ≡ m * by * f + q * by = add-mul (m * f) q by ∙ ap (λ (x : ℕ). x + q * by) (mul_right_comm m f by) in
    let d : q * by + r * f % by ≡ r * f = div-add-mod' (r * f) by in
    let u : q < f = (div-lt_iff_lt-mul p).1 (lt_of_lt_of_le (mul-lt-mul_of_pos_right i.1 (pow_pos j)) (le_of_eq (mul_comm by f))) in (
      omega arith,
      mod-lt (r * f) p,
      le_trans (le_of_eq (pow-add 2 t j)) (le_trans (mul-le-mul_right f i.2) (le-add_right (m * f) q)),
      fills m q j l h u,
    )

-- the turn of the loop that takes j bits, 1 to 12, for which m has room
pub record Turn (n by m r t j : ℕ) : Type 0 where
  pub some : 0 < j
  pub few : j < 64
  pub short : t + j < 64
  pub goes : Dividing n by (m * 2 ^ j % 2 ^ 64 + r * 2 ^ j % 2 ^ 64 / by) (r * 2 ^ j % 2 ^ 64 % by) (t + j)

pub turn : (n by m r t z j : ℕ) → by ≤ 2 ^ 52 → m < 2 ^ 63 → Room m z → j ≡ min z 12 → Dividing n by m r t → Turn n by m r t j
turn n by m r t z j b l h e d =
    let p : 0 < j = omega (arith, h.some l) in
    let k : j ≤ 12 = omega arith in
    let u : m * 2 ^ j < 2 ^ 64 = lt_of_le_of_lt (mul-le-mul_left m (pow_mono (omega arith))) h.wide in
    let v : r * 2 ^ j < 2 ^ 64 = lt_of_lt_of_le (mul-lt-mul_of_pos_right (lt_of_lt_of_le d.1 b) (pow_pos j)) (mul-le-mul_left (2 ^ 52) (pow_mono k)) in
    let g = division_goes n by m r t j (omega arith) u d in
    record {
      some = p;
      few = omega arith;
      short = few_of (t + j) _ 64 g.2 g.3;
      goes = rw (mod-eq_of_lt u, mod-eq_of_lt v) g;
    }

pub division_ends : (n by m r t : ℕ) → Dividing n by m r t → 2 ^ 63 ≤ m → Divided n by m t (ltb 0 r)
division_ends n by m r t d h = record {
  rest = r;
  is = d.0;
  small = d.1;
  full = h;
  wide = d.3;
  few = le_of_suc-le-suc (few_of t m 64 d.2 d.3);
  left = λ s. ltb→lt 0 r s;
  none = λ s. le_antisymm (nltb→le 0 r s) zero-le;
}

-- ---- a number to its 64 highest bits

-- the highest bit of n is bit j
pub narrowed : (n j : ℕ) → 2 ^ 63 ≤ n → n < 2 ^ 128 → 2 ^ j ≤ n → n < 2 * 2 ^ j → let t = j - 63 in (63 ≤ j) × Narrowed n (n / 2 ^ t) t (not (eqb (n / 2 ^ t * 2 ^ t % 2 ^ 128) n))
narrowed n j h w lo hi =
    let t = j - 63 in
    let u = 2 ^ t in
    let q = n / u * u in
    let p : 0 < u = pow_pos t in
    let hi' : n < 2 ^ suc j = lt_of_lt_of_le hi (le_of_eq (mul_comm 2 (2 ^ j) ∙ sym (pow-suc 2 j))) in
    let k : 63 ≤ j = le_of_suc-le-suc (few_of 63 n (suc j) h hi') in
    let e : 63 + t ≡ j = omega arith in
    let f : 64 + t ≡ suc j = omega arith in
    let a : 2 ^ 63 * u ≡ 2 ^ j = sym (pow-add 2 63 t) ∙ ap (λ (x : ℕ). 2 ^ x) e in
    let b : 2 ^ 64 * u ≡ 2 ^ suc j = sym (pow-add 2 64 t) ∙ ap (λ (x : ℕ). 2 ^ x) f in
    let d : q + n % u ≡ n = div-add-mod' n u in
    let l : q < 2 ^ 128 = omega arith in
    let s = left_over q (n % u) n d in (
      k,
      rw (mod-eq_of_lt l) (record {
        rest = n % u;
        is = sym d;
        small = mod-lt n p;
        full = (le-div_iff_mul-le p).1 (le_trans (le_of_eq a) lo);
        wide = (div-lt_iff_lt-mul p).1 (lt_of_lt_of_le hi' (le_of_eq (sym b)));
        few = omega (arith, few_of j n 128 lo w);
        left = s.0;
        none = s.1;
      }),
    )
  where
    left_over : (q r n : ℕ) → q + r ≡ n → (T (not (eqb q n)) → 0 < r) × (T (not (not (eqb q n))) → r ≡ 0)
    left_over q r n e = go (eqb q n) refl
      where
        go : (b : Bool) → eqb q n ≡ b → (T (not b) → 0 < r) × (T (not (not b)) → r ≡ 0)
        go true h = (λ f. absurd f, λ _. omega (arith, eqb-true q n h))
        go false h = (λ _. omega (arith, eqb-false q n h), λ f. absurd f)
