-- Decimals of a magnitude digits / 2 ^ shift. Assumes nothing.
use Rattle.std.proofs.Common.{◌≡◌, ℕ, ◌+◌, ◌*◌, ◌/◌, ◌%◌, ◌^◌, ◌<◌, ◌≤◌, true, sym, refl, ap, ◌∙◌, le_trans, le_of_eq, lt_of_lt_of_le, le_of_suc-le-suc, lt_of_le_of_lt, add-suc, mul-le-mul_right, mod-lt, mod-eq_of_lt, mul_comm, div-lt_iff_lt-mul, add-mul, mul-le-mul_left, mul-lt-mul_of_pos_right, one-mul, lt_of_not-le, div-add-mod', mul-one, mul_right_comm, not-le_of_lt, le_of_mul-le-mul_right, arith, lit≤, pow_pos, pow_mono}
use Prim.Native.Nat.{compare, Ordering}
use native.Mathlib.Nat.{div-eq_of_lt, mul-add-div_right, mul-add-mod_self_right}
use lib.Pow.{pow-lt}
use lib.Ieee.{Float, nearest, of_int, round}
use lib.Ieee.Fits.{nearest-le}
use lib.Ieee.Nearest.{closest, closest_same}
use lib.Ieee.Positive.{num, den, den_pos}
use Rattle.rules.specs.Floats.{number, within, below, decimals}
use Rattle.real.specs.PartsOf.{PartsOf}
use Rattle.real.proofs.Pack.{near_lt}
use Rattle.real.proofs.Within.{Within}
use Rattle.real.proofs.Tests.{number_plain, span_within, within_below}

pub decimals_of : (k : ℕ) (x : Float) (m s : ℕ) → PartsOf x m s → decimals k x ≡ closest (m * 10 ^ k) (2 ^ s)
decimals_of k x m s p =
    closest_same (num x * 10 ^ k) (den x) (m * 10 ^ k) (2 ^ s) (den_pos x) (pow_pos s) (mul_right_comm (num x) (10 ^ k) (2 ^ s) ∙ ap (λ (z : ℕ). z * 10 ^ k) p.is ∙ mul_right_comm m (den x) (10 ^ k))

-- `1 << s`
pub one_shifted : (s : ℕ) → s < 64 → 1 * 2 ^ s % 2 ^ 64 ≡ 2 ^ s
one_shifted s h = ap (λ (x : ℕ). x % 2 ^ 64) (one-mul (2 ^ s)) ∙ mod-eq_of_lt (pow-lt h)

-- of less than a half nothing is left
pub to_none : (n s : ℕ) → n < 2 ^ 63 → 64 ≤ s → closest n (2 ^ s) ≡ 0
to_none n s h k =
    let l : 2 ^ 64 ≤ 2 ^ s = pow_mono k in
    let u : n < 2 ^ s = lt_of_lt_of_le (omega arith) l in
    ap (λ (x : ℕ). nearest (n / 2 ^ s) (compare (x * 2) (2 ^ s))) (mod-eq_of_lt u) ∙ near_lt (n / 2 ^ s) (n * 2) (2 ^ s) (lt_of_lt_of_le (omega arith) l) ∙ div-eq_of_lt u

-- ---- a whole and even part goes through the rounding
even_through : (A q : ℕ) (o : Ordering) → A % 2 ≡ 0 → nearest (A + q) o ≡ A + nearest q o
even_through A q Ordering.lt h = refl
even_through A q Ordering.eq h = omega arith
even_through A q Ordering.gt h = sym (add-suc A q)

closest_add : (A B p : ℕ) → 0 < p → A % 2 ≡ 0 → closest (A * p + B) p ≡ A + closest B p
closest_add A B p P h =
    ap (λ (x : ℕ). nearest x (compare ((A * p + B) % p * 2) p)) (mul-add-div_right P A B)
    ∙ ap (λ (x : ℕ). nearest (A + B / p) (compare (x * 2) p)) (mul-add-mod_self_right A p B)
    ∙ even_through A (B / p) (compare (B % p * 2) p) h

-- units of 10 ^ -9: the whole part apart from the rest
pub split : (m p : ℕ) → 0 < p → closest (m * 10 ^ 9) p ≡ m / p * 10 ^ 9 + closest (m % p * 10 ^ 9) p
split m p P =
    let A = m / p * 10 ^ 9 in
    let even : A % 2 ≡ 0 = omega arith in
    ap (λ (x : ℕ). closest x p) (ap (λ (x : ℕ). x * 10 ^ 9) (sym (div-add-mod' m p)) ∙ add-mul (m / p * p) (m % p) (10 ^ 9) ∙ ap (λ (x : ℕ). x + m % p * 10 ^ 9) (mul_right_comm (m / p) p (10 ^ 9)))
    ∙ closest_add A (m % p * 10 ^ 9) p P even

pub rest_le : (m p : ℕ) → 0 < p → closest (m % p * 10 ^ 9) p ≤ 10 ^ 9
rest_le m p P =
    let B = m % p * 10 ^ 9 in
    le_trans (nearest-le (B / p) (compare (B % p * 2) p)) ((div-lt_iff_lt-mul P).1 (lt_of_lt_of_le (mul-lt-mul_of_pos_right (mod-lt m P) (lit≤ tt)) (le_of_eq (mul_comm p (10 ^ 9)))))

-- ---- from a million up to 2 ^ 23
nine : (x : Float) → within (number 1000000) x (number 8388608) ≡ true → Within x (number 8388608) × (num (number 1000000) * den x ≤ num x * den (number 1000000))
nine x h = span_within x (number_plain 1000000 (lit≤ tt)) (number_plain 8388608 (lit≤ tt)) h

pub nine_below : (x : Float) → within (number 1000000) x (number 8388608) ≡ true → below x (number 9007199254740992) ≡ true
unfolding of_int round
nine_below x h = within_below (nine x h).0 (number_plain 9007199254740992 (lit≤ tt)) (lit≤ tt)

-- the last place is 2 ^ -33 or more
pub nine_shift : (x : Float) (m s : ℕ) → within (number 1000000) x (number 8388608) ≡ true → PartsOf x m s → s ≤ 33
unfolding of_int round
nine_shift x m s h p =
    let l : 1000000 * den x ≤ num x * 1 = (nine x h).1 in
    let b : 1000000 * 2 ^ s ≤ m = le_of_mul-le-mul_right (le_trans (le_of_eq (mul_right_comm 1000000 (2 ^ s) (den x))) (le_trans (mul-le-mul_right (2 ^ s) (le_trans l (le_of_eq (mul-one (num x))))) (le_of_eq p.is))) (den_pos x) in
    le_of_suc-le-suc (lt_of_not-le (λ (g : 34 ≤ s). not-le_of_lt (lt_of_le_of_lt b p.small) (le_trans (lit≤ tt) (mul-le-mul_left 1000000 (pow_mono g)))))

-- the whole part
pub nine_whole : (x : Float) (m s : ℕ) → within (number 1000000) x (number 8388608) ≡ true → PartsOf x m s → m / 2 ^ s ≤ 2 ^ 23
unfolding of_int round
nine_whole x m s h p =
    let l : num x * 1 ≤ 2 ^ 23 * den x = (nine x h).0.le in
    let b : m ≤ 2 ^ 23 * 2 ^ s = le_of_mul-le-mul_right (le_trans (le_of_eq (sym p.is)) (le_trans (mul-le-mul_right (2 ^ s) (le_trans (le_of_eq (sym (mul-one (num x)))) l)) (le_of_eq (mul_right_comm (2 ^ 23) (den x) (2 ^ s))))) (den_pos x) in
    le_of_suc-le-suc ((div-lt_iff_lt-mul (pow_pos s)).1 (lt_of_le_of_lt b (mul-lt-mul_of_pos_right {n = 2 ^ 23 + 1} (lit≤ tt) (pow_pos s))))
