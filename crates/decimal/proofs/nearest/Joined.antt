-- The steps together: the pattern that they give is the nearest f64's. Assumes nothing.
use mathlib.Core.Path.{◌≡◌, sym, ap, ◌∙◌}
use mathlib.Core.Bool.{Bool, false}
use Prim.Native.Nat.{ℕ, ◌+◌, ◌-◌, ◌*◌, ◌^◌, ◌≤◌}
use native.Mathlib.Nat.{le_of_eq, lt_of_lt_of_le, one-mul, zero-mul, mul_assoc, mul_right_comm, add-mul, mul-pos, mul-lt-mul_of_pos_right, one-le-pow}
use native.Mathlib.Omega.{arith}
use lib.Dec.{lit≤}
use lib.Pow.{pow-add, pow_pos}
use lib.Ieee.{binary64, round, of_bits}
use Rattle.real.proofs.Pack.{near11, pack_round}
use Rattle.decimal.specs.Steps.{Led, Divided, Narrowed}
use Rattle.decimal.proofs.nearest.Powers.{ten_pow}

field_below : (t s k : ℕ) → t ≤ 63 → s ≤ 63 → k ≤ 22 → 1074 - (t + s + k) + 11 ≡ 1085 - (t + s + k)
field_below t s k a b c = omega arith

small_below : (t s k : ℕ) → 1074 - (t + s + k) + 11 ≤ 2000
small_below t s k = omega arith

parts_below : (t s k : ℕ) → t ≤ 63 → s ≤ 63 → k ≤ 22 → k + (1074 - (t + s + k)) ≡ 1074 - (t + s)
parts_below t s k a b c = omega arith

all_below : (t s : ℕ) → t ≤ 63 → s ≤ 63 → s + t + (1074 - (t + s)) ≡ 1074
all_below t s a b = omega arith

pub below_is : (d n s k m t : ℕ) (st : Bool) → Led d n s → Divided n (5 ^ k) m t st → k ≤ 22 → of_bits binary64 ((1085 - (t + s + k)) * 2 ^ 52 + near11 m st) ≡ round binary64 false d (10 ^ k)
below_is d n s k m t st l v K =
    let z = 1074 - (t + s + k) in
    let y = 1074 - (t + s) in
    let r = v.rest in
    let cz : 10 ^ k * 2 ^ z ≡ 5 ^ k * 2 ^ y =
    ap (λ (x : ℕ). x * 2 ^ z) (ten_pow k) ∙ mul_assoc (5 ^ k) (2 ^ k) (2 ^ z) ∙ ap (λ (x : ℕ). 5 ^ k * x) (sym (pow-add 2 k z) ∙ ap (λ (x : ℕ). 2 ^ x) (parts_below t s k v.few l.few K)) in
    let p : 2 ^ 1074 ≡ 2 ^ s * 2 ^ t * 2 ^ y = ap (λ (x : ℕ). 2 ^ x) (sym (all_below t s v.few l.few)) ∙ pow-add 2 (s + t) y ∙ ap (λ (x : ℕ). x * 2 ^ y) (pow-add 2 s t) in
    let e : d * 2 ^ 1074 ≡ m * (10 ^ k * 2 ^ z) + r * 2 ^ y =
    ap (λ (x : ℕ). d * x) p
    ∙ sym (mul_assoc d (2 ^ s * 2 ^ t) (2 ^ y))
    ∙ ap (λ (x : ℕ). x * 2 ^ y) (sym (mul_assoc d (2 ^ s) (2 ^ t)) ∙ ap (λ (x : ℕ). x * 2 ^ t) (sym l.is) ∙ v.is)
    ∙ add-mul (m * 5 ^ k) r (2 ^ y)
    ∙ ap (λ (x : ℕ). x + r * 2 ^ y) (mul_assoc m (5 ^ k) (2 ^ y) ∙ ap (λ (x : ℕ). m * x) (sym cz)) in
    ap (λ (x : ℕ). of_bits binary64 (x * 2 ^ 52 + near11 m st)) (sym (field_below t s k v.few l.few K))
    ∙ pack_round d (10 ^ k) z m (r * 2 ^ y) st (one-le-pow k 10 (lit≤ tt))
    (lt_of_lt_of_le (mul-lt-mul_of_pos_right v.small (pow_pos y)) (le_of_eq (sym cz)))
    e v.full v.wide (small_below t s k) (λ f. mul-pos (v.left f) (pow_pos y)) (λ f. ap (λ (x : ℕ). x * 2 ^ y) (v.none f) ∙ zero-mul (2 ^ y))

field_above : (t s k : ℕ) → s ≤ 63 → 1074 + t + k - s + 11 ≡ 1085 + t + k - s
field_above t s k a = omega arith

small_above : (t s k : ℕ) → t ≤ 64 → k ≤ 22 → 1074 + t + k - s + 11 ≤ 2000
small_above t s k a b = omega arith

parts_above : (t s k : ℕ) → s ≤ 63 → t + (1074 + k - s) ≡ 1074 + t + k - s
parts_above t s k a = omega arith

all_above : (s k : ℕ) → s ≤ 63 → k + 1074 ≡ s + (1074 + k - s)
all_above s k a = omega arith

pub above_is : (d n s k w m t : ℕ) (st : Bool) → Led d n s → w ≡ n * 5 ^ k → Narrowed w m t st → k ≤ 22 → of_bits binary64 ((1085 + t + k - s) * 2 ^ 52 + near11 m st) ≡ round binary64 false (d * 10 ^ k) 1
above_is d n s k w m t st l q v K =
    let z = 1074 + t + k - s in
    let y = 1074 + k - s in
    let r = v.rest in
    let cz : 1 * 2 ^ z ≡ 2 ^ t * 2 ^ y = one-mul (2 ^ z) ∙ ap (λ (x : ℕ). 2 ^ x) (sym (parts_above t s k l.few)) ∙ pow-add 2 t y in
    let p : 2 ^ k * 2 ^ 1074 ≡ 2 ^ s * 2 ^ y = sym (pow-add 2 k 1074) ∙ ap (λ (x : ℕ). 2 ^ x) (all_above s k l.few) ∙ pow-add 2 s y in
    let e : d * 10 ^ k * 2 ^ 1074 ≡ m * (1 * 2 ^ z) + r * 2 ^ y =
    ap (λ (x : ℕ). d * x * 2 ^ 1074) (ten_pow k)
    ∙ ap (λ (x : ℕ). x * 2 ^ 1074) (sym (mul_assoc d (5 ^ k) (2 ^ k)))
    ∙ mul_assoc (d * 5 ^ k) (2 ^ k) (2 ^ 1074)
    ∙ ap (λ (x : ℕ). d * 5 ^ k * x) p
    ∙ sym (mul_assoc (d * 5 ^ k) (2 ^ s) (2 ^ y))
    ∙ ap (λ (x : ℕ). x * 2 ^ y) (mul_right_comm d (5 ^ k) (2 ^ s) ∙ ap (λ (x : ℕ). x * 5 ^ k) (sym l.is) ∙ sym q ∙ v.is)
    ∙ add-mul (m * 2 ^ t) r (2 ^ y)
    ∙ ap (λ (x : ℕ). x + r * 2 ^ y) (mul_assoc m (2 ^ t) (2 ^ y) ∙ ap (λ (x : ℕ). m * x) (sym cz)) in
    ap (λ (x : ℕ). of_bits binary64 (x * 2 ^ 52 + near11 m st)) (sym (field_above t s k l.few))
    ∙ pack_round (d * 10 ^ k) 1 z m (r * 2 ^ y) st (pow_pos 0)
    (lt_of_lt_of_le (mul-lt-mul_of_pos_right v.small (pow_pos y)) (le_of_eq (sym cz)))
    e v.full v.wide (small_above t s k v.few K) (λ f. mul-pos (v.left f) (pow_pos y)) (λ f. ap (λ (x : ℕ). x * 2 ^ y) (v.none f) ∙ zero-mul (2 ^ y))
