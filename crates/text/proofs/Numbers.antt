-- Digits: one after another, a number of them as a whole, and digits that were written. Of a law's names here and in Runs, `_on` goes on past
-- a byte that passes, `_stop` is at one that does not, `_none` where there is none. Assumes nothing.
use Prim.Native.Nat.{ℕ, zero, suc, ◌+◌, ◌-◌, ◌*◌, ◌/◌, ◌%◌, ◌^◌, ◌≤◌, ◌<◌}
use Rattle.std.specs.Prelude.{if◌then◌else◌}
use mathlib.Core.Bool.{Bool, true, false, ◌&&◌}
use mathlib.Core.Path.{◌≡◌, refl, ap, sym, ◌∙◌}
use mathlib.Core.List.{List, [], ◌∷◌, ◌++◌}
use native.Mathlib.Nat.{pow-suc, pow-le-pow_right, zero-add, add-mul, mul_assoc, mod-lt, pow-succ', one-le-pow, zero-mul, mod-eq_of_lt}
use native.Mathlib.Numerals.{add-one}
use native.Mathlib.Omega.{arith}
use lib.Arith.{mod-mul}
use lib.Dec.{leb, lit<, lit≤}
use lib.ListN.{length, drop}
use borrow.Author.Tests.{leb-true, le-leb}
use Rattle.rules.specs.Basics.{is_digit, Read, got, other, refuse, read_some, ◌>>=◌, only_if, digits, digits_on}
use Rattle.std.specs.Bool.{then_some}
use Rattle.rules.specs.Decimal.{run}
use Rattle.rules.specs.Writing.{places}
use Rattle.text.proofs.Bytes.{digit_byte, digit_bounds}

-- ---- one digit
either_other : {A : Type 0} (t : Bool) → ◌≡◌ {A = Read A} (if t then other else other) other
either_other true = refl
either_other false = refl

pub digits_on-short : (n v : ℕ) (l : List ℕ) → length l < n → digits_on n v l ≡ other
unfolding digits_on
digits_on-short zero v l h = absurd (omega arith)
digits_on-short (suc n) v [] h = refl
digits_on-short (suc n) v (b ∷ l) h = rw (digits_on-short n (v * 10 + (b - 48)) l (omega arith)) (either_other (is_digit b))

module _ (n v : ℕ) (s : List ℕ) (h : 0 < n) (b : ℕ) (t : List ℕ) (e : s ≡ b ∷ t) where
  pub digit_on : (m : ℕ) → m + 1 ≡ n → is_digit b ≡ true → digits_on n v s ≡ digits_on m (v * 10 + (b - 48)) t
  unfolding digits_on
  digit_on m k d = let p : n ≡ suc m = omega arith in rw (p, e, d)

  pub digit_stop : is_digit b ≡ false → digits_on n v s ≡ other
  unfolding digits_on
  digit_stop d = let p : n ≡ suc (n - 1) = omega arith in rw (p, e, d)

-- the number so far, and with one digit more
pub more : (v b k : ℕ) → v < 10 ^ k → is_digit b ≡ true → v * 10 + (b - 48) < 10 ^ (k + 1)
more v b k h d = let p = digit_bounds b d in rw (add-one, pow-suc) (omega arith)

pub few : (v b k n : ℕ) → v < 10 ^ k → k < n → n ≤ 9 → is_digit b ≡ true → v * 10 + (b - 48) < 2 ^ 32
few v b k n h l m d =
    let p = digit_bounds b d in
    let q : 10 ^ k ≤ 10 ^ 8 = pow-le-pow_right {n = 10} (lit< tt) {i = k} {j = 8} (omega arith) in
    omega arith

-- ---- as a whole
pub digits_short : (n lo hi : ℕ) (l : List ℕ) → length l < n → digits n lo hi l ≡ other
unfolding digits
digits_short n lo hi l h = rw (digits_on-short n 0 l h)

pub digits_other : (n lo hi : ℕ) (l : List ℕ) → digits_on n 0 l ≡ other → digits n lo hi l ≡ other
unfolding digits
digits_other n lo hi l h = rw h

pub digits_got : (n lo hi v : ℕ) (l t : List ℕ) → digits_on n 0 l ≡ got (v, t) → digits n lo hi l ≡ only_if (leb lo v && leb v hi) (v, t)
unfolding digits
digits_got n lo hi v l t h = rw h

-- a number that must be lo to hi
pub digits_all : {A : Type 0} (f : A → ℕ × List ℕ) (n m lo hi v : ℕ) (s t : List ℕ) (x : A) → digits_on n 0 s ≡ digits_on m v t → m ≡ 0 → f x ≡ (v, t) → read_some f (then_some (leb lo v && leb v hi) x) ≡ digits n lo hi s
unfolding digits_on
digits_all f n m lo hi v s t x e z h = sym (digits_got n lo hi v s t (e ∙ rw z) ∙ go (leb lo v && leb v hi))
  where
    go : (b : Bool) → only_if b (v, t) ≡ read_some f (then_some b x)
    go true = ap got (sym h)
    go false = refl

-- ---- what n digits tell of the text
-- there are n bytes, and what follows is what stands after them
abbrev Rest : ℕ → List ℕ → Read (ℕ × List ℕ) → Type 0
Rest n l (got (v, t)) = (n ≤ length l) × (t ≡ drop n l)
Rest n l other = Unit
Rest n l (refuse x) = Unit

digits_on-rest : (n v : ℕ) (l : List ℕ) → Rest n l (digits_on n v l)
unfolding digits_on
digits_on-rest zero v l = (omega arith, refl)
digits_on-rest (suc n) v [] = tt
digits_on-rest (suc n) v (b ∷ l) = go (is_digit b) (digits_on n (v * 10 + (b - 48)) l) (digits_on-rest n (v * 10 + (b - 48)) l)
  where
    go : (t : Bool) (r : Read (ℕ × List ℕ)) → Rest n l r → Rest (suc n) (b ∷ l) (if t then r else other)
    go true (got (x, t)) h = (omega arith, h.1)
    go true other h = tt
    go true (refuse x) h = tt
    go false r h = tt

abbrev Known : ℕ → ℕ → ℕ → List ℕ → Read (ℕ × List ℕ) → Type 0
Known n lo hi l (got (v, t)) = (lo ≤ v) × (v ≤ hi) × (n ≤ length l) × (t ≡ drop n l)
Known n lo hi l other = Unit
Known n lo hi l (refuse x) = Unit

known : (n lo hi : ℕ) (l : List ℕ) → Known n lo hi l (digits n lo hi l)
unfolding digits
known n lo hi l = go (digits_on n 0 l) (digits_on-rest n 0 l)
  where
    go : (r : Read (ℕ × List ℕ)) → Rest n l r → Known n lo hi l (◌>>=◌ r (λ w. only_if (leb lo w.0 && leb w.0 hi) w))
    go (got (v, t)) h = within (leb lo v) (leb v hi) refl refl
      where
        within : (a b : Bool) → leb lo v ≡ a → leb v hi ≡ b → Known n lo hi l (only_if (a && b) (v, t))
        within true true p q = (leb-true lo v p, leb-true v hi q, h.0, h.1)
        within true false p q = tt
        within false b p q = tt
    go other h = tt
    go (refuse x) h = tt

pub digits_known : (n lo hi v : ℕ) (l t : List ℕ) → digits n lo hi l ≡ got (v, t) → (lo ≤ v) × (v ≤ hi) × (n ≤ length l) × (t ≡ drop n l)
digits_known n lo hi v l t e = rw e at (known n lo hi l)

-- ---- a run of digits
module _ (s : List ℕ) (b : ℕ) (t : List ℕ) (h : s ≡ b ∷ t) where
  pub run_on : is_digit b ≡ true → run s ≡ ((b - 48) ∷ (run t).0, (run t).1)
  unfolding run
  run_on e = rw (h, e)

  pub run_stop : is_digit b ≡ false → run s ≡ ([], s)
  unfolding run
  run_stop e = rw (h, e)

-- ---- digits that were written read back
digits_on-written : (n w v : ℕ) (t : List ℕ) → digits_on n w (places n v ++ t) ≡ got (w * 10 ^ n + v % 10 ^ n, t)
unfolding digits_on places
digits_on-written zero w v t = let e : w * 1 + v % 1 ≡ w = omega arith in rw e
digits_on-written (suc n) w v t = rw (digit_byte d (mod-lt (v / 10 ^ n) (lit< tt)), digits_on-written n (w * 10 + (48 + d - 48)) v t, sums)
  where
    d : ℕ
    d = v / 10 ^ n % 10

    sums : (w * 10 + (48 + d - 48)) * 10 ^ n + v % 10 ^ n ≡ w * 10 ^ suc n + v % 10 ^ suc n
    sums =
        let e : 48 + d - 48 ≡ d = omega arith in
        let p : 0 < 10 ^ n = one-le-pow n 10 (lit≤ tt) in
        rw (e, pow-succ' 10 n, mod-mul v {m = 10} {c = 10 ^ n} (lit< tt) p)
        (omega (arith, add-mul (w * 10) d (10 ^ n), mul_assoc w 10 (10 ^ n)))

pub digits_written : (n lo hi v : ℕ) (t : List ℕ) → v < 10 ^ n → lo ≤ v → v ≤ hi → digits n lo hi (places n v ++ t) ≡ got (v, t)
digits_written n lo hi v t h l k =
    let e : 0 * 10 ^ n + v % 10 ^ n ≡ v = rw (zero-mul, zero-add) (mod-eq_of_lt h) in
    digits_got n lo hi v (places n v ++ t) t (digits_on-written n 0 v t ∙ rw e) ∙ rw (le-leb lo v l, le-leb v hi k)
