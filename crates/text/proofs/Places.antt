-- The rules' readers at one place of a text after another, and tests of a byte. The code takes a slice apart from its front, so no function
-- needs these: they are laws of the rules' definitions. Of a law's names here `_on` goes on past a byte that passes, `_stop` is at one that
-- does not, `_past` past the end. Assumes nothing.
use Prim.Native.Nat.{ℕ, suc, ◌+◌, ◌-◌, ◌*◌, ◌≤◌, ◌<◌}
use Rattle.std.specs.Prelude.{if◌then◌else◌}
use mathlib.Core.Bool.{Bool, true, false}
use mathlib.Core.Path.{◌≡◌, refl, sym}
use mathlib.Core.List.{List, [], ◌∷◌}
use native.Mathlib.Decide.{dec_le}
use native.Mathlib.Numerals.{add-one}
use native.Mathlib.Omega.{arith}
use lib.Dec.{eqb}
use lib.ListN.{length, get_or, drop, drop_of_length-le}
use lib.Seq.{drop-cons}
use borrow.Author.Tests.{eq-eqb, ne_eqb, eqb-true, eqb-false}
use Rattle.rules.specs.Basics.{is_digit, got, other, every, front, ended, digits_on}
use Rattle.rules.specs.Decimal.{run}
use Rattle.rules.specs.Reading.{space}

-- ---- bytes
pub eqb_flip : (a b : ℕ) → eqb a b ≡ eqb b a
eqb_flip a b = go (eqb b a) refl
  where
    go : (t : Bool) → eqb b a ≡ t → eqb a b ≡ t
    go true h = eq-eqb a b (sym (eqb-true b a h))
    go false h = ne_eqb a b (λ e. eqb-false b a h (sym e))

-- one of two neighbours
pub space_two : (b n : ℕ) → n ≤ b → b ≤ n + 1 → space n ≡ true → space (n + 1) ≡ true → space b ≡ true
space_two b n l h p q = go (dec_le b n)
  where
    go : Dec (b ≤ n) → space b ≡ true
    go (yes k) = let e : b ≡ n = omega arith in rw e p
    go (no k) = let e : b ≡ n + 1 = omega (arith, k) in rw e q

-- ---- digits
pub two_at : (s : List ℕ) (at : ℕ) → at + 2 ≤ length s → is_digit (get_or s at 0) ≡ true → is_digit (get_or s (at + 1) 0) ≡ true → digits_on 2 0 (drop at s) ≡ got ((get_or s at 0 - 48) * 10 + (get_or s (at + 1) 0 - 48), drop (at + 2) s)
unfolding digits_on
two_at s at h a b =
    let one : at + 1 ≡ suc at = omega arith in
    let two : at + 2 ≡ suc (suc at) = omega arith in
    let first : at < length s = omega arith in
    let second : suc at < length s = omega arith in
    let d : is_digit (get_or s (suc at) 0) ≡ true = rw one at b in
    let q : (0 * 10 + (get_or s at 0 - 48)) * 10 ≡ (get_or s at 0 - 48) * 10 = omega arith in
    rw (one, two, drop-cons s at 0 first, drop-cons s (suc at) 0 second, a, d, q)

pub run_past : (s : List ℕ) (i : ℕ) → length s ≤ i → run (drop i s) ≡ ([], [])
unfolding run
run_past s i h = rw (drop_of_length-le s h)

-- ---- the end of a text
pub ended_other : {A : Type 0} (s : List ℕ) (at : ℕ) (a : A) → at < length s → ended (drop at s) a ≡ other
ended_other s at a h = rw (drop-cons s at 0 h)

-- ---- bytes that pass a test
module _ (f : ℕ → Bool) (s : List ℕ) (i : ℕ) where
  pub front_past : length s ≤ i → front f (drop i s) ≡ []
  unfolding front
  front_past h = rw (drop_of_length-le s h)

  pub every_past : length s ≤ i → every f (drop i s) ≡ true
  unfolding every
  every_past h = rw (drop_of_length-le s h)

  module _ (h : i < length s) where
    pub front_on : f (get_or s i 0) ≡ true → front f (drop i s) ≡ get_or s i 0 ∷ front f (drop (i + 1) s)
    unfolding front
    front_on e = rw (add-one, drop-cons s i 0 h, e)

    pub front_stop : f (get_or s i 0) ≡ false → front f (drop i s) ≡ []
    unfolding front
    front_stop e = rw (drop-cons s i 0 h, e)

    pub every_on : f (get_or s i 0) ≡ true → every f (drop i s) ≡ every f (drop (i + 1) s)
    unfolding every
    every_on e = rw (add-one, drop-cons s i 0 h, e)

    pub every_stop : f (get_or s i 0) ≡ false → every f (drop i s) ≡ false
    unfolding every
    every_stop e = rw (drop-cons s i 0 h, e)

pub length_front : (f : ℕ → Bool) (l : List ℕ) → length (front f l) ≤ length l
unfolding front
length_front f [] = omega arith
length_front f (b ∷ l) = go (f b) (length_front f l)
  where
    go : (t : Bool) → length (front f l) ≤ length l → length (if t then b ∷ front f l else []) ≤ suc (length l)
    go true h = omega arith
    go false h = omega arith
