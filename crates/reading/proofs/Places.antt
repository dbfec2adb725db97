-- Digits that are written read to their number, and runs of bytes are skipped. Assumes nothing.
use Prim.Native.Nat.{ℕ, ◌+◌, ◌-◌, ◌^◌, ◌≤◌, ◌<◌}
use mathlib.Core.Bool.{Bool, true, false, ◌&&◌, true≢false}
use mathlib.Core.Path.{◌≡◌, refl, sym}
use mathlib.Core.List.{List, [], ◌∷◌, ◌++◌, map, append-nil}
use native.Mathlib.Omega.{arith}
use borrow.Author.Tests.{leb-true}
use lib.Dec.{leb}
use Rattle.rules.specs.Basics.{is_digit, got, every, skip, digits}
use Rattle.rules.specs.Decimal.{run}
use Rattle.rules.specs.Writing.{places}
use Rattle.text.proofs.Bytes.{digit_byte}
use Rattle.text.proofs.Numbers.{digits_written}

pub both : (a b : Bool) → (a && b) ≡ true → (a ≡ true) × (b ≡ true)
both true b h = (refl, h)
both false b h = absurd (true≢false (sym h))

-- ---- a number in n places
pub digits_places : (n lo hi v : ℕ) (l : List ℕ) → v < 10 ^ n → lo ≤ v → v ≤ hi → digits n lo hi (places n v ++ l) ≡ got (v, l)
digits_places = digits_written

-- ---- a run of bytes that pass, before one that does not or the end
abbrev pub Stops : (ℕ → Bool) → List ℕ → Type 0
Stops f [] = Unit
Stops f (b ∷ l) = f b ≡ false

pub skip_run : (f : ℕ → Bool) (a l : List ℕ) → every f a ≡ true → Stops f l → skip f (a ++ l) ≡ l
unfolding every skip
skip_run f [] [] h k = refl
skip_run f [] (b ∷ l) h k = rw k
skip_run f (x ∷ a) l h k = let (p, q) = both (f x) (every f a) h in rw p (skip_run f a l q k)

pub skip_all : (f : ℕ → Bool) (a : List ℕ) → every f a ≡ true → skip f a ≡ []
skip_all f a h = rw append-nil at (skip_run f a [] h tt)

-- the digits that stand before such a byte
pub run_digits : (ds l : List ℕ) → every (λ d. leb d 9) ds ≡ true → Stops is_digit l → run (map (λ n. 48 + n) ds ++ l) ≡ (ds, l)
unfolding every run
run_digits [] [] h k = refl
run_digits [] (b ∷ l) h k = rw k
run_digits (d ∷ ds) l h k =
    let (p, q) = both (leb d 9) (every (λ d. leb d 9) ds) h in
    let m : 48 + d - 48 ≡ d = omega arith in
    let low : d < 10 = omega (arith, leb-true d 9 p) in
    rw (digit_byte d low, run_digits ds l q k, m)
