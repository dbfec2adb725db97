-- The bound of a format: the sum of its letters' bounds, one for any other byte. Assumes nothing.
use Prim.Native.Nat.{ℕ, ◌+◌, ◌*◌, ◌≤◌}
use Rattle.std.specs.Prelude.{if◌then◌else◌, Result, Ok, Err}
use Prim.Native.Char.{Char}
use mathlib.Core.Bool.{Bool, true, false, ◌&&◌}
use mathlib.Core.Path.{◌≡◌, refl, sym, ap, ◌∙◌}
use mathlib.Core.List.{List, [], ◌∷◌}
use native.Mathlib.Omega.{arith}
use borrow.Author.Tests.{eq-eqb, ne_eqb}
use lib.Dec.{T, leb, leb→le}
use lib.ListN.{length}
use Rattle.rules.specs.Basics.{is, Read, got, other, refuse}
use Rattle.rules.specs.declared.Refusal.{Refusal}
use Rattle.writing.specs.Formats.{CheckIs, mosts, most_in, most, most_of}
use Rattle.writing.proofs.Cases.{and_both}

-- ---- no letter's bound is over 17
abbrev up_to : ℕ → List (Char × ℕ) → Bool
up_to n [] = true
up_to n (row ∷ rows) = leb row.1 n && up_to n rows

either : (x : Bool) (a b : ℕ) → a ≤ 17 → b ≤ 17 → (if x then a else b) ≤ 17
either true a b h k = h
either false a b h k = k

few_in : (rows : List (Char × ℕ)) (b : ℕ) → T (up_to 17 rows) → most_in rows b ≤ 17
unfolding most_in
few_in [] b t = omega arith
few_in (row ∷ rows) b t = let h = and_both (leb row.1 17) (up_to 17 rows) t in either (is row.0 b) row.1 (most_in rows b) (leb→le row.1 17 h.0) (few_in rows b h.1)

pub most_few : (b : ℕ) → most b ≤ 17
unfolding most mosts
most_few b = few_in mosts b tt

-- ---- one step
pub bound_byte : (b : ℕ) (s : List ℕ) → (b ≡ 37 → ⊥) → most_of (b ∷ s) ≡ 1 + most_of s
unfolding most_of
bound_byte b [] n = refl
bound_byte b (c ∷ s) n = rw (ne_eqb 37 b (λ e. n (sym e)))

pub bound_pair : (b c : ℕ) (s : List ℕ) → b ≡ 37 → most_of (b ∷ c ∷ s) ≡ most c + most_of s
unfolding most_of
bound_pair b c s e = rw (eq-eqb 37 b (sym e))

-- ---- the whole
pub bound_few : (f : List ℕ) → most_of f ≤ 17 * length f
unfolding most_of
bound_few [] = omega arith
bound_few (b ∷ []) = omega arith
bound_few (b ∷ c ∷ s) = go (is "%" b) (bound_few s) (bound_few (c ∷ s))
  where
    go : (x : Bool) → most_of s ≤ 17 * length s → most_of (c ∷ s) ≤ 17 * length (c ∷ s) → (if x then most c + most_of s else 1 + most_of (c ∷ s)) ≤ 17 * length (b ∷ c ∷ s)
    go true h k = omega (arith, most_few c, h)
    go false h k = omega (arith, k)

-- two answers of `check` that its contract allows are the same
pub check_one : (r : Read (List ℕ)) (bound : ℕ) (a b : Result ℕ Refusal) → CheckIs r bound a → CheckIs r bound b → a ≡ b
check_one (got s) bound (Ok n) (Ok m) h k = ap Ok (h.1 ∙ sym k.1)
check_one (got s) bound (Ok n) (Err y) h k = absurd k
check_one (got s) bound (Err x) b h k = absurd h
check_one other bound a b h k = absurd h
check_one (refuse z) bound (Ok n) b h k = absurd h
check_one (refuse z) bound (Err x) (Ok m) h k = absurd k
check_one (refuse z) bound (Err x) (Err y) h k = ap Err (h ∙ sym k)
