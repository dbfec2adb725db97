-- What crate rules' `run` finds at the front of a text. Assumes nothing.
use Rattle.std.proofs.Common.{if◌then◌else◌, ◌≡◌, ℕ, suc, ◌-◌, ◌≤◌, Bool, true, false, ◌&&◌, leb, List, [], ◌∷◌, length, refl, zero-le, arith, leb-true}
use Rattle.rules.specs.Basics.{is_digit}
use Rattle.rules.specs.Decimal.{run}

-- each is a digit
abbrev pub Digits : List ℕ → Type 0
Digits [] = Unit {0}
Digits (d ∷ ds) = (d ≤ 9) × Digits ds

pub run_digits : (s : List ℕ) → Digits (run s).0 × (length (run s).0 ≤ length s)
unfolding run
run_digits [] = (tt, zero-le)
run_digits (b ∷ s) = go (is_digit b) (λ e. leb-true b 57 (second (leb 48 b) (leb b 57) e)) (run_digits s)
  where
    second : (x y : Bool) → (x && y) ≡ true → y ≡ true
    second true y e = e
    second false true e = refl
    second false false e = e

    found : Bool → List ℕ × List ℕ
    found x = if x then ((b - 48) ∷ (run s).0, (run s).1) else ([], b ∷ s)

    go : (x : Bool) → (x ≡ true → b ≤ 57) → Digits (run s).0 × (length (run s).0 ≤ length s) → Digits (found x).0 × (length (found x).0 ≤ suc (length s))
    go true d r = let l = r.1 in let h = d refl in ((omega arith, r.0), omega arith)
    go false d r = (tt, zero-le)
