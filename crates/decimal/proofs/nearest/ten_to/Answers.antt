-- `decimal::nearest::ten_to` meets its contract: each entry of the table is ten times the one before, by computing it.
use Rattle.std.proofs.Common.{◌≡◌, ℕ, zero, suc, ◌*◌, ◌^◌, ◌<◌, Bool, true, false, ◌&&◌, List, [], ◌∷◌, length, get_or, T, eqb, refl, ap, ◌∙◌, sym, subst, arith, one-mul, pow-suc, mul_assoc, mul_comm}
use lib.Dec.{eqb→eq}
use lib.Ieee.{Float, nan, inf, fin, up, down, of_bits}
use lib.Ieee.Exact.{HasValue}
use Rattle.decimal.specs.declared.nearest.TheConstants.{TENS}
use Rattle.decimal.proofs.nearest.ten_to.Goals as goal

-- whether x is the number p
abbrev is : Float → ℕ → Bool
is nan p = false
is (inf s) p = false
is (fin true m e) p = false
is (fin false m e) p = eqb (m * up e * 1) (p * down e)

value : (x : Float) (p : ℕ) → T (is x p) → HasValue x false p 1
value nan p t = absurd t
value (inf s) p t = absurd t
value (fin true m e) p t = absurd t
value (fin false m e) p t = (refl, eqb→eq _ _ t)

abbrev tens : List Float → ℕ → Bool
tens [] p = true
tens (x ∷ xs) p = is x p && tens xs (p * 10)

both : (a b : Bool) → T (a && b) → T a × T b
both true b t = (tt, t)
both false b t = absurd t

at : (xs : List Float) (p k : ℕ) (d : Float) → k < length xs → T (tens xs p) → HasValue (get_or xs k d) false (p * 10 ^ k) 1
at [] p k d h t = absurd (omega arith)
at (x ∷ xs) p zero d h t = let e : p ≡ p * 10 ^ 0 = omega arith in subst (λ (v : ℕ). HasValue x false v 1) e (value x p (both (is x p) (tens xs (p * 10)) t).0)
at (x ∷ xs) p (suc k) d h t =
    let e : p * 10 * 10 ^ k ≡ p * 10 ^ suc k = mul_assoc p 10 (10 ^ k) ∙ ap (λ (v : ℕ). p * v) (mul_comm 10 (10 ^ k) ∙ sym (pow-suc 10 k)) in
    subst (λ (v : ℕ). HasValue (get_or xs k d) false v 1) e (at xs (p * 10) k d (omega arith) (both (is x p) (tens xs (p * 10)) t).1)

ten : (xs : List Float) (k : ℕ) (d : Float) → k < length xs → T (tens xs 1) → HasValue (get_or xs k d) false (10 ^ k) 1
ten xs k d h t = rw one-mul at (at xs 1 k d h t)

pub returns : goal.returns
unfolding of_bits
returns c = ten TENS c.args.k nan (omega arith) tt
