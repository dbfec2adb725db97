-- A loop that lays a number from its last place down to its first. Assumes nothing.
use Prim.Native.Nat.{ℕ, zero, suc, ◌+◌, ◌-◌, ◌/◌, ◌%◌, ◌^◌, ◌≤◌, ◌<◌}
use mathlib.Core.Path.{◌≡◌, sym, ap, ◌∙◌}
use mathlib.Core.List.{List}
use native.Mathlib.Nat.{pow-zero, div-one, mod-eq_of_lt}
use native.Mathlib.Omega.{arith}
use lib.ListN.{length, set, length-set}
use lib.Seq.{sets}
use Rattle.digits.specs.Writers.{Laid}
use Rattle.digits.proofs.Columns.{column, length_column, column_last}
use Rattle.digits.proofs.Buffer.{sets_before}

-- `left` of n places are still to be laid, and `rest` is what they show
pub record Down (f : ℕ → ℕ) (b : ℕ) (old : List ℕ) (at n v : ℕ) (new : List ℕ) (left rest : ℕ) : Type 0 where
  pub few : left ≤ n
  pub same : length new ≡ length old
  pub bytes : sets new at (column f b left rest) ≡ sets old at (column f b n v)

lay_last : (f : ℕ → ℕ) (b : ℕ) (l : List ℕ) (at left rest : ℕ) → 0 < left → sets (set l (at + (left - 1)) (f (rest % b))) at (column f b (left - 1) (rest / b)) ≡ sets l at (column f b left rest)
lay_last f b l at zero rest h = absurd (omega arith)
lay_last f b l at (suc n) rest h =
    let e : suc n - 1 ≡ n = omega arith in
    rw e (
    ap (λ (k : ℕ). sets (set l (at + k) (f (rest % b))) at (column f b n (rest / b))) (sym (length_column f b n (rest / b)))
    ∙ sets_before l at (column f b n (rest / b)) (f (rest % b))
    ∙ ap (sets l at) (sym (column_last f b n rest)))

pub down_turn : {f : ℕ → ℕ} {b : ℕ} {old : List ℕ} {at n v : ℕ} {new : List ℕ} {left rest : ℕ} → 0 < left → Down f b old at n v new left rest → Down f b old at n v (set new (at + (left - 1)) (f (rest % b))) (left - 1) (rest / b)
down_turn {f} {b} {old} {at} {n} {v} {new} {left} {rest} h d = record {
  few = omega (arith, d.few);
  same = length-set new (at + (left - 1)) (f (rest % b)) ∙ d.same;
  bytes = lay_last f b new at left rest h ∙ d.bytes;
}

-- the first place by itself: it is what is left, where that is one digit
pub down_first : {f : ℕ → ℕ} {b : ℕ} {old : List ℕ} {at n v : ℕ} {new : List ℕ} {left rest : ℕ} → left ≡ 1 → rest < b → Down f b old at n v new left rest → Laid old at (column f b n v) (set new at (f rest)) (at + n)
unfolding column
down_first {f} {b} {old} {at} {n} {v} {new} {left} {rest} e h d = record {
  place = ap (λ (k : ℕ). at + k) (sym (length_column f b n v));
  bytes = rw (← first rest h) (rw e at d.bytes);
}
  where
    first : (x : ℕ) → x < b → f (x / b ^ 0 % b) ≡ f x
    first x l = rw (pow-zero b, div-one x, mod-eq_of_lt l)

pub down_end : {f : ℕ → ℕ} {b : ℕ} {old : List ℕ} {at n v : ℕ} {new : List ℕ} {left rest : ℕ} → left ≡ 0 → Down f b old at n v new left rest → Laid old at (column f b n v) new (at + n)
unfolding column
down_end {f} {b} {old} {at} {n} {v} {new} {left} {rest} z d = record {
  place = ap (λ (k : ℕ). at + k) (sym (length_column f b n v));
  bytes = sym (ap (λ (k : ℕ). sets new at (column f b k rest)) z) ∙ d.bytes;
}
