-- `decimal::nearest::below` meets its contract: one division of two exact values. Assumes nothing.
use mathlib.Core.Path.{ap, ◌∙◌}
use Prim.Native.Nat.{ℕ, ◌*◌, ◌^◌}
use native.Mathlib.Nat.{le_of_lt, one-le-pow, mul-one, one-mul}
use mathlib.Core.Bool.{false}
use lib.Dec.{lit≤, le→leb}
use lib.IntN.{pos}
use lib.Pow.{pow_pos}
use lib.Ieee.{binary64, of_int, in_float, round}
use Rattle.real.proofs.Near.{div_at}
use Rattle.real.proofs.Millis.{of_int-val}
use Rattle.decimal.proofs.nearest.below.Goals as goal

pub int_to_float-result : goal.int_to_float-result
unfolding in_float
int_to_float-result c = le→leb _ _ (le_of_lt c.if-d-lt-EXACT.true)

pub returns-then-d-lt-EXACT : goal.returns-then-d-lt-EXACT
returns-then-d-lt-EXACT c = let a = c.args in
    let d = a.d in
    let p = 10 ^ a.k in
    div_at binary64 (of_int binary64 (pos d)) c.ten_to.result d 1 p 1 (pow_pos 0) (pow_pos 0) (one-le-pow a.k 10 (lit≤ tt)) (of_int-val d c.if-d-lt-EXACT.true) c.ten_to.ensures
    ∙ ap (λ (x : ℕ). round binary64 false x (1 * p)) (mul-one d)
    ∙ ap (λ (x : ℕ). round binary64 false d x) (one-mul p)
