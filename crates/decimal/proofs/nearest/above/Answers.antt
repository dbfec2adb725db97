-- `decimal::nearest::above` meets its contract: one product of two exact values. Assumes nothing.
use Prim.Native.Nat.{◌^◌}
use native.Mathlib.Nat.{le_of_lt}
use lib.Dec.{le→leb}
use lib.IntN.{pos}
use lib.Pow.{pow_pos}
use lib.Ieee.{binary64, of_int, in_float}
use Rattle.real.proofs.Near.{mul_at}
use Rattle.real.proofs.Millis.{of_int-val}
use Rattle.decimal.proofs.nearest.above.Goals as goal

pub int_to_float-result : goal.int_to_float-result
unfolding in_float
int_to_float-result c = le→leb _ _ (le_of_lt c.if-d-lt-EXACT.true)

pub returns-then-d-lt-EXACT : goal.returns-then-d-lt-EXACT
returns-then-d-lt-EXACT c = let a = c.args in
    let d = a.d in
    let p = 10 ^ a.k in
    mul_at binary64 (of_int binary64 (pos d)) c.ten_to.result d 1 p 1 (pow_pos 0) (pow_pos 0) (of_int-val d c.if-d-lt-EXACT.true) c.ten_to.ensures
