-- `moment::Moment::by_months` meets its contract.
use native.Mathlib.Omega.{arith}
use lib.IntN.{pos, nat_abs, ◌*ℤ◌}
use Prim.Native.Nat.{◌≤◌}
use mir.Syntax.{w64}
use mir.ValLaws.{to_z-of_z}
use Rattle.rules.specs.Floats.{cut}
use Rattle.moment.proofs.Chains.{moved_as}
use Rattle.moment.proofs.Modifiers.{months_are}
use Rattle.moment.proofs.Ways.{back, back_pos, abs_product}
use Rattle.moment.proofs.Moment.by_months.Goals as goal

pub returns : goal.returns
returns c = let z = c.cut.result in
    let k = c.args.k in
    let few : nat_abs (z *ℤ pos k) ≤ 176545 = rw c.cut.ensures (omega (arith, abs_product (cut c.args.n) k, c.requires.1)) in
    moved_as (months_are k c.args.days c.args.n _)
    (rw (to_z-of_z w64 z (record { sfits = c.cut.type_inv }), back_pos k (omega arith), back (z *ℤ pos k) (omega (arith, few)), c.cut.ensures, to_z-of_z w64 c.fraction_ms.result (record { sfits = c.fraction_ms.type_inv }), c.fraction_ms.ensures) at c.by_date.ensures)
