-- `digits::put_number` meets its contract. Assumes nothing.
use mathlib.Core.Path.{sym, ap, ◌∙◌}
use Prim.Native.Nat.{ℕ}
use native.Mathlib.Omega.{arith}
use Rattle.rules.specs.Writing.{places}
use Rattle.digits.proofs.Decimal.{wide_length, wide_some, wide_fits}
use Rattle.digits.proofs.Buffer.{room_as, laid_as}
use Rattle.digits.proofs.put_number.Goals as goal

pub put_places-requires : goal.put_places-requires
put_places-requires c = let a = c.args in record { some_places = omega (arith, c.number_length.ensures.0, wide_some a.least a.v); few_places = rw c.number_length.ensures.0 (wide_fits a.least a.v (omega arith)); room = rw c.number_length.ensures.0 (room_as (sym (wide_length a.least a.v)) c.requires) }

pub returns : goal.returns
returns c = let a = c.args in laid_as (ap (λ (n : ℕ). places n a.v) c.number_length.ensures.0 ∙ wide_length a.least a.v) c.put_places.ensures
