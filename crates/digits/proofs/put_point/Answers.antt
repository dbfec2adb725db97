-- `digits::put_point` meets its contract. Assumes nothing.
use mathlib.Core.Path.{sym, ap}
use mathlib.Core.List.{List, ◌∷◌}
use Prim.Native.Nat.{ℕ}
use Rattle.digits.proofs.Decimal.{wide_low}
use Rattle.digits.proofs.Buffer.{room_as, room_then, laid_as, laid_then}
use Rattle.digits.proofs.put_point.Goals as goal

pub put_digits-requires-clause-room : goal.put_digits-requires-clause-room
put_digits-requires-clause-room c = room_then c.put_byte-digits.ensures (room_as (sym (ap (λ (l : List ℕ). 46 ∷ l) (wide_low 2 c.args.t))) c.requires)

pub returns : goal.returns
returns c = laid_as (ap (λ (l : List ℕ). 46 ∷ l) (wide_low 2 c.args.t)) (laid_then c.put_byte-digits.ensures c.put_digits.ensures)
