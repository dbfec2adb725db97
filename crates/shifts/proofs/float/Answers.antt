use Rattle.std.proofs.Common.{arith}
use Rattle.std.specs.Float.{binary64}
use Rattle.std.specs.Float.Ieee.{to_bits}
use Rattle.digits.proofs.Hex.{length_hex}
use Rattle.shifts.proofs.float.Goals as goal

pub put_hex-requires-clause-room : goal.put_hex-requires-clause-room
put_hex-requires-clause-room c = record { fits = omega (arith, length_hex 16 (to_bits binary64 c.args.x)) }
