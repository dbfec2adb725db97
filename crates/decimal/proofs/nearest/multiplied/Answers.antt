-- `decimal::nearest::multiplied` meets its contract.
use Rattle.std.proofs.Common.{◌∙◌, le_trans, arith}
use native.Mathlib.Nat.{one-le-pow, le-mul_of_pos_right}
use lib.Dec.{lit≤}
use Rattle.decimal.proofs.nearest.Powers.{five_le}
use Rattle.decimal.proofs.nearest.Joined.{above_is}
use Rattle.decimal.proofs.nearest.multiplied.Goals as goal

pub pow-requires : goal.pow-requires
pow-requires c = omega (arith, five_le c.args.k c.requires.1)

pub narrow-q-requires : goal.narrow-q-requires
narrow-q-requires c = rw (c.from.ensures, c.from-2.ensures, c.pow.ensures) (le_trans c.lead-n.ensures.full (le-mul_of_pos_right c.lead-n.result.0 (one-le-pow c.args.k 5 (lit≤ tt))))

pub returns : goal.returns
returns c = c.pack.ensures ∙ above_is _ _ _ c.args.k _ _ _ _ c.lead-n.ensures (rw (c.from.ensures, c.from-2.ensures, c.pow.ensures)) c.narrow-q.ensures c.requires.1
