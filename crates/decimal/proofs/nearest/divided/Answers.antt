-- `decimal::nearest::divided` meets its contract.
use Rattle.std.proofs.Common.{◌∙◌, le_trans, arith}
use native.Mathlib.Nat.{one-le-pow}
use lib.Dec.{lit≤}
use Rattle.decimal.proofs.nearest.Powers.{five_le}
use Rattle.decimal.proofs.nearest.Joined.{below_is}
use Rattle.decimal.proofs.nearest.divided.Goals as goal

pub pow-requires : goal.pow-requires
pow-requires c = omega (arith, five_le c.args.k c.requires.1)

pub quotient-q-requires : goal.quotient-q-requires
quotient-q-requires c = rw c.pow.ensures (c.lead-n.ensures.full, one-le-pow c.args.k 5 (lit≤ tt), le_trans (five_le c.args.k c.requires.1) (lit≤ tt))

pub returns : goal.returns
returns c = c.pack.ensures ∙ below_is _ _ _ c.args.k _ _ _ c.lead-n.ensures (rw c.pow.ensures at c.quotient-q.ensures) c.requires.1
