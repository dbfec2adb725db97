-- `digits::put_bytes` meets its contract. Assumes nothing.
use native.Mathlib.Omega.{arith}
use Rattle.digits.proofs.Buffer.{laid_copy}
use Rattle.digits.proofs.put_bytes.Goals as goal

pub returns : goal.returns
returns c = laid_copy _ _ _ _ _ (omega arith) c.requires.fits c.copy_from_slice.ensures.after
