-- `digits::put_integer` meets its contract. Assumes nothing.
use mathlib.Core.Path.{sym}
use Rattle.digits.proofs.Signs.{minus_text, plain_text}
use Rattle.digits.proofs.Buffer.{room_as, laid_as}
use Rattle.digits.proofs.put_integer.Goals as goal

pub put_minus-requires : goal.put_minus-requires
put_minus-requires c = room_as (minus_text c.args.n c.ranges.n _ c.unsigned_abs.ensures.value c.if-n-lt0.true) c.requires

pub returns-then-n-lt0 : goal.returns-then-n-lt0
returns-then-n-lt0 c = laid_as (sym (minus_text c.args.n c.ranges.n _ c.unsigned_abs.ensures.value c.if-n-lt0.true)) c.put_minus.ensures

pub put_number-requires : goal.put_number-requires
put_number-requires c = room_as (plain_text c.args.n c.ranges.n _ c.unsigned_abs-2.ensures.value c.if-n-lt0.false) c.requires

pub returns : goal.returns
returns c = laid_as (sym (plain_text c.args.n c.ranges.n _ c.unsigned_abs-2.ensures.value c.if-n-lt0.false)) c.put_number.ensures
