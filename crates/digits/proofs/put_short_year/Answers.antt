-- `digits::put_short_year` meets its contract. Assumes nothing.
use mathlib.Core.Path.{sym}
use Rattle.digits.proofs.Texts.{short_plain, short_century, short_minus}
use Rattle.digits.proofs.Buffer.{room_as, laid_as}
use Rattle.digits.proofs.put_short_year.Goals as goal

pub put_digits-requires-clause-room : goal.put_digits-requires-clause-room
put_digits-requires-clause-room c = room_as (short_plain _ c.if-year-ge-YEAR_0.true) c.requires

pub returns-then-year-ge-YEAR_0 : goal.returns-then-year-ge-YEAR_0
returns-then-year-ge-YEAR_0 c = laid_as (sym (short_plain _ c.if-year-ge-YEAR_0.true)) c.put_digits.ensures

pub put_digits-requires-then-back-eq0-clause-room : goal.put_digits-requires-then-back-eq0-clause-room
put_digits-requires-then-back-eq0-clause-room c = room_as (short_century _ c.if-year-ge-YEAR_0.false c.if-back-eq0.true) c.requires

pub returns-then-back-eq0 : goal.returns-then-back-eq0
returns-then-back-eq0 c = laid_as (sym (short_century _ c.if-year-ge-YEAR_0.false c.if-back-eq0.true)) c.put_digits-then-back-eq0.ensures

pub put_minus-requires : goal.put_minus-requires
put_minus-requires c = room_as (short_minus _ c.if-year-ge-YEAR_0.false c.if-back-eq0.false) c.requires

pub returns : goal.returns
returns c = laid_as (sym (short_minus _ c.if-year-ge-YEAR_0.false c.if-back-eq0.false)) c.put_minus.ensures
