-- `digits::put_year` meets its contract. Assumes nothing.
use mathlib.Core.Path.{sym}
use Rattle.digits.proofs.Texts.{year_plain, year_minus}
use Rattle.digits.proofs.Buffer.{room_as, laid_as}
use Rattle.digits.proofs.put_year.Goals as goal

pub put_digits-requires-clause-room : goal.put_digits-requires-clause-room
put_digits-requires-clause-room c = room_as (year_plain _ _ c.if-year-ge-YEAR_0.true) c.requires.room

pub returns-then-year-ge-YEAR_0 : goal.returns-then-year-ge-YEAR_0
returns-then-year-ge-YEAR_0 c = laid_as (sym (year_plain _ _ c.if-year-ge-YEAR_0.true)) c.put_digits.ensures

pub put_minus-requires : goal.put_minus-requires
put_minus-requires c = room_as (year_minus _ _ c.if-year-ge-YEAR_0.false) c.requires.room

pub returns : goal.returns
returns c = laid_as (sym (year_minus _ _ c.if-year-ge-YEAR_0.false)) c.put_minus.ensures
