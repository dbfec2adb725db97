-- `calendar::date_after` meets its contract: its quotients are those of March.
use mathlib.Core.Path.{refl, sym}
use Rattle.calendar.proofs.Counting.{only, countable}
use Rattle.calendar.proofs.March.{march, spring, winter}
use Rattle.calendar.proofs.date_after.Goals as goal

pub returns-then-month-lt10 : goal.returns-then-month-lt10
returns-then-month-lt10 c = let h = march c.args.days _ _ _ _ c.requires refl refl refl refl in
    let D = spring _ _ _ h c.if-month-lt10.true in
    (sym (only _ _ _ _ D), countable _ _ _ _ D)

pub returns-else-month-lt10 : goal.returns-else-month-lt10
returns-else-month-lt10 c = let h = march c.args.days _ _ _ _ c.requires refl refl refl refl in
    let D = winter _ _ _ h c.requires c.if-month-lt10.false in
    (sym (only _ _ _ _ D), countable _ _ _ _ D)
