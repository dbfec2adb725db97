-- The code's record as the record of the rules, field by field.
use Rattle.rules.specs.Moments as rule
use Rattle.moment.specs.declared.Moment.{Moment}

abbrev pub held : Moment → rule.Moment
held p = record { ms = p.ms; year = p.year; month = p.month; day = p.day; hour = p.hour; minute = p.minute; second = p.second; zone = p.zone; over = p.over; counted = p.counted; dated = p.dated; timed = p.timed; raw = p.raw; failed = p.failed; subsec = p.subsec; utc = p.utc; local = p.local }
