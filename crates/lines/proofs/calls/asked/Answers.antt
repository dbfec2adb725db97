-- `lines::calls::asked` meets its contract. Assumes nothing.
use mathlib.Core.Path.{refl, sym, ◌∙◌}
use Rattle.text.specs.Places.{rest_of}
use Rattle.lines.specs.Fields.{fields_of}
use Rattle.lines.proofs.Asking.{none_gives, timediff_lays, line_none, line_named}
use Rattle.lines.proofs.calls.asked.Goals as goal

pub returns-then-not-is_plain : goal.returns-then-not-is_plain
returns-then-not-is_plain c =
    let e = line_none c.args.s.now (sym c.is_plain.ensures ∙ c.if-not-is_plain.true) in
    record { gives = none_gives _ e; room_after = rw e refl }

pub returns-in-Some-General : goal.returns-in-Some-General
returns-in-Some-General c =
    let e = line_named _ _ _ (sym c.is_plain.ensures ∙ c.if-not-is_plain.false) c.cut.ensures c.name_of.ensures in
    let x = c.in-Some-General in
    record { gives = rw (e, x.is, x.field-0-is) c.general.ensures.gives; room_after = rw (e, x.is, x.field-0-is) c.general.ensures.room_after }

pub returns-in-Some-Strftime : goal.returns-in-Some-Strftime
returns-in-Some-Strftime c =
    let e = line_named _ _ _ (sym c.is_plain.ensures ∙ c.if-not-is_plain.false) c.cut.ensures c.name_of.ensures in
    let x = c.in-Some-Strftime in
    record { gives = rw (e, x.is, x.field-0-is) c.strftime.ensures.gives; room_after = rw (e, x.is, x.field-0-is) c.strftime.ensures.room_after }

pub returns-in-Some-Timediff : goal.returns-in-Some-Timediff
returns-in-Some-Timediff c =
    let e = line_named _ _ _ (sym c.is_plain.ensures ∙ c.if-not-is_plain.false) c.cut.ensures c.name_of.ensures in
    let x = c.in-Some-Timediff in
    record { gives = rw (e, x.is, x.field-0-is) c.timediff.ensures; room_after = rw (e, x.is, x.field-0-is) (timediff_lays (fields_of (rest_of c.cut.result.1)) _) }

pub returns-in-None : goal.returns-in-None
returns-in-None c =
    let e = line_named _ _ _ (sym c.is_plain.ensures ∙ c.if-not-is_plain.false) c.cut.ensures c.name_of.ensures in
    record { gives = none_gives _ (e ∙ rw c.in-None.is); room_after = rw (e, c.in-None.is) refl }
