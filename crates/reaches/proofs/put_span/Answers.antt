-- `reaches::put_span` meets its contract.
use mathlib.Core.Path.{ap, ◌∙◌}
use native.Mathlib.Omega.{arith}
use Rattle.std.specs.Prelude.{Ok, Err}
use Rattle.reaches.proofs.Back.{said, text_index, text_small, text_put, short_small, short_put, refused_put, no_integer, no_real}
use Rattle.reaches.proofs.put_span.Goals as goal

pub bounds-span-n : goal.bounds-span-n
bounds-span-n c = let t = c.timediff.ensures in
    let a = c.in-Ok-Text in
    text_index _ _ _ _ _ (said _ _ _) c.saturating_sub-room.ensures t.value t.out_after _ (a.is ∙ ap Ok a.field-0-is)

pub overflow_add-result : goal.overflow_add-result
overflow_add-result c = let t = c.timediff.ensures in
    let a = c.in-Ok-Text in
    omega (arith, text_small _ _ _ _ _ (said _ _ _) c.saturating_sub-room.ensures t.value t.out_after _ (a.is ∙ ap Ok a.field-0-is))

pub unreachable-requires : goal.unreachable-requires
unreachable-requires c = let t = c.timediff.ensures in
    let a = c.in-Ok-Integer in
    no_integer _ _ _ _ _ (said _ _ _) c.saturating_sub-room.ensures t.value t.out_after _ (a.is ∙ ap Ok a.field-0-is)

pub unreachable-requires-in-Ok-Real : goal.unreachable-requires-in-Ok-Real
unreachable-requires-in-Ok-Real c = let t = c.timediff.ensures in
    let a = c.in-Ok-Real in
    no_real _ _ _ _ _ (said _ _ _) c.saturating_sub-room.ensures t.value t.out_after _ (a.is ∙ ap Ok a.field-0-is)

pub overflow_add-result-in-Err-NoRoom : goal.overflow_add-result-in-Err-NoRoom
overflow_add-result-in-Err-NoRoom c = let t = c.timediff.ensures in
    let a = c.in-Err-NoRoom in
    omega (arith, short_small _ _ _ _ _ (said _ _ _) c.saturating_sub-room.ensures t.value t.out_after _ (a.is ∙ ap Err a.field-0-is))

pub returns-in-Ok-Text : goal.returns-in-Ok-Text
returns-in-Ok-Text c = let t = c.timediff.ensures in
    let a = c.in-Ok-Text in
    let r = text_put _ _ _ _ _ (said _ _ _) c.saturating_sub-room.ensures t.value t.out_after _ (a.is ∙ ap Ok a.field-0-is) in
    record { value = r.0; span_after = r.1 }

pub returns-in-Err-NoRoom : goal.returns-in-Err-NoRoom
returns-in-Err-NoRoom c = let t = c.timediff.ensures in
    let a = c.in-Err-NoRoom in
    let r = short_put _ _ _ _ _ (said _ _ _) c.saturating_sub-room.ensures t.value t.out_after _ (a.is ∙ ap Err a.field-0-is) in
    record { value = r.0; span_after = r.1 }

pub returns-in-Err-Refused : goal.returns-in-Err-Refused
returns-in-Err-Refused c = let t = c.timediff.ensures in
    let a = c.in-Err-Refused in
    let r = refused_put _ _ _ _ _ (said _ _ _) c.saturating_sub-room.ensures t.value t.out_after _ (a.is ∙ ap Err a.field-0-is) in
    record { value = r.0; span_after = r.1 }
