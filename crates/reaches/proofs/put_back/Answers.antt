-- `reaches::put_back` meets its contract.
use mathlib.Core.Path.{◌≡◌, sym, ◌∙◌}
use borrow.Author.Rules.{rules}
use lib.Seq.{length-take-le}
use Rattle.std.specs.Prelude.{Err}
use Rattle.rules.specs.Calls.{call}
use Rattle.rules.specs.declared.Function.{Function}
use Rattle.reaches.proofs.Back.{back_room, back_text, out_text, back_stops, out_stops, datetime_as_of}
use Rattle.reaches.proofs.put_back.Goals as goal

pub slice_bounds-datetime-end : goal.slice_bounds-datetime-end
slice_bounds-datetime-end c = let A = c.args in
    back_room A.set (call Function.Datetime) A.a.now A.b.now A.span.now A.out.now _ c.in_ok-n.ensures.value _ c.in_ok-n.ensures.span_after

pub slice_bounds-datetime-end-2 : goal.slice_bounds-datetime-end-2
slice_bounds-datetime-end-2 c = let A = c.args in
    sym (length-take-le _ _ (back_room A.set (call Function.Datetime) A.a.now A.b.now A.span.now A.out.now _ c.in_ok-n.ensures.value _ c.in_ok-n.ensures.span_after))

pub returns : goal.returns
returns c = let A = c.args in
    let s = c.in_ok-n.ensures in
    let d = c.datetime.ensures in
    let r = back_text A.set (call Function.Datetime) A.a.now A.b.now A.span.now A.out.now _ s.value _ s.span_after d.value in
    let o = out_text A.set (call Function.Datetime) A.a.now A.b.now A.span.now A.out.now _ s.value _ s.span_after d.out_after in
    record { value = r; span_after = s.span_after; out_after = o; as_of_a = datetime_as_of A.set A.a.now A.b.now A.span.now A.out.now r o }

pub returns-in_err-n : goal.returns-in_err-n
returns-in_err-n c = let A = c.args in
    let s = c.in_err-n.ensures in
    let e : c.from_residual.result ≡ Err c.in_err-n.field-0.0 = search rules in
    let r = e ∙ back_stops A.set (call Function.Datetime) A.a.now A.b.now A.span.now A.out.now _ s.value in
    let o = out_stops A.set (call Function.Datetime) A.a.now A.b.now A.span.now A.out.now _ s.value in
    record { value = r; span_after = s.span_after; out_after = o; as_of_a = datetime_as_of A.set A.a.now A.b.now A.span.now A.out.now r o }
