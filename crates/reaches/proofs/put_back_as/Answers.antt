-- `reaches::put_back_as` meets its contract.
use mathlib.Core.Path.{◌≡◌, sym, ◌∙◌}
use borrow.Author.Rules.{rules}
use lib.Seq.{length-take-le}
use Rattle.std.specs.Prelude.{Err}
use Rattle.rules.specs.Calls.{strftime}
use Rattle.reaches.proofs.Back.{back_room, back_text, out_text, back_stops, out_stops, format_as_of}
use Rattle.reaches.proofs.put_back_as.Goals as goal

pub slice_bounds-strftime-end : goal.slice_bounds-strftime-end
slice_bounds-strftime-end c = let A = c.args in
    back_room A.set (strftime A.format.now) A.a.now A.b.now A.span.now A.out.now _ c.in_ok-n.ensures.value _ c.in_ok-n.ensures.span_after

pub slice_bounds-strftime-end-2 : goal.slice_bounds-strftime-end-2
slice_bounds-strftime-end-2 c = let A = c.args in
    sym (length-take-le _ _ (back_room A.set (strftime A.format.now) A.a.now A.b.now A.span.now A.out.now _ c.in_ok-n.ensures.value _ c.in_ok-n.ensures.span_after))

pub returns : goal.returns
returns c = let A = c.args in
    let s = c.in_ok-n.ensures in
    let d = c.strftime.ensures in
    let r = back_text A.set (strftime A.format.now) A.a.now A.b.now A.span.now A.out.now _ s.value _ s.span_after d.value in
    let o = out_text A.set (strftime A.format.now) A.a.now A.b.now A.span.now A.out.now _ s.value _ s.span_after d.out_after in
    record { value = r; span_after = s.span_after; out_after = o; as_of_a = format_as_of A.set A.a.now A.b.now A.span.now A.out.now A.format.now r o }

pub returns-in_err-n : goal.returns-in_err-n
returns-in_err-n c = let A = c.args in
    let s = c.in_err-n.ensures in
    let e : c.from_residual.result ≡ Err c.in_err-n.field-0.0 = search rules in
    let r = e ∙ back_stops A.set (strftime A.format.now) A.a.now A.b.now A.span.now A.out.now _ s.value in
    let o = out_stops A.set (strftime A.format.now) A.a.now A.b.now A.span.now A.out.now _ s.value in
    record { value = r; span_after = s.span_after; out_after = o; as_of_a = format_as_of A.set A.a.now A.b.now A.span.now A.out.now A.format.now r o }
