-- `lines::calls::strftime` meets its contract. Assumes nothing.
use Prim.Native.Nat.{ℕ}
use mathlib.Core.List.{List, ◌∷◌}
use mathlib.Core.Path.{refl, sym, ap, ◌∙◌}
use native.Mathlib.Nat.{le_trans}
use lib.Seq.{length-take-le}
use Rattle.std.specs.Prelude.{Err}
use Rattle.std.proofs.lemmas.Result.{err_from_is_err_and}
use Rattle.rules.specs.Program.{strftime_call}
use Rattle.lines.proofs.Asking.{laid_inside, laid_are, missing_gives, strftime_gives}
use Rattle.lines.proofs.calls.strftime.Goals as goal

pub returns-in_err-format-clause-gives : goal.returns-in_err-format-clause-gives
returns-in_err-format-clause-gives c =
    let p = err_from_is_err_and c.from_residual.result c.from_residual.ensures.1 in
    missing_gives _ (strftime_call) refl (rw c.in_err-format.was at c.next_field.ensures) (p.1 ∙ ap Err p.2)

pub returns-in_err-value-clause-gives : goal.returns-in_err-value-clause-gives
returns-in_err-value-clause-gives c =
    let e = (rw c.in_ok-format.was at c.next_field.ensures) in
    rw e.0 (let p = err_from_is_err_and c.from_residual-in_err-value.result c.from_residual-in_err-value.ensures.1 in
    missing_gives _ (λ (fs : List (List ℕ)). strftime_call (c.in_ok-format.format.now ∷ fs)) refl (rw c.in_err-value.was at c.next_field-2.ensures) (p.1 ∙ ap Err p.2))

pub slice_bounds-strftime-end : goal.slice_bounds-strftime-end
slice_bounds-strftime-end c = laid_inside _ (le_trans (rw c.in_ok-value.was at c.next_field-2.ensures).1 (le_trans (rw c.in_ok-format.was at c.next_field.ensures).1 c.requires)) c.lay_modifiers-n.ensures

pub slice_bounds-strftime-end-2 : goal.slice_bounds-strftime-end-2
slice_bounds-strftime-end-2 c = sym (length-take-le _ _ (laid_inside _ (le_trans (rw c.in_ok-value.was at c.next_field-2.ensures).1 (le_trans (rw c.in_ok-format.was at c.next_field.ensures).1 c.requires)) c.lay_modifiers-n.ensures))

pub returns-clause-gives : goal.returns-clause-gives
returns-clause-gives c =
    let e = (rw c.in_ok-format.was at c.next_field.ensures) in
    let f = (rw c.in_ok-value.was at c.next_field-2.ensures) in
    strftime_gives _ _ _ _ _ (e.0 ∙ ap (λ (fs : List (List ℕ)). c.in_ok-format.format.now ∷ fs) f.0) (laid_are _ (le_trans f.1 (le_trans e.1 c.requires)) c.lay_modifiers-n.ensures) (record { is = c.strftime.ensures.value; bytes = c.strftime.ensures.out_after })
