-- `lines::calls::general` meets its contract. Assumes nothing.
use Prim.Native.Nat.{ℕ}
use mathlib.Core.List.{List}
use mathlib.Core.Path.{refl, sym, ap, ◌∙◌}
use native.Mathlib.Nat.{le_trans}
use lib.Seq.{length-take-le}
use Rattle.std.specs.Prelude.{Err}
use Rattle.std.proofs.lemmas.Result.{err_from_is_err_and}
use Rattle.rules.specs.Program.{general_call}
use Rattle.lines.proofs.Asking.{laid_inside, laid_are, missing_gives, general_gives}
use Rattle.lines.proofs.calls.general.Goals as goal

pub returns-in_err-value-clause-gives : goal.returns-in_err-value-clause-gives
returns-in_err-value-clause-gives c =
    let p = err_from_is_err_and c.from_residual.result c.from_residual.ensures.1 in
    missing_gives _ (λ (fs : List (List ℕ)). general_call fs c.args.f) refl (rw c.in_err-value.was at c.next_field.ensures) (p.1 ∙ ap Err p.2)

pub slice_bounds-call-end : goal.slice_bounds-call-end
slice_bounds-call-end c = laid_inside _ (le_trans (rw c.in_ok-value.was at c.next_field.ensures).1 c.requires) c.lay_modifiers-n.ensures

pub slice_bounds-call-end-2 : goal.slice_bounds-call-end-2
slice_bounds-call-end-2 c = sym (length-take-le _ _ (laid_inside _ (le_trans (rw c.in_ok-value.was at c.next_field.ensures).1 c.requires) c.lay_modifiers-n.ensures))

pub returns-clause-gives : goal.returns-clause-gives
returns-clause-gives c =
    let e = (rw c.in_ok-value.was at c.next_field.ensures) in
    general_gives _ _ _ _ _ e.0 (laid_are _ (le_trans e.1 c.requires) c.lay_modifiers-n.ensures) c.call.ensures
