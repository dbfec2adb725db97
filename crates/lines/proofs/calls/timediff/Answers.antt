-- `lines::calls::timediff` meets its contract. Assumes nothing.
use Prim.Native.Nat.{ℕ}
use mathlib.Core.List.{List, ◌∷◌}
use mathlib.Core.Path.{refl, ap, ◌∙◌}
use Rattle.std.specs.Prelude.{Err}
use Rattle.std.proofs.lemmas.Result.{err_from_is_err_and}
use Rattle.rules.specs.Program.{timediff_call}
use Rattle.lines.proofs.Asking.{none_gives, missing_gives, timediff_gives, timediff_more}
use Rattle.lines.proofs.calls.timediff.Goals as goal

pub returns-in_err-first : goal.returns-in_err-first
returns-in_err-first c =
    let p = err_from_is_err_and c.from_residual.result c.from_residual.ensures.1 in
    missing_gives _ (timediff_call) refl (rw c.in_err-first.was at c.next_field.ensures) (p.1 ∙ ap Err p.2)

pub returns-in_err-second : goal.returns-in_err-second
returns-in_err-second c =
    let e = (rw c.in_ok-first.was at c.next_field.ensures) in
    rw e.0 (let p = err_from_is_err_and c.from_residual-in_err-second.result c.from_residual-in_err-second.ensures.1 in
    missing_gives _ (λ (fs : List (List ℕ)). timediff_call (c.in_ok-first.first.now ∷ fs)) refl (rw c.in_err-second.was at c.next_field-2.ensures) (p.1 ∙ ap Err p.2))

pub returns-in-None : goal.returns-in-None
returns-in-None c =
    let e = (rw c.in_ok-first.was at c.next_field.ensures) in
    let f = (rw c.in_ok-second.was at c.next_field-2.ensures) in
    timediff_gives _ _ _ (e.0 ∙ ap (λ (fs : List (List ℕ)). c.in_ok-first.first.now ∷ fs) (rw c.in-None.is at f.0)) (record { is = c.timediff.ensures.value; bytes = c.timediff.ensures.out_after })

pub returns-in-Some : goal.returns-in-Some
returns-in-Some c =
    let e = (rw c.in_ok-first.was at c.next_field.ensures) in
    let f = (rw c.in_ok-second.was at c.next_field-2.ensures) in
    rw (e.0, f.0, c.in-Some.is) (none_gives _ (timediff_more _ _ _))
