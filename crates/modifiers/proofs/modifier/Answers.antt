-- `modifiers::modifier` meets its contract.
use Rattle.std.proofs.Common.{sym, ap, ◌∙◌, arith}
use Rattle.std.proofs.lemmas.Result.{err_from_is_err_and}
use Rattle.rules.specs.Basics.{got, refuse, ◌or◌}
use Rattle.rules.specs.Modifiers.{wide_space, weekday, start_of, arithmetic}
use Rattle.rules.specs.declared.Refusal.{Refusal}
use Rattle.text.proofs.Runs.{part_all}
use Rattle.moment.specs.Held.{held}
use Rattle.moment.proofs.Chains.{no_move}
use Rattle.modifiers.proofs.Dispatch.{of_kind, of_none, rest_inside}
use Rattle.modifiers.proofs.Answers.{answered_stepped, stepped, refused, stepped_as, at_first, later}
use Rattle.modifiers.proofs.Forms.{trim_length}
use Rattle.modifiers.proofs.modifier.Goals as goal

pub returns-in_default : goal.returns-in_default
returns-in_default c = refused _ _ _ (of_none _ _ _ _ (sym c.in_default.ensures))

pub returns-in_err-first_only-in-Auto : goal.returns-in_err-first_only-in-Auto
returns-in_err-first_only-in-Auto c =
    let p = err_from_is_err_and c.from_residual.result c.from_residual.ensures.1 in
    rw (p.1, p.2) (refused _ _ _ (of_kind _ _ _ _ (sym c.in-Some.ensures ∙ ap got c.in-Auto.is) ∙ later _ _ _ c.in_err-first_only-in-Auto.ensures))

pub returns-in_ok-first_only-in-Auto : goal.returns-in_ok-first_only-in-Auto
returns-in_ok-first_only-in-Auto c = stepped _ (of_kind _ _ _ _ (sym c.in-Some.ensures ∙ ap got c.in-Auto.is) ∙ at_first _ _ c.in_ok-first_only-in-Auto.ensures) (no_move c.auto.ensures)

pub returns-in_err-first_only-in-Julianday : goal.returns-in_err-first_only-in-Julianday
returns-in_err-first_only-in-Julianday c =
    let p = err_from_is_err_and c.from_residual-in_err-first_only-in-Julianday.result c.from_residual-in_err-first_only-in-Julianday.ensures.1 in
    rw (p.1, p.2) (refused _ _ _ (of_kind _ _ _ _ (sym c.in-Some.ensures ∙ ap got c.in-Julianday.is) ∙ later _ _ _ c.in_err-first_only-in-Julianday.ensures))

pub returns-in_ok-first_only-in-Julianday : goal.returns-in_ok-first_only-in-Julianday
returns-in_ok-first_only-in-Julianday c = stepped_as _ (of_kind _ _ _ _ (sym c.in-Some.ensures ∙ ap got c.in-Julianday.is) ∙ at_first _ _ c.in_ok-first_only-in-Julianday.ensures) (answered_stepped c.julian.ensures)

pub returns-in_err-first_only-in-Unixepoch : goal.returns-in_err-first_only-in-Unixepoch
returns-in_err-first_only-in-Unixepoch c =
    let p = err_from_is_err_and c.from_residual-in_err-first_only-in-Unixepoch.result c.from_residual-in_err-first_only-in-Unixepoch.ensures.1 in
    rw (p.1, p.2) (refused _ _ _ (of_kind _ _ _ _ (sym c.in-Some.ensures ∙ ap got c.in-Unixepoch.is) ∙ later _ _ _ c.in_err-first_only-in-Unixepoch.ensures))

pub returns-in_ok-first_only-in-Unixepoch : goal.returns-in_ok-first_only-in-Unixepoch
returns-in_ok-first_only-in-Unixepoch c = stepped_as _ (of_kind _ _ _ _ (sym c.in-Some.ensures ∙ ap got c.in-Unixepoch.is) ∙ at_first _ _ c.in_ok-first_only-in-Unixepoch.ensures) (answered_stepped c.unix.ensures)

pub returns-in-Ceiling : goal.returns-in-Ceiling
returns-in-Ceiling c = stepped _ (of_kind _ _ _ _ (sym c.in-Some.ensures ∙ ap got c.in-Ceiling.is)) (no_move c.ceiling.ensures)

pub returns-in-Floor : goal.returns-in-Floor
returns-in-Floor c = stepped _ (of_kind _ _ _ _ (sym c.in-Some.ensures ∙ ap got c.in-Floor.is)) c.floor.ensures

pub returns-in-Localtime : goal.returns-in-Localtime
returns-in-Localtime c = stepped _ (of_kind _ _ _ _ (sym c.in-Some.ensures ∙ ap got c.in-Localtime.is)) c.localtime.ensures

pub returns-in-Utc : goal.returns-in-Utc
returns-in-Utc c = stepped _ (of_kind _ _ _ _ (sym c.in-Some.ensures ∙ ap got c.in-Utc.is)) c.utc.ensures

pub returns-in-Subsec : goal.returns-in-Subsec
returns-in-Subsec c = stepped _ (of_kind _ _ _ _ (sym c.in-Some.ensures ∙ ap got c.in-Subsec.is)) (no_move c.with_subsec.ensures)

pub slice_bounds-weekday-count : goal.slice_bounds-weekday-count
slice_bounds-weekday-count c = rest_inside _ _ (sym c.in-Some.ensures ∙ ap got c.in-Weekday.is)

pub slice_bounds-weekday-start : goal.slice_bounds-weekday-start
slice_bounds-weekday-start c = rest_inside _ _ (sym c.in-Some.ensures ∙ ap got c.in-Weekday.is)

pub returns-in-Weekday : goal.returns-in-Weekday
returns-in-Weekday c = stepped_as _ (of_kind _ _ _ _ (sym c.in-Some.ensures ∙ ap got c.in-Weekday.is) ∙ ap (λ l. weekday l (held c.args.p)) (sym (part_all c.args.s.now 8))) c.weekday.ensures

pub slice_bounds-start_of-count : goal.slice_bounds-start_of-count
slice_bounds-start_of-count c = rest_inside _ _ (sym c.in-Some.ensures ∙ ap got c.in-Start.is)

pub slice_bounds-start_of-start : goal.slice_bounds-start_of-start
slice_bounds-start_of-start c = rest_inside _ _ (sym c.in-Some.ensures ∙ ap got c.in-Start.is)

pub returns-in-Start : goal.returns-in-Start
returns-in-Start c = stepped_as _ (of_kind _ _ _ _ (sym c.in-Some.ensures ∙ ap got c.in-Start.is) ∙ ap (λ l. start_of l (held c.args.p)) (sym (part_all c.args.s.now 9))) (answered_stepped c.start_of.ensures)

pub arithmetic-requires : goal.arithmetic-requires
arithmetic-requires c = (rw c.trim.ensures (omega (arith, trim_length wide_space c.args.s.now, c.requires.0)), c.requires.1)

pub returns-in-Count : goal.returns-in-Count
returns-in-Count c = stepped_as _ (of_kind _ _ _ _ (sym c.in-Some.ensures ∙ ap got c.in-Count.is) ∙ ap (λ l. arithmetic l (held c.args.p) or refuse Refusal.Null) (sym c.trim.ensures)) c.arithmetic.ensures
