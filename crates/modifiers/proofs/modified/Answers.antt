-- `modifiers::modified` meets its contract.
use Rattle.std.proofs.Common.{rules, ◌≡◌, sym}
use Rattle.std.proofs.lemmas.Result.{err_from_is_err_and}
use Rattle.std.specs.Prelude.{None}
use Rattle.moment.proofs.Bounds.{after_more}
use Rattle.moment.specs.Ranges.{most_before}
use Rattle.modifiers.proofs.Walks.{going_start, short, few, going_on, going_stop, going_end}
use Rattle.modifiers.proofs.modified.Goals as goal

pub loop-s-init : goal.loop-s-init
loop-s-init c = going_start _ _ _ c.requires.0 c.requires.1

pub modifier-requires : goal.modifier-requires
modifier-requires c =
    let cut = rw c.in_default-Some.is-1 at c.cut.ensures in
    (short c.loop-s.invariant cut, after_more _ most_before _ (few c.loop-s.invariant cut) c.loop-s.invariant.after)

pub returns-in_err-q-clause-value : goal.returns-in_err-q-clause-value
returns-in_err-q-clause-value c =
    let cut = rw c.in_default-Some.is-1 at c.cut.ensures in
    let p = err_from_is_err_and c.from_residual.result c.from_residual.ensures.1 in
    rw (p.1, p.2) (sym (going_stop c.loop-s.invariant cut (sym c.in_err-q.ensures.is)))

pub loop-s-preserved : goal.loop-s-preserved
loop-s-preserved c =
    let cut = rw c.in_default-Some.is-1 at c.cut.ensures in
    let g = going_on c.loop-s.invariant cut (sym c.in_ok-q.ensures.is) (c.in_ok-q.ensures.after _ c.loop-s.invariant.after) in
    rw c.in_default-Some.is-1 g

pub returns-clause-value : goal.returns-clause-value
returns-clause-value c =
    let n : c.cut.result.1 ≡ None = search rules in
    let cut = rw n at c.cut.ensures in
    sym (going_end c.loop-s.invariant cut).0
