-- `moment::Moment::by_date` meets its contract.
use mathlib.Core.Bool.{false}
use mathlib.Core.Path.{sym, ap, ◌∙◌, subst}
use mir.Syntax.{w64}
use mir.ValLaws.{to_z-of_z}
use Rattle.rules.specs.Moments.{Moment, count_ms, set_counted}
use Rattle.moment.specs.Held.{held}
use Rattle.moment.specs.Ranges.{ReadYear, most_before}
use Rattle.moment.proofs.Bounds.{fill_year}
use Rattle.moment.proofs.Chains.{fresh_movable, fresh_move, moved_as, shifted, shifted_uncounted}
use Rattle.moment.proofs.Modifiers.{step}
use Rattle.moment.proofs.Moment.by_date.Goals as goal

pub shift-requires : goal.shift-requires
shift-requires c = let u = c.uncounted.ensures in
    let year = subst (λ (p : Moment). ReadYear p.year) (sym (u.is ∙ ap (λ (q : Moment). set_counted q false) c.fill.ensures.is)) (fill_year most_before (held c.args.self) c.requires.0) in
    rw (to_z-of_z w64 _ c.ranges.months) (year, c.requires.1)

pub moved-requires : goal.moved-requires
moved-requires c = let e = shifted_uncounted _ c.fill.ensures c.uncounted.ensures c.shift.ensures c.past_end.ensures in
    (fresh_movable e c.count_ms.ensures, rw (to_z-of_z w64 _ c.ranges.ms) c.requires.2)

pub returns : goal.returns
returns c = let z = c.args.months in
    let k = rw (to_z-of_z w64 _ c.ranges.months) at c.shift.ensures in
    let e = shifted_uncounted z c.fill.ensures c.uncounted.ensures k c.past_end.ensures in
    let g = step c.args.ms in
    moved_as (ap (λ (q : Moment). g (count_ms q)) (shifted z c.fill.ensures c.uncounted.ensures k c.past_end.ensures)) (fresh_move e c.count_ms.ensures c.args.self g (rw (to_z-of_z w64 _ c.ranges.ms) at c.moved.ensures))
