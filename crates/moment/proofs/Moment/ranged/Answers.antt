-- `moment::Moment::ranged` meets its contract.
use mathlib.Core.Path.{sym, ap, ◌∙◌}
use Rattle.moment.specs.Held.{held}
use Rattle.moment.proofs.Chains.{answered, refused}
use Rattle.moment.proofs.Modifiers.{passes, range_out, range_passed, range_lands}
use Rattle.moment.proofs.Moment.ranged.Goals as goal

pub returns-then-not-in_range : goal.returns-then-not-in_range
returns-then-not-in_range c = let e = ap passes (sym c.count_ms-p.ensures.is) ∙ sym c.in_range.ensures ∙ c.if-not-in_range.true in
    (refused _ _ _ (range_out (held c.args.self) e), tt)

pub returns : goal.returns
returns c = let p = held c.args.self in
    let e = sym c.in_range.ensures ∙ c.if-not-in_range.false in
    let f = ap passes (sym c.count_ms-p.ensures.is) ∙ e in
    (answered (range_passed p f) c.count_ms-p.ensures, range_lands p _ c.count_ms-p.ensures.is e)
