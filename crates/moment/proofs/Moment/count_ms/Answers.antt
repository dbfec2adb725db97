-- `moment::Moment::count_ms` meets its contract.
use mathlib.Core.Path.{sym, ◌∙◌}
use Rattle.moment.specs.Held.{held}
use Rattle.moment.proofs.Bounds.{count_kept}
use Rattle.moment.proofs.Chains.{filled, sane_of}
use Rattle.moment.proofs.Steps.{already}
use Rattle.moment.proofs.Sums.{date_asked, time_asked, count_sums, count_fails}
use Rattle.moment.proofs.Moment.count_ms.Goals as goal

pub returns-then-self : goal.returns-then-self
returns-then-self c = filled _ (count_kept (held c.args.self)) (sym (already (held c.args.self) c.if-self.true))

pub returns-then-not-summable : goal.returns-then-not-summable
returns-then-not-summable c = let p = held c.args.self in
    filled _ (count_kept p) (c.failure.ensures ∙ count_fails p _ c.date_meant-d.ensures c.if-self.false (sym c.summable.ensures ∙ c.if-not-summable.true))

pub instant-ms-requires : goal.instant-ms-requires
instant-ms-requires c = let p = held c.args.self in record { countable = date_asked p _ c.date_meant-d.ensures (sane_of c.args.self) (sym c.summable.ensures ∙ c.if-not-summable.false); time_in = time_asked p _ c.time_meant-t.ensures (sane_of c.args.self) }

pub returns : goal.returns
returns c = let p = held c.args.self in
    filled _ (count_kept p)
    (c.summed.ensures
    ∙ count_sums p _ _ _ c.date_meant-d.ensures c.time_meant-t.ensures c.instant-ms.ensures c.if-self.false (sym c.summable.ensures ∙ c.if-not-summable.false))
