-- `moment::Moment::fill_time` meets its contract.
use mathlib.Core.Path.{sym, ap, ◌∙◌}
use Prim.Native.Nat.{ℕ}
use Rattle.rules.specs.Calendar.{time_of_day}
use Rattle.rules.specs.Moments.{Moment, on_time}
use Rattle.moment.specs.Held.{held}
use Rattle.moment.proofs.Bounds.{fill_time_kept}
use Rattle.moment.proofs.Chains.{filled}
use Rattle.moment.proofs.Steps.{time_stands, time_filled}
use Rattle.moment.proofs.Moment.fill_time.Goals as goal

pub returns-then-self : goal.returns-then-self
returns-then-self c = filled _ (fill_time_kept (held c.args.self)) (sym (time_stands (held c.args.self) c.if-self.true))

pub returns : goal.returns
returns c = let q = c.count_ms-p in
    filled _ (fill_time_kept (held c.args.self))
    (c.on_time.ensures
    ∙ ap (λ (t : ℕ). on_time (held q.result) t) c.time_of_day.ensures.0
    ∙ ap (λ (p : Moment). on_time p (time_of_day p.ms)) q.ensures.is
    ∙ sym (time_filled (held c.args.self) c.if-self.false))
