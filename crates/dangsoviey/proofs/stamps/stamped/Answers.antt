-- `dangsoviey::stamps::stamped` meets its contract.
use Prim.Native.Nat.{ℕ}
use mathlib.Core.Bool.{true}
use mathlib.Core.Path.{◌≡◌, sym, ap, ◌∙◌, subst}
use Rattle.rules.specs.Moments.{Moment, blank, counted, set_utc, set_subsec, fill}
use Rattle.calendar.specs.Ranges.{InRange}
use Rattle.moment.specs.Ranges.{After, Full}
use Rattle.moment.proofs.Bounds.{fill_full}
use Rattle.dangsoviey.proofs.stamps.stamped.Goals as goal

-- the record of an instant, filled, can be written
full : (t : ℕ) {p q : Moment} → InRange t → After 0 p → p ≡ set_subsec (set_utc (counted blank t)) true → q ≡ fill p → Full q
full t {p} r a k h = subst (λ (x : Moment). Full x) (sym h) (fill_full 0 p a (record { ranged = subst (λ (x : Moment). InRange x.ms) (sym k) r; stands = ap (λ (x : Moment). x.counted) k }))

pub returns-clause-full : goal.returns-clause-full
returns-clause-full c = full c.args.at.ms c.args.at.in_range (c.with_subsec.ensures.after 0 c.at.ensures.1) (c.with_subsec.ensures.is ∙ ap (λ (p : Moment). set_subsec p true) c.at.ensures.0) c.fill.ensures.is
