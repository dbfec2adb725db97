-- `modifiers::steps::on_day` meets its contract.
use Rattle.std.proofs.Common.{◌≡◌, ℕ, ◌≤◌, true, ◌&&◌, sym, ap, ◌∙◌, arith}
use lib.Ieee.{Float, le, eq}
use Rattle.rules.specs.Floats.{number, whole, within}
use Rattle.rules.specs.Modifiers.{to_weekday}
use Rattle.real.proofs.Tests.{and_left, and_right}
use Rattle.moment.specs.Held.{held}
use Rattle.moment.proofs.Chains.{moved_as}
use Rattle.modifiers.proofs.Answers.{stepped, refused, provided_then, provided_else, day_most}
use Rattle.modifiers.proofs.steps.on_day.Goals as goal

-- a day of the week, 0 to 6
few : (x : Float) (n : ℕ) → n ≡ whole x → (within (number 0) x (number 7) && eq (number (whole x)) x) ≡ true → n ≤ 6
few x n e h =
    let w = and_left (within (number 0) x (number 7)) _ h in
    let l = day_most x (and_right (le (number 0) x) _ w) in
    omega arith

pub returns-then-not-is_day : goal.returns-then-not-is_day
returns-then-not-is_day c = refused _ _ _ (provided_else _ (sym c.is_day.ensures ∙ c.if-not-is_day.true))

pub overflow_cast-whole : goal.overflow_cast-whole
overflow_cast-whole c = let h = few c.args.x c.whole.result c.whole.ensures (sym c.is_day.ensures ∙ c.if-not-is_day.false) in omega arith

pub to_weekday-requires : goal.to_weekday-requires
to_weekday-requires c = (c.requires, few c.args.x c.whole.result c.whole.ensures (sym c.is_day.ensures ∙ c.if-not-is_day.false))

pub returns : goal.returns
returns c = stepped _ (provided_then _ (sym c.is_day.ensures ∙ c.if-not-is_day.false)) (moved_as (ap (λ n. to_weekday n (held c.args.p)) c.whole.ensures) c.to_weekday.ensures)
