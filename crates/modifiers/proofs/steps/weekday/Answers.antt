-- `modifiers::steps::weekday` meets its contract.
use Rattle.std.proofs.Common.{ap, ◌∙◌}
use Rattle.std.proofs.lemmas.Result.{err_from_is_err_and}
use Rattle.rules.specs.Decimal.{decimal}
use Rattle.rules.specs.Modifiers.{or_null}
use Rattle.modifiers.proofs.Answers.{refused, stepped_as, weekday_not, weekday_is}
use Rattle.modifiers.proofs.steps.weekday.Goals as goal

pub returns-in_err-x : goal.returns-in_err-x
returns-in_err-x c =
    let p = err_from_is_err_and c.from_residual.result c.from_residual.ensures.1 in
    rw (p.1, p.2) (refused _ _ _ (weekday_not _ _ _ (c.in_err-x.ensures ∙ ap (λ s. or_null (decimal s)) c.trim.ensures)))

pub returns : goal.returns
returns c = stepped_as _ (weekday_is _ _ _ (c.in_ok-x.ensures ∙ ap (λ s. or_null (decimal s)) c.trim.ensures)) c.on_day.ensures
