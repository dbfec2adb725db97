-- `modifiers::counts::unit_step` meets its contract.
use Rattle.std.proofs.Common.{ap, ◌∙◌}
use Rattle.std.proofs.lemmas.Result.{err_from_is_err_and}
use Rattle.rules.specs.Decimal.{decimal}
use Rattle.rules.specs.Modifiers.{or_null}
use Rattle.modifiers.specs.Words.{unit_after}
use Rattle.modifiers.proofs.Answers.{refused, stepped_as}
use Rattle.modifiers.proofs.Forms.{unit_not, unit_read, unit_unread}
use Rattle.modifiers.proofs.counts.unit_step.Goals as goal

pub returns-in_err-n : goal.returns-in_err-n
returns-in_err-n c =
    let p = err_from_is_err_and c.from_residual.result c.from_residual.ensures.1 in
    rw (p.1, p.2) (refused _ _ _ (unit_not _ _ _ (c.in_err-n.ensures ∙ ap (λ s. or_null (decimal s)) c.split_word.ensures.word)))

pub returns-in-Some : goal.returns-in-Some
returns-in-Some c = stepped_as _ (unit_read _ _ _ (c.in_ok-n.ensures ∙ ap (λ s. or_null (decimal s)) c.split_word.ensures.word) _ (c.in-Some.ensures ∙ ap unit_after c.split_word.ensures.rest)) c.by_unit.ensures

pub returns-in-None : goal.returns-in-None
returns-in-None c = refused _ _ _ (unit_unread _ _ _ (c.in_ok-n.ensures ∙ ap (λ s. or_null (decimal s)) c.split_word.ensures.word) (c.in-None.ensures ∙ ap unit_after c.split_word.ensures.rest))
