-- `modifiers::counts::by_months` meets its contract. Assumes nothing.
use Rattle.std.proofs.Common.{sym, ◌∙◌}
use Rattle.modifiers.proofs.Answers.{stepped, refused}
use Rattle.modifiers.proofs.Forms.{months_out, months_in}
use Rattle.modifiers.proofs.counts.by_months.Goals as goal

pub returns-then-not-below : goal.returns-then-not-below
returns-then-not-below c = refused _ _ _ (months_out _ _ _ _ _ (sym c.below.ensures ∙ c.if-not-below.true))

pub returns : goal.returns
returns c = stepped _ (months_in _ _ _ _ _ (sym c.below.ensures ∙ c.if-not-below.false)) c.by_months.ensures
