-- `modifiers::steps::start_of` meets its contract. Assumes nothing.
use Rattle.std.proofs.Common.{sym, ◌∙◌}
use Rattle.moment.proofs.Chains.{answered, refused}
use Rattle.modifiers.proofs.Dispatch.{start_not, start_day, start_month, start_year, start_none}
use Rattle.modifiers.proofs.steps.start_of.Goals as goal

pub returns-then-not-stands : goal.returns-then-not-stands
returns-then-not-stands c = refused _ _ _ (start_not _ _ (sym c.stands.ensures ∙ c.if-not-stands.true))

pub returns-then-is_word : goal.returns-then-is_word
returns-then-is_word c = answered (start_day _ _ (sym c.stands.ensures ∙ c.if-not-stands.false) (sym c.is_word.ensures ∙ c.if-is_word.true)) c.start_of_day.ensures

pub returns-then-is_word-2 : goal.returns-then-is_word-2
returns-then-is_word-2 c = answered (start_month _ _ (sym c.stands.ensures ∙ c.if-not-stands.false) (sym c.is_word.ensures ∙ c.if-is_word.false) (sym c.is_word-2.ensures ∙ c.if-is_word-2.true)) c.start_of_month.ensures

pub returns-then-is_word-3 : goal.returns-then-is_word-3
returns-then-is_word-3 c = answered (start_year _ _ (sym c.stands.ensures ∙ c.if-not-stands.false) (sym c.is_word.ensures ∙ c.if-is_word.false) (sym c.is_word-2.ensures ∙ c.if-is_word-2.false) (sym c.is_word-3.ensures ∙ c.if-is_word-3.true)) c.start_of_year.ensures

pub returns : goal.returns
returns c = refused _ _ _ (start_none _ _ (sym c.is_word.ensures ∙ c.if-is_word.false) (sym c.is_word-2.ensures ∙ c.if-is_word-2.false) (sym c.is_word-3.ensures ∙ c.if-is_word-3.false))
