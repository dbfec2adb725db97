-- `datetime::renewed` meets its contract.
use mathlib.Core.Path.{◌∙◌}
use Rattle.datetime.proofs.Answers.{filled, filled_anew, renewed_none}
use Rattle.datetime.proofs.renewed.Goals as goal

pub returns-then-is_empty-clause-value : goal.returns-then-is_empty-clause-value
returns-then-is_empty-clause-value c = c.renewed.ensures.is ∙ renewed_none _ _ c.if-is_empty.ensures

pub returns-then-is_empty-clause-full : goal.returns-then-is_empty-clause-full
returns-then-is_empty-clause-full c = filled_anew _ c.requires c.renewed.ensures.is

pub returns-clause-full : goal.returns-clause-full
returns-clause-full c = filled c.requires c.fill.ensures.is
