-- `modifiers::words::unit_of` meets its contract.
use Rattle.std.proofs.Common.{sym, ◌∙◌, arith}
use Rattle.modifiers.specs.declared.words.Unit.{Unit}
use Rattle.modifiers.proofs.Letters.{chosen, unit_none, unit_d, unit_h, unit_m_lem, unit_s, unit_y, unit_rest}
use Rattle.modifiers.proofs.words.unit_of.Goals as goal

pub returns-in_err-first : goal.returns-in_err-first
returns-in_err-first c = rw c.from_residual.ensures (sym (unit_none _ c.in_err-first.ensures.cases))

pub returns-in-100 : goal.returns-in-100
returns-in-100 c = chosen Unit.Day c.then_some.ensures c.is_unit.ensures ∙ sym (unit_d _ _ _ c.in_ok-first.ensures.cases.0 (sym c.lower.ensures ∙ c.in-100.is))

pub returns-in-104 : goal.returns-in-104
returns-in-104 c = chosen Unit.Hour c.then_some-in-104.ensures c.is_unit-in-104.ensures ∙ sym (unit_h _ _ _ c.in_ok-first.ensures.cases.0 (sym c.lower.ensures ∙ c.in-104.is))

pub returns-in-115 : goal.returns-in-115
returns-in-115 c = chosen Unit.Second c.then_some-in-115.ensures c.is_unit-in-115.ensures ∙ sym (unit_s _ _ _ c.in_ok-first.ensures.cases.0 (sym c.lower.ensures ∙ c.in-115.is))

pub returns-in-121 : goal.returns-in-121
returns-in-121 c = chosen Unit.Year c.then_some-in-121.ensures c.is_unit-in-121.ensures ∙ sym (unit_y _ _ _ c.in_ok-first.ensures.cases.0 (sym c.lower.ensures ∙ c.in-121.is))

pub returns-in-109 : goal.returns-in-109
returns-in-109 c = c.unit_m.ensures ∙ sym (unit_m_lem _ _ _ c.in_ok-first.ensures.cases.0 (sym c.lower.ensures ∙ c.in-109.is))

pub returns-in_default : goal.returns-in_default
returns-in_default c = sym (unit_rest _ _ _ c.in_ok-first.ensures.cases.0 _ c.lower.ensures (omega arith))
