-- `modifiers::words::kind_of` meets its contract.
use Rattle.std.proofs.Common.{sym, ◌∙◌, arith}
use Rattle.modifiers.specs.declared.words.Kind.{Kind}
use Rattle.modifiers.proofs.Letters.{chosen, kind_none, kind_a, kind_c, kind_f, kind_j, kind_l, kind_s_lem, kind_u_lem, kind_w, kind_rest}
use Rattle.modifiers.proofs.words.kind_of.Goals as goal

pub returns-in_err-first : goal.returns-in_err-first
returns-in_err-first c = rw c.from_residual.ensures (sym (kind_none _ c.in_err-first.ensures.cases))

pub returns-in-97 : goal.returns-in-97
returns-in-97 c = chosen Kind.Auto c.then_some.ensures c.is_word.ensures ∙ sym (kind_a _ _ _ c.in_ok-first.ensures.cases.0 (sym c.lower.ensures ∙ c.in-97.is))

pub returns-in-99 : goal.returns-in-99
returns-in-99 c = chosen Kind.Ceiling c.then_some-in-99.ensures c.is_word-in-99.ensures ∙ sym (kind_c _ _ _ c.in_ok-first.ensures.cases.0 (sym c.lower.ensures ∙ c.in-99.is))

pub returns-in-102 : goal.returns-in-102
returns-in-102 c = chosen Kind.Floor c.then_some-in-102.ensures c.is_word-in-102.ensures ∙ sym (kind_f _ _ _ c.in_ok-first.ensures.cases.0 (sym c.lower.ensures ∙ c.in-102.is))

pub returns-in-106 : goal.returns-in-106
returns-in-106 c = chosen Kind.Julianday c.then_some-in-106.ensures c.is_word-in-106.ensures ∙ sym (kind_j _ _ _ c.in_ok-first.ensures.cases.0 (sym c.lower.ensures ∙ c.in-106.is))

pub returns-in-108 : goal.returns-in-108
returns-in-108 c = chosen Kind.Localtime c.then_some-in-108.ensures c.is_word-in-108.ensures ∙ sym (kind_l _ _ _ c.in_ok-first.ensures.cases.0 (sym c.lower.ensures ∙ c.in-108.is))

pub returns-in-115 : goal.returns-in-115
returns-in-115 c = c.kind_s.ensures ∙ sym (kind_s_lem _ _ _ c.in_ok-first.ensures.cases.0 (sym c.lower.ensures ∙ c.in-115.is))

pub returns-in-117 : goal.returns-in-117
returns-in-117 c = c.kind_u.ensures ∙ sym (kind_u_lem _ _ _ c.in_ok-first.ensures.cases.0 (sym c.lower.ensures ∙ c.in-117.is))

pub returns-in-119 : goal.returns-in-119
returns-in-119 c = chosen Kind.Weekday c.then_some-in-119.ensures c.starts.ensures ∙ sym (kind_w _ _ _ c.in_ok-first.ensures.cases.0 (sym c.lower.ensures ∙ c.in-119.is))

pub returns-in_default : goal.returns-in_default
returns-in_default c = chosen Kind.Count c.then_some-in_default.ensures c.is_sign_or_digit.ensures ∙ sym (kind_rest _ _ _ c.in_ok-first.ensures.cases.0 _ c.lower.ensures (omega arith))
