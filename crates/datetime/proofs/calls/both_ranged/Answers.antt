-- `datetime::calls::both_ranged` meets its contract.
use Rattle.std.proofs.Common.{sym, ◌∙◌}
use Rattle.moment.specs.Held.{held}
use Rattle.datetime.proofs.Cases.{both_are, first_out, second_out}
use Rattle.datetime.proofs.calls.both_ranged.Goals as goal

pub returns-then-not-in_range : goal.returns-then-not-in_range
returns-then-not-in_range c = sym (first_out (held c.args.p) (held c.args.q) c.count_ms-p.ensures.is c.count_ms-q.ensures.is (sym c.in_range.ensures ∙ c.if-not-in_range.true))

pub returns-then-not-in_range-2 : goal.returns-then-not-in_range-2
returns-then-not-in_range-2 c =
    sym (second_out (held c.args.p) (held c.args.q) c.count_ms-p.ensures.is c.count_ms-q.ensures.is (sym c.in_range.ensures ∙ c.if-not-in_range.false) (sym c.in_range-2.ensures ∙ c.if-not-in_range-2.true))

pub returns : goal.returns
returns c = sym (both_are (held c.args.p) (held c.args.q) c.count_ms-p.ensures.is c.count_ms-q.ensures.is (sym c.in_range.ensures ∙ c.if-not-in_range.false) (sym c.in_range-2.ensures ∙ c.if-not-in_range-2.false))
