use Rattle.std.proofs.Common.{sym, ◌∙◌}
use Rattle.std.proofs.Math.ListN.{drop_of_length-le}
use Rattle.rows.proofs.Numbers.{goes_on, stops, too_large, ended}
use Rattle.rows.proofs.number.Goals as goal

pub returns-then-not-is_digit-clause-value : goal.returns-then-not-is_digit-clause-value
returns-then-not-is_digit-clause-value c = sym (c.loop-b.invariant.value ∙ stops _ _ _ _ c.loop-b-test.true (sym c.is_digit.ensures ∙ c.if-not-is_digit.true))

pub returns-then-limit-more-clause-value : goal.returns-then-limit-more-clause-value
returns-then-limit-more-clause-value c = sym (c.loop-b.invariant.value ∙ too_large _ _ _ _ c.loop-b-test.true c.if-limit-more.true)

pub loop-b-preserved : goal.loop-b-preserved
loop-b-preserved c = record {
  value = c.loop-b.invariant.value ∙ goes_on _ _ _ _ c.loop-b-test.true (sym c.is_digit.ensures ∙ c.if-not-is_digit.false) c.if-limit-more.false;
  within = c.if-limit-more.false;
}

pub returns-clause-value : goal.returns-clause-value
returns-clause-value c = sym (c.loop-b.invariant.value ∙ rw (drop_of_length-le c.args.s.now c.loop-b-test.false) (ended _ _))
