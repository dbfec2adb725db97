-- `lines::clock::number_of` meets its contract. Assumes nothing.
use mathlib.Core.Path.{sym, ◌∙◌}
use native.Mathlib.Omega.{arith}
use borrow.Author.Tests.{eqb-true, eqb-false}
use lib.ListN.{drop_of_length-le}
use Rattle.lines.proofs.Numbers.{number_none, number_start, number_on, number_stop, number_over, number_end}
use Rattle.lines.proofs.clock.number_of.Goals as goal

pub returns-then-is_empty-clause-value : goal.returns-then-is_empty-clause-value
returns-then-is_empty-clause-value c = sym (number_none _ _ (eqb-true _ _ (sym c.is_empty.ensures ∙ c.if-is_empty.true)))

pub loop-b-init : goal.loop-b-init
loop-b-init c = record { value = number_start _ _ (eqb-false _ _ (sym c.is_empty.ensures ∙ c.if-is_empty.false)); at_most = omega arith }

pub returns-then-not-is_digit-clause-value : goal.returns-then-not-is_digit-clause-value
returns-then-not-is_digit-clause-value c = sym (c.loop-b.invariant.value ∙ number_stop _ _ _ _ c.loop-b-test.true (sym c.is_digit.ensures ∙ c.if-not-is_digit.true))

pub returns-then-most-n-clause-value : goal.returns-then-most-n-clause-value
returns-then-most-n-clause-value c = sym (c.loop-b.invariant.value ∙ number_on _ _ _ _ c.loop-b-test.true _ (sym c.is_digit.ensures ∙ c.if-not-is_digit.false) c.from.ensures ∙ number_over _ _ _ c.if-most-n.true)

pub loop-b-preserved : goal.loop-b-preserved
loop-b-preserved c = record { value = c.loop-b.invariant.value ∙ number_on _ _ _ _ c.loop-b-test.true _ (sym c.is_digit.ensures ∙ c.if-not-is_digit.false) c.from.ensures; at_most = c.if-most-n.false }

pub returns-clause-value : goal.returns-clause-value
returns-clause-value c =
    let i = c.loop-b.invariant in
    sym (i.value ∙ rw (drop_of_length-le c.args.s.now c.loop-b-test.false) (number_end _ _ i.at_most))
