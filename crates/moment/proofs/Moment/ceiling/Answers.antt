-- `moment::Moment::ceiling` meets its contract.
use Rattle.rules.specs.Moments.{clear, set_over}
use Rattle.rules.specs.Modifiers.{ceiling}
use Rattle.moment.proofs.Chains.{then_fill}
use Rattle.moment.proofs.Moment.ceiling.Goals as goal

pub returns : goal.returns
unfolding ceiling
returns c = then_fill (λ p. set_over p 0) (then_fill clear c.count_ms.ensures c.clear.ensures) c.not_over.ensures
