-- `moment::Moment::by_length` meets its contract.
use mir.Syntax.{w64}
use mir.ValLaws.{to_z-of_z}
use Rattle.rules.specs.Moments.{set_over}
use Rattle.moment.proofs.Chains.{move_fill}
use Rattle.moment.proofs.Moment.by_length.Goals as goal

pub returns : goal.returns
returns c = move_fill (λ p. set_over p 0) (rw (to_z-of_z w64 _ c.ranges.ms) at c.by_time.ensures) c.not_over.ensures
