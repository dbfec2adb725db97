-- `moment::Moment::by_time` meets its contract.
use mir.Syntax.{w64}
use mir.ValLaws.{to_z-of_z}
use Rattle.moment.specs.Ranges.{most_before}
use Rattle.moment.proofs.Chains.{then_move}
use Rattle.moment.proofs.Modifiers.{step}
use Rattle.moment.proofs.Moment.by_time.Goals as goal

pub moved-requires : goal.moved-requires
moved-requires c = (c.count_ms.ensures.after most_before c.requires.0, rw (to_z-of_z w64 _ c.ranges.ms) c.requires.1)

pub returns : goal.returns
returns c = then_move (step c.args.ms) c.count_ms.ensures (rw (to_z-of_z w64 _ c.ranges.ms) at c.moved.ensures)
