-- `modifiers::counts::by_unit` meets its contract.
use Rattle.std.proofs.Common.{sym, ◌∙◌}
use Rattle.modifiers.proofs.Forms.{reaches}
use Rattle.modifiers.proofs.counts.by_unit.Goals as goal

pub by_length-requires : goal.by_length-requires
by_length-requires c = (reaches c.args.unit _ _ (sym c.scale_of.ensures ∙ c.in-Length.is), c.requires)

pub by_months-requires : goal.by_months-requires
by_months-requires c = (reaches c.args.unit _ _ (sym c.scale_of.ensures ∙ c.in-Months.is), c.requires)
