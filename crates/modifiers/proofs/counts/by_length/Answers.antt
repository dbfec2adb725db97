-- `modifiers::counts::by_length` meets its contract.
use Rattle.std.proofs.Common.{sym, ap, ◌∙◌, w64}
use mir.ValLaws.{to_z-of_z}
use Rattle.moment.specs.Held.{held}
use Rattle.moment.specs.Steps.{length_on}
use Rattle.moment.proofs.Chains.{moved_as}
use Rattle.modifiers.proofs.Forms.{length_out, length_in}
use Rattle.modifiers.proofs.Answers.{stepped, refused}
use Rattle.modifiers.proofs.counts.by_length.Goals as goal

pub returns-then-not-below : goal.returns-then-not-below
returns-then-not-below c = refused _ _ _ (length_out _ _ _ _ (sym c.below.ensures ∙ c.if-not-below.true))

pub returns : goal.returns
returns c = stepped _ (length_in _ _ _ _ (sym c.below.ensures ∙ c.if-not-below.false)) (moved_as (ap (λ z. length_on z (held c.args.p)) (to_z-of_z w64 _ (record { sfits = c.unit_ms.type_inv }) ∙ c.unit_ms.ensures)) c.by_length.ensures)
