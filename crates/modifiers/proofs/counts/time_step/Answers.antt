-- `modifiers::counts::time_step` meets its contract.
use Rattle.std.proofs.Common.{sym, ap, ◌∙◌, w64}
use mir.ValLaws.{to_z-of_z}
use Rattle.rules.specs.Basics.{refuse, ◌or◌}
use Rattle.rules.specs.Modifiers.{signed}
use Rattle.rules.specs.declared.Refusal.{Refusal}
use Rattle.moment.specs.Held.{held}
use Rattle.moment.specs.Steps.{time_on}
use Rattle.moment.proofs.Chains.{moved_as}
use Rattle.modifiers.proofs.Forms.{no_time, is_time}
use Rattle.modifiers.proofs.Answers.{stepped, stepped_as}
use Rattle.modifiers.proofs.counts.time_step.Goals as goal

pub returns-in-None : goal.returns-in-None
returns-in-None c = stepped_as _ (ap (λ r. r or refuse Refusal.Null) (no_time _ _ _ _ (sym c.in-None.ensures.value))) c.unit_step.ensures

pub returns-in-Some : goal.returns-in-Some
returns-in-Some c =
    let ms = to_z-of_z w64 _ (record { sfits = c.signed.type_inv }) ∙ c.signed.ensures ∙ ap (signed c.args.minus) c.time_ms.ensures.0 in
    stepped _ (is_time _ _ _ _ _ (sym c.in-Some.ensures.value)) (moved_as (ap (λ z. time_on z (held c.args.p)) ms) c.by_time.ensures)
