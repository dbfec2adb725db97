-- `reading::date` meets its contract.
use mathlib.Core.Path.{sym, ◌∙◌}
use Rattle.reading.proofs.Dates.{minus_read, minus_not_read}
use Rattle.reading.proofs.date.Goals as goal
use Rattle.reading.proofs.date.Goals.{in-Some, in-None}

pub returns-clause-value : goal.returns-clause-value
returns-clause-value c =
    elim c.match-byte.branch [
      | in-Some w ↦ (rw w.minus-is at c.date_from.ensures.value) ∙ sym (minus_read _ _ (sym w.in-Some.ensures.value))
      | in-None w ↦ (rw w.minus-is at c.date_from.ensures.value) ∙ sym (minus_not_read _ (sym w.in-None.ensures.value))
    ]
