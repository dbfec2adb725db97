-- `writing::unix_length` meets its contract. Assumes nothing.
use mathlib.Core.Path.{sym, ap, ◌∙◌}
use lib.ListN.{length}
use Rattle.writing.proofs.Texts.{unix_decimals_lem, unix_whole}
use Rattle.writing.proofs.unix_length.Goals as goal

pub returns-then-p : goal.returns-then-p
returns-then-p c = c.unix_decimals_length.ensures ∙ sym (ap length (unix_decimals_lem _ c.if-p.true))

pub returns-else-p : goal.returns-else-p
returns-else-p c = c.integer_length.ensures ∙ sym (ap length (unix_whole _ _ c.if-p.false c.unix_seconds.type_inv c.unix_seconds.ensures))
