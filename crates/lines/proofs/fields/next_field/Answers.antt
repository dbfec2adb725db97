-- `lines::fields::next_field` meets its contract. Assumes nothing.
use Rattle.lines.proofs.Parts.{cut_fields, cut_following}
use Rattle.lines.proofs.fields.next_field.Goals as goal

pub returns-in-Some : goal.returns-in-Some
returns-in-Some c = rw c.in-Some.is (cut_fields _ _ _ c.cut.ensures, cut_following _ _ _ c.cut.ensures)
