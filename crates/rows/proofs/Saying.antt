-- What a writer took of a text, whether all or a part.
use Rattle.std.proofs.Common.{ℕ, List, length, sym, subst}
use Rattle.std.proofs.Math.Seq.{take-length}
use Rattle.std.specs.Prelude.{Option, Result, Ok, Err, ⊤}
use Rattle.std.specs.Io.KnownBytes.{Appends}
use Rattle.streams.specs.Known.{Writes}
use Rattle.rows.specs.Lines.{Says}

pub says : {E : Type 0} (old new : Option (List ℕ)) (text : List ℕ) (done : Result ⊤ E) → Writes old new text done → Says old new text
says old new text (Ok _) h = (length text, subst (Appends old new) (sym (take-length text)) h)
says old new text (Err e) (n, less, h) = (n, h)
