-- What writing a text does to the bytes that a writer holds, where those are known: std's word, for the answers of this crate's functions.
use Rattle.std.specs.Prelude.{ℕ, ◌<◌, List, length, take, Option, Result, Ok, Err, ⊤}
use Rattle.std.specs.Io.KnownBytes.{Appends}

-- all of the text is written, or else a part of it, from its front
abbrev pub Writes : {E : Type 0} → Option (List ℕ) → Option (List ℕ) → List ℕ → Result ⊤ E → Type 0
Writes old new text (Ok done) = Appends old new text
Writes old new text (Err e) = (n : ℕ) × (n < length text) × Appends old new (take n text)
