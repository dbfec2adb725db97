-- The lines of an input, the calls at them, and what is written for them.
use Rattle.std.specs.Prelude.{ℕ, ◌-◌, ◌≡◌, ◌||◌, if◌then◌else◌, List, [], ◌∷◌, ◌++◌, Option, eqb, length, take}
use Rattle.std.specs.List.{FoldsTo, ends_with}
use Rattle.std.specs.Fn.{Mut, Called}
use Rattle.std.specs.Borrow.{MutBor}
use Rattle.std.specs.Io.KnownBytes.{Appends, Consumes}

-- a line with one byte more, if it has room for it
abbrev pub kept : ℕ → List ℕ → ℕ → List ℕ
kept room line b = take room (line ++ b ∷ [])

-- the lines that end in a text, with their newlines, each as far as it has room; `line` is what is kept of the first from before
unfoldable pub ended_lines : ℕ → List ℕ → List ℕ → List (List ℕ)
ended_lines room line [] = []
ended_lines room line (b ∷ s) = let more = kept room line b in if eqb b 10 then more ∷ ended_lines room [] s else ended_lines room more s

-- f, called at a line, becomes f'
pub record CalledAtLine {F R : Type 0} (g : Mut F (MutBor (List ℕ) × Unit {0}) (R × (MutBor (List ℕ) × Unit {0}))) (f : F) (line : List ℕ) (f' : F) : Type 0 where
  pub shown : MutBor (List ℕ)
  pub shows : shown.now ≡ line
  pub result : R
  pub left : MutBor (List ℕ)
  pub called : Called g f (shown, tt) (result, (left, tt)) f'

-- f was called at each line that ends in what was taken of the input, in order
abbrev pub CalledAtLines : {F R : Type 0} → Mut F (MutBor (List ℕ) × Unit {0}) (R × (MutBor (List ℕ) × Unit {0})) → F → Option (List ℕ) → Option (List ℕ) → ℕ → Type 0
CalledAtLines {F} g f old new room = (taken : List ℕ) × (last : F) × Consumes old new taken × FoldsTo (CalledAtLine g) f (ended_lines room [] taken) last

-- a line without its newline
abbrev pub content : List ℕ → List ℕ
content line = if ends_with eqb line (10 ∷ []) then take (length line - 1) line else line

-- a tab and a newline end a field: a zero byte stands for them
abbrev pub field_byte : ℕ → ℕ
field_byte b = if eqb b 9 || eqb b 10 then 0 else b

-- as much of a text is written as the writer took, from its front
abbrev pub Says : Option (List ℕ) → Option (List ℕ) → List ℕ → Type 0
Says old new text = (n : ℕ) × Appends old new (take n text)
