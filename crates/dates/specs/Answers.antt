-- The answers of the lines of a block, as they stand in the output.
use Rattle.std.specs.Prelude.{ℕ, ◌≡◌, Bool, List, [], ◌∷◌, ◌++◌, Result, Ok, Err, eqb}
use Rattle.rules.specs.Basics.{ascii, parts}
use Rattle.rules.specs.Program.{line}
use Rattle.rules.specs.declared.Answer.{Answer}
use Rattle.rules.specs.declared.Unanswered.{Unanswered}
use Rattle.rules.specs.declared.Setting.{Setting}
use Rattle.digits.specs.Writers.{Laid}
use Rattle.dates.specs.Buffers.{HasRoom}

abbrev pub is_newline : ℕ → Bool
is_newline b = eqb b 10

-- how many bytes a text has that found room
abbrev pub text_length : Result Answer Unanswered → ℕ
text_length (Ok (Answer.Text n)) = n
text_length (Ok (Answer.Integer n)) = 0
text_length (Ok (Answer.Real x)) = 0
text_length (Err r) = 0

-- a line's answer, and its newline
abbrev pub line_text : Setting → List ℕ → List ℕ
line_text set s = line set s ++ ascii "\n"

-- the answers of all lines but the last, which goes on in the next block
unfoldable pub ended : Setting → List (List ℕ) → List ℕ
ended set [] = []
ended set (s ∷ []) = []
ended set (s ∷ t ∷ ss) = line_text set s ++ ended set (t ∷ ss)

abbrev pub ended_in : Setting → List ℕ → List ℕ
ended_in set block = ended set (parts is_newline block)

-- that last line, or what of it stands in the block
unfoldable pub last_of : List (List ℕ) → List ℕ
last_of [] = []
last_of (s ∷ []) = s
last_of (s ∷ t ∷ ss) = last_of (t ∷ ss)

abbrev pub last_in : List ℕ → List ℕ
last_in block = last_of (parts is_newline block)

-- the same of a block whose first line began earlier: k is kept of it
abbrev pub onto : List ℕ → List (List ℕ) → List (List ℕ)
onto k [] = k ∷ []
onto k (s ∷ ss) = (k ++ s) ∷ ss

abbrev pub last_after : List ℕ → List ℕ → List ℕ
last_after k block = last_of (onto k (parts is_newline block))

-- the lines of a block are answered but for those of the rest, which follows `past`: `done` is laid after `used` bytes, which are now `next`,
-- and what is left are the answers of the lines of the rest, and the same last line
pub record Answered (set : Setting) (block old : List ℕ) (used : ℕ) (new : List ℕ) (next : ℕ) (rest : List ℕ) : Type 0 where
  pub past : List ℕ
  pub done : List ℕ
  pub whole : block ≡ past ++ rest
  pub laid : Laid old used done new next
  pub left : ended_in set block ≡ done ++ ended_in set rest
  pub last : last_in block ≡ last_in rest

-- and as far as they can be: where an answer with its newline still has room, no line ends in the rest
pub record Answers (set : Setting) (block old : List ℕ) (used : ℕ) (new : List ℕ) (next : ℕ) (rest : List ℕ) : Type 0 where
  pub answered : Answered set block old used new next rest
  pub stops : HasRoom next → ended_in set rest ≡ []
