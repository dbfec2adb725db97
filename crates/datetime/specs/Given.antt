-- What a public function hands back of an outcome.
use Rattle.std.specs.Prelude.{if◌then◌else◌, ℕ, ◌≡◌, Bool, List, Result, length}
use Rattle.rules.specs.Basics.{got, ◌>>=◌}
use Rattle.rules.specs.Calls.{Outcome, text, integer, real, answered, after}
use Rattle.rules.specs.Functions.{settle}
use Rattle.rules.specs.Moments.{Moment}
use Rattle.rules.specs.Writing.{unix_seconds, unix_real, formatted}
use Rattle.rules.specs.declared.Answer.{Answer}
use Rattle.rules.specs.declared.Unanswered.{Unanswered}

-- r comes back, and the lent buffer, which held `old`, holds `new`
pub record Gives (o : Outcome) (old new : List ℕ) (r : Result Answer Unanswered) : Type 0 where
  pub is : r ≡ answered o (length old)
  pub bytes : new ≡ after o old

-- the outcome of a format
abbrev pub formatted_of : Moment → List ℕ → Outcome
formatted_of p f = settle (do s ← formatted p f; got (text s))

-- rules' `outcome_of Unixepoch`, which looks at no more of a record than its milliseconds and subsec
abbrev pub unix_of : ℕ → Bool → Outcome
unix_of ms subsec = if subsec then real (unix_real ms) else integer (unix_seconds ms)
