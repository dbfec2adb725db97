-- Answers shown in the lent buffer. Assumes nothing.
use Prim.Native.Nat.{ℕ}
use Rattle.std.specs.Prelude.{if◌then◌else◌, Result, Ok, Err}
use mathlib.Core.Bool.{Bool, true, false}
use mathlib.Core.Path.{◌≡◌, refl, ◌∙◌}
use mathlib.Core.List.{List, ◌++◌}
use lib.Dec.{leb}
use lib.ListN.{length, drop}
use Rattle.rules.specs.Calls.{Outcome, text, integer, real, refused, answered, after}
use Rattle.rules.specs.Program.{shown}
use Rattle.rules.specs.declared.Answer.{Answer}
use Rattle.rules.specs.declared.Unanswered.{Unanswered}
use Rattle.datetime.specs.Given.{Gives}
use Rattle.lines.specs.Shown.{shown_answer, shown_after}

-- ---- an outcome's text is what its answer is shown as
pub shown_answer_lem : (o : Outcome) (room : ℕ) → shown_answer (answered o room) room ≡ answered (text (shown o)) room
unfolding answered shown
shown_answer_lem (text s) room = go (leb (length s) room)
  where
    go : (t : Bool) → shown_answer (if t then Ok (Answer.Text (length s)) else Err (Unanswered.NoRoom (length s))) room ≡ (if t then Ok (Answer.Text (length s)) else Err (Unanswered.NoRoom (length s)))
    go true = refl
    go false = refl
shown_answer_lem (integer n) room = refl
shown_answer_lem (real x) room = refl
shown_answer_lem (refused r) room = refl

pub shown_after_lem : (o : Outcome) (old : List ℕ) → shown_after (answered o (length old)) (after o old) ≡ after (text (shown o)) old
unfolding answered after shown
shown_after_lem (text s) old = go (leb (length s) (length old))
  where
    go : (t : Bool) → shown_after (if t then Ok (Answer.Text (length s)) else Err (Unanswered.NoRoom (length s))) (if t then s ++ drop (length s) old else old) ≡ (if t then s ++ drop (length s) old else old)
    go true = refl
    go false = refl
shown_after_lem (integer n) old = refl
shown_after_lem (real x) old = refl
shown_after_lem (refused r) old = refl

-- an answer was given, and then shown
pub gives_shown : {o : Outcome} {old new shown' : List ℕ} {a r : Result Answer Unanswered} → Gives o old new a → length new ≡ length old → r ≡ shown_answer a (length new) → shown' ≡ shown_after a new → (r ≡ answered (text (shown o)) (length old)) × (shown' ≡ after (text (shown o)) old)
gives_shown {o} {old} g e p q =
    (p ∙ rw (e, g.is) (shown_answer_lem o (length old)), q ∙ rw (g.is, g.bytes) (shown_after_lem o old))
